-- The rule takes the same branch: the line ends here, or there is a word. Assumes nothing.
use Rattle.words.proofs.Steps.{steps}
use Rattle.words.proofs.line.step.Goals as goal

pub returns-then-last-sort-clause-line_after : goal.returns-then-last-sort-clause-line_after
returns-then-last-sort-clause-line_after c = search steps

pub returns-clause-line_after : goal.returns-clause-line_after
returns-clause-line_after c = search steps
