-- By cases on the sort. Assumes nothing.
use Rattle.words.proofs.Steps.{steps}
use Rattle.words.proofs.line.word_read.Goals as goal

pub returns-then-sort-ge-ANY-clause-line_after : goal.returns-then-sort-ge-ANY-clause-line_after
returns-then-sort-ge-ANY-clause-line_after c = search steps

pub returns-else-sort-ge-ANY-clause-line_after : goal.returns-else-sort-ge-ANY-clause-line_after
returns-else-sort-ge-ANY-clause-line_after c = search steps
