-- The first character that is no blank decides. Assumes nothing.
use Rattle.words.proofs.Steps.{steps}
use Rattle.words.proofs.line.is_silent.Goals as goal

pub returns-then-line-at : goal.returns-then-line-at
returns-then-line-at c = search steps

pub returns-else-line-at : goal.returns-else-line-at
returns-else-line-at c = search steps
