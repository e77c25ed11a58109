-- A dash is no octets; else there are pairs. Assumes nothing.
use Rattle.words.proofs.Steps.{steps}
use Rattle.words.proofs.octets_at.Goals as goal

pub returns-then-line-from-eq45 : goal.returns-then-line-from-eq45
returns-then-line-from-eq45 c = search steps

pub returns-else-line-from-eq45 : goal.returns-else-line-from-eq45
returns-else-line-from-eq45 c = search steps
