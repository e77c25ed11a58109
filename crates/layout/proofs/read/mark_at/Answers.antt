-- `mark_at` meets its contract: the octet at k behind the lengths is the mark at k, and there are sixteen. Assumes nothing.
use Rattle.layout.proofs.ReadSteps.{read_steps}
use Rattle.layout.proofs.read.mark_at.Goals as goal

pub returns-then-k-lt-PARTS : goal.returns-then-k-lt-PARTS
returns-then-k-lt-PARTS c = search read_steps

pub returns : goal.returns
returns c = search read_steps
