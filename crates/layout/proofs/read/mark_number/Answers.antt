-- `mark_number` meets its contract: a mark of a state is 0 or 1, and it is held if it is not 0. Assumes nothing.
use Rattle.layout.proofs.ReadSteps.{read_steps}
use Rattle.layout.proofs.read.mark_number.Goals as goal

pub returns-then-k-lt-PARTS : goal.returns-then-k-lt-PARTS
returns-then-k-lt-PARTS c = search read_steps

pub returns : goal.returns
returns c = search read_steps
