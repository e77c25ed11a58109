-- `lengths_at` meets its contract: the lengths are sixteen octets of the state in a row; past the last slot there are none. Assumes nothing.
use Rattle.layout.proofs.ReadSteps.{read_steps}
use Rattle.layout.proofs.read.lengths_at.Goals as goal

pub returns-then-i-lt-SLOTS : goal.returns-then-i-lt-SLOTS
returns-then-i-lt-SLOTS c = search read_steps

pub returns : goal.returns
returns c = search read_steps
