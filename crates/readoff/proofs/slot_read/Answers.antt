-- `slot_read` meets its contract. Each need follows by a law of `Steps`. Assumes nothing.
use Rattle.readoff.proofs.Steps.{steps}
use Rattle.readoff.proofs.slot_read.Goals as goal

pub returns-then-i-count : goal.returns-then-i-count
returns-then-i-count c = search steps

pub returns : goal.returns
returns c = search steps
