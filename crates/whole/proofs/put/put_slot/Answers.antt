-- `put_slot` meets its contract: three runs, one behind the other, are the octets of the slot. Assumes nothing.
use Rattle.whole.proofs.Steps.{steps}
use Rattle.whole.proofs.put.put_slot.Goals as goal

pub returns-clause-x_len : goal.returns-clause-x_len
returns-clause-x_len c = search steps

pub returns-clause-state_after : goal.returns-clause-state_after
returns-clause-state_after c = search steps
