-- `state_record` meets its contract: kind, number and slots are those that the octets hold. Assumes nothing.
use Rattle.whole.proofs.Steps.{steps}
use Rattle.whole.proofs.record.state_record.Goals as goal

pub returns : goal.returns
returns c = search steps
