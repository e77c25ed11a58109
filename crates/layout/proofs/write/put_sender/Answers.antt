-- `put_sender` meets its contract: the high half of the sender, then the low one. Assumes nothing.
use Rattle.layout.proofs.WriteSteps.{write_steps}
use Rattle.layout.proofs.write.put_sender.Goals as goal

pub returns : goal.returns
returns c = search write_steps
