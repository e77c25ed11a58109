-- `put_key` meets its contract: the octets stored, read as a key, are that key again. Assumes nothing.
use Rattle.layout.proofs.WriteSteps.{write_steps}
use Rattle.layout.proofs.write.put_key.Goals as goal

pub returns : goal.returns
returns c = search write_steps
