-- `set_pair` meets its contract: the high octet of the number, then the low one. Assumes nothing.
use Rattle.layout.proofs.WriteSteps.{write_steps}
use Rattle.layout.proofs.write.set_pair.Goals as goal

pub returns : goal.returns
returns c = search write_steps
