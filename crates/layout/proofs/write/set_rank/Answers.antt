-- `set_rank` meets its contract: octet 0 of a slot says its rank and nothing else. Assumes nothing.
use Rattle.layout.proofs.WriteSteps.{write_steps}
use Rattle.layout.proofs.write.set_rank.Goals as goal

pub returns : goal.returns
returns c = search write_steps
