-- `set_total` meets its contract: octet 13 of a slot says its total and nothing else. Assumes nothing.
use Rattle.layout.proofs.WriteSteps.{write_steps}
use Rattle.layout.proofs.write.set_total.Goals as goal

pub returns : goal.returns
returns c = search write_steps
