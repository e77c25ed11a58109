-- `open` meets its contract: a free slot with that key and that total is an opened one. Assumes nothing.
use Rattle.layout.proofs.WriteSteps.{write_steps}
use Rattle.layout.proofs.write.open.Goals as goal

pub returns : goal.returns
returns c = search write_steps
