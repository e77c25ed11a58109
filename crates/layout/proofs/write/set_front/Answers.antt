-- `set_front` meets its contract: two changes of one slot, its rank and then its count, are one. Assumes nothing.
use Rattle.layout.proofs.WriteSteps.{write_steps}
use Rattle.layout.proofs.write.set_front.Goals as goal

pub returns : goal.returns
returns c = search write_steps
