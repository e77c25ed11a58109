use Rattle.cells.proofs.Steps.{join_steps}
use Rattle.cells.proofs.packets.join.Goals as goal

pub loop-k-init : goal.loop-k-init
loop-k-init c = search join_steps

pub loop-k-preserved : goal.loop-k-preserved
loop-k-preserved c = search join_steps

pub returns : goal.returns
returns c = search join_steps
