use Rattle.cells.proofs.Steps.{front_steps}
use Rattle.cells.proofs.packets.joined_front.Goals as goal

pub loop-k-init : goal.loop-k-init
loop-k-init c = search front_steps

pub loop-k-preserved : goal.loop-k-preserved
loop-k-preserved c = search front_steps
