use Rattle.formed.proofs.Steps.{formed_steps}
use Rattle.formed.proofs.held_count.Goals as goal

pub loop-i-init : goal.loop-i-init
loop-i-init c = search formed_steps

pub loop-i-preserved : goal.loop-i-preserved
loop-i-preserved c = search formed_steps
