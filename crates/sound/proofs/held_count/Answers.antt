use Rattle.sound.proofs.Steps.{steps}
use Rattle.sound.proofs.held_count.Goals as goal

pub loop-k-init : goal.loop-k-init
loop-k-init c = search steps

pub loop-k-preserved : goal.loop-k-preserved
loop-k-preserved c = search steps
