use Rattle.sound.proofs.Steps.{steps}
use Rattle.sound.proofs.used_count.Goals as goal

pub loop-i-init : goal.loop-i-init
loop-i-init c = search steps

pub loop-i-preserved : goal.loop-i-preserved
loop-i-preserved c = search steps
