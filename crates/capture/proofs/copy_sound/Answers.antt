use Rattle.capture.proofs.Steps.{steps}
use Rattle.capture.proofs.copy_sound.Goals as goal

pub loop-at-init : goal.loop-at-init
loop-at-init c = search steps

pub loop-at-preserved-in_default : goal.loop-at-preserved-in_default
loop-at-preserved-in_default c = search steps

pub loop-at-preserved : goal.loop-at-preserved
loop-at-preserved c = search steps

pub returns : goal.returns
returns c = search steps
