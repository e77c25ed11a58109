use Rattle.sound.proofs.Steps.{steps}
use Rattle.sound.proofs.ranked.Goals as goal

pub loop-r-init : goal.loop-r-init
loop-r-init c = search steps

pub loop-r-preserved : goal.loop-r-preserved
loop-r-preserved c = search steps

pub returns : goal.returns
returns c = search steps
