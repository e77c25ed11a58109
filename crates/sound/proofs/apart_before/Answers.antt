use Rattle.sound.proofs.Steps.{steps}
use Rattle.sound.proofs.apart_before.Goals as goal

pub returns-then-free : goal.returns-then-free
returns-then-free c = search steps

pub loop-j-init : goal.loop-j-init
loop-j-init c = search steps

pub loop-j-preserved : goal.loop-j-preserved
loop-j-preserved c = search steps
