use Rattle.formed.proofs.Steps.{formed_steps}
use Rattle.formed.proofs.parts_formed.Goals as goal

pub loop-i-init : goal.loop-i-init
loop-i-init c = search formed_steps

pub loop-i-preserved : goal.loop-i-preserved
loop-i-preserved c = search formed_steps

pub returns : goal.returns
returns c = search formed_steps
