use Rattle.layout.proofs.ReadSteps.{read_steps}
use Rattle.layout.proofs.read.is_blank.Goals as goal

pub loop-p-init : goal.loop-p-init
loop-p-init c = search read_steps

pub loop-p-preserved : goal.loop-p-preserved
loop-p-preserved c = search read_steps
