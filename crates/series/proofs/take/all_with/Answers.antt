use Rattle.series.proofs.TakeSteps.{decide_steps}
use Rattle.series.proofs.take.all_with.Goals as goal

pub loop-i-init : goal.loop-i-init
loop-i-init c = search decide_steps

pub loop-i-preserved : goal.loop-i-preserved
loop-i-preserved c = search decide_steps

pub returns : goal.returns
returns c = search decide_steps
