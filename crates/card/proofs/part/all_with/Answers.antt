use Rattle.card.proofs.Steps.{decide_steps}
use Rattle.card.proofs.part.all_with.Goals as goal

pub loop-j-init : goal.loop-j-init
loop-j-init c = search decide_steps

pub loop-j-preserved : goal.loop-j-preserved
loop-j-preserved c = search decide_steps

pub returns : goal.returns
returns c = search decide_steps
