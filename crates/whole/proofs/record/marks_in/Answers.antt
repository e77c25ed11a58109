use Rattle.whole.proofs.Steps.{steps}
use Rattle.whole.proofs.record.marks_in.Goals as goal

pub loop-k-init : goal.loop-k-init
loop-k-init c = search steps

pub returns : goal.returns
returns c = search steps
