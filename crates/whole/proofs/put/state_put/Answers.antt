use Rattle.whole.proofs.Steps.{steps}
use Rattle.whole.proofs.put.state_put.Goals as goal

pub loop-i-init : goal.loop-i-init
loop-i-init c = search steps

pub put_slot-requires : goal.put_slot-requires
put_slot-requires c = search steps

pub loop-i-preserved : goal.loop-i-preserved
loop-i-preserved c = search steps

pub returns : goal.returns
returns c = search steps
