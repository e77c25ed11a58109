use Rattle.formed.proofs.RecordSteps.{record_steps}
use Rattle.formed.proofs.slots_hold.Goals as goal

pub loop-i-init : goal.loop-i-init
loop-i-init c = search record_steps

pub loop-i-preserved-then-paired : goal.loop-i-preserved-then-paired
loop-i-preserved-then-paired c = search record_steps

pub loop-i-preserved : goal.loop-i-preserved
loop-i-preserved c = search record_steps

pub returns : goal.returns
returns c = search record_steps
