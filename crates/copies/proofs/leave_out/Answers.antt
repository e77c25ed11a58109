use Rattle.copies.proofs.CopyLaws.{copy_steps}
use Rattle.copies.proofs.leave_out.Goals as goal

pub loop-i-init : goal.loop-i-init
loop-i-init c = search copy_steps

pub loop-i-preserved : goal.loop-i-preserved
loop-i-preserved c = search copy_steps
