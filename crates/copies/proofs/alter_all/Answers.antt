use Rattle.copies.proofs.CopyLaws.{copy_steps}
use Rattle.copies.proofs.alter_all.Goals as goal

pub loop-i-preserved : goal.loop-i-preserved
loop-i-preserved c = search copy_steps

pub returns : goal.returns
returns c = search copy_steps
