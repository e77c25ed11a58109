use Rattle.logs.proofs.WalkLaws.{walk_steps}
use Rattle.logs.proofs.walks.complete.Goals as goal

pub loop-k-init : goal.loop-k-init
loop-k-init c = search walk_steps

pub loop-k-preserved : goal.loop-k-preserved
loop-k-preserved c = search walk_steps
