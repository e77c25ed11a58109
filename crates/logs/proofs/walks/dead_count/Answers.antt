use Rattle.logs.proofs.WalkLaws.{walk_steps}
use Rattle.logs.proofs.walks.dead_count.Goals as goal

pub loop-i-init : goal.loop-i-init
loop-i-init c = search walk_steps

pub loop-i-preserved : goal.loop-i-preserved
loop-i-preserved c = search walk_steps
