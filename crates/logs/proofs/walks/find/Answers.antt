use Rattle.logs.proofs.WalkLaws.{walk_steps}
use Rattle.logs.proofs.walks.find.Goals as goal

pub returns-then-passes : goal.returns-then-passes
returns-then-passes c = search walk_steps

pub loop-i-preserved : goal.loop-i-preserved
loop-i-preserved c = search walk_steps

pub returns : goal.returns
returns c = search walk_steps
