use Rattle.logs.proofs.WalkLaws.{walk_steps}
use Rattle.logs.proofs.walks.free_slot.Goals as goal

pub returns-then-not-has : goal.returns-then-not-has
returns-then-not-has c = search walk_steps

pub loop-i-preserved : goal.loop-i-preserved
loop-i-preserved c = search walk_steps

pub returns : goal.returns
returns c = search walk_steps
