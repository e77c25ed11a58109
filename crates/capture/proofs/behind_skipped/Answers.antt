use Rattle.capture.proofs.Steps.{steps}
use Rattle.capture.proofs.behind_skipped.Goals as goal

pub returns-then-is_some : goal.returns-then-is_some
returns-then-is_some c = search steps

pub loop-at-preserved : goal.loop-at-preserved
loop-at-preserved c = search steps

pub returns : goal.returns
returns c = search steps
