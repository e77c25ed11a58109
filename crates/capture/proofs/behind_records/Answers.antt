use Rattle.capture.specs.Captures.{leading, next_run}
use Rattle.capture.proofs.Steps.{steps}
use Rattle.capture.proofs.behind_records.Goals as goal

pub loop-n-preserved : goal.loop-n-preserved
loop-n-preserved c = search steps

pub returns : goal.returns
unfolding next_run leading
returns c = search steps
