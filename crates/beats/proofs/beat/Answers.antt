use Rattle.beats.proofs.Steps.{steps}
use Rattle.beats.proofs.beat.Goals as goal

pub returns-then-not-record_formed : goal.returns-then-not-record_formed
returns-then-not-record_formed c = search steps

pub returns-then-limit-eq0 : goal.returns-then-limit-eq0
returns-then-limit-eq0 c = search steps

pub loop-i-init : goal.loop-i-init
loop-i-init c = search steps

pub loop-i-preserved : goal.loop-i-preserved
loop-i-preserved c = search steps

pub returns : goal.returns
returns c = search steps
