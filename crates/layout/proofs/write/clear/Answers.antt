use Rattle.layout.proofs.WriteSteps.{write_steps}
use Rattle.layout.proofs.write.clear.Goals as goal

pub loop-p-init : goal.loop-p-init
loop-p-init c = search write_steps

pub loop-p-preserved : goal.loop-p-preserved
loop-p-preserved c = search write_steps

pub returns-after-loop-p : goal.returns-after-loop-p
returns-after-loop-p c = search write_steps

pub returns-else-i-lt-SLOTS : goal.returns-else-i-lt-SLOTS
returns-else-i-lt-SLOTS c = search write_steps
