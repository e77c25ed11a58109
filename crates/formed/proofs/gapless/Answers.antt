use Rattle.formed.proofs.RecordSteps.{five_used, record_steps}
use Rattle.formed.proofs.gapless.Goals as goal

pub loop-r-init : goal.loop-r-init
loop-r-init c = (
  search record_steps,
  search record_steps,
  five_used _ _ _ _ _ _ _ _ _ _ c.one.ensures.0 c.one-2.ensures.0 c.one-3.ensures.0 c.one-4.ensures.0 c.one-5.ensures.0,
  search record_steps,
)

pub loop-r-preserved : goal.loop-r-preserved
loop-r-preserved c = (search record_steps, search record_steps, search record_steps, search record_steps)
