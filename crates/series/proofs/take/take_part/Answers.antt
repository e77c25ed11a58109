-- `take_part` meets its contract: a series that is held goes on as the rule says of its slot, and another is opened. Assumes nothing.
use Rattle.std.proofs.Common.{refl}
use Rattle.series.proofs.TakeSteps.{part_more, more_steps}
use Rattle.series.proofs.take.take_part.Goals as goal

pub returns-then-o : goal.returns-then-o
returns-then-o c = part_more _ _ _ _ _ _ _ _ _ c.take_more.result _ _ _ c.if-o.true refl c.take_more.ensures

pub returns : goal.returns
returns c = search more_steps
