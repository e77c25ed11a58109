-- `finish` meets its contract: the packet is the one in what the parts join to, and the slot is free. Assumes nothing.
use Rattle.series.proofs.TakeSteps.{act_steps}
use Rattle.series.proofs.take.finish.Goals as goal

pub returns-clause-answer_value : goal.returns-clause-answer_value
returns-clause-answer_value c = search act_steps

pub returns-clause-out_after : goal.returns-clause-out_after
returns-clause-out_after c = search act_steps
