-- `finish` meets its contract: lengths, total and kind are read before the slot is freed, and its parts make a series that fits out. Assumes
-- nothing.
use Rattle.card.proofs.Steps.{act_steps}
use Rattle.card.proofs.part.finish.Goals as goal

pub returns-clause-result_value : goal.returns-clause-result_value
returns-clause-result_value c = search act_steps

pub returns-clause-out_after : goal.returns-clause-out_after
returns-clause-out_after c = search act_steps
