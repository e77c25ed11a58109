-- `take_part` meets its contract: a series that is held goes on as the rule says of its slot, and another is opened. Assumes nothing.
use Rattle.card.proofs.Steps.{more_steps}
use Rattle.card.proofs.part.take_part.Goals as goal

pub returns-then-o-clause-out_after : goal.returns-then-o-clause-out_after
returns-then-o-clause-out_after c = search more_steps

pub returns-clause-out_after : goal.returns-clause-out_after
returns-clause-out_after c = search more_steps
