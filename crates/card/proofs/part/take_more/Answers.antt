-- `take_more` meets its contract: each step makes of the record in the octets what the rule makes of it; refusing changes no octet. Assumes
-- nothing.
use Rattle.card.proofs.Steps.{more_steps}
use Rattle.card.proofs.part.take_more.Goals as goal

pub returns-in-Repeats-clause-out_after : goal.returns-in-Repeats-clause-out_after
returns-in-Repeats-clause-out_after c = search (more_steps, c.in_ok-decide.was)

pub returns-in-Keeps-clause-out_after : goal.returns-in-Keeps-clause-out_after
returns-in-Keeps-clause-out_after c = search (more_steps, c.in_ok-decide.was)

pub returns-in-Finishes-clause-out_after : goal.returns-in-Finishes-clause-out_after
returns-in-Finishes-clause-out_after c = search (more_steps, c.in_ok-decide.was)
