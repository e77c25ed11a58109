-- `take_arrival` meets its contract: each arm comes to what the rule says of what reading gave, and behind the tests the record gives a part its
-- room. Assumes nothing.
use Rattle.card.proofs.Steps.{take_steps}
use Rattle.card.proofs.take_arrival.Goals as goal

pub take_part-requires-clause-seated : goal.take_part-requires-clause-seated
take_part-requires-clause-seated c = search (take_steps, c.in_ok-start.was)

pub take_part-requires-clause-room : goal.take_part-requires-clause-room
take_part-requires-clause-room c = search (take_steps, c.in_ok-start.was)

pub take_part-requires-clause-whole : goal.take_part-requires-clause-whole
take_part-requires-clause-whole c = search (take_steps, c.in_ok-start.was)

pub returns-in-Part-clause-out_after : goal.returns-in-Part-clause-out_after
returns-in-Part-clause-out_after c = search (take_steps, c.in_ok-start.was)
