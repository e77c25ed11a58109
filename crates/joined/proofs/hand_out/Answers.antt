-- `hand_out` meets its contract: behind the test out has room for all of p; the front tells the packet's length, which p has, and
-- `copy_front` writes that many octets; where it tells of none, nothing is written. Assumes nothing.
use Rattle.joined.proofs.Steps.{steps}
use Rattle.joined.proofs.hand_out.Goals as goal

pub returns-in_err-size-clause-result_value : goal.returns-in_err-size-clause-result_value
returns-in_err-size-clause-result_value c = search (steps, c.in_err-size.was)

pub returns-in_err-size-clause-out_after : goal.returns-in_err-size-clause-out_after
returns-in_err-size-clause-out_after c = search (steps, c.in_err-size.was)

pub copy_front-requires : goal.copy_front-requires
copy_front-requires c = search (steps, c.in_ok-size.was)

pub returns-clause-result_value : goal.returns-clause-result_value
returns-clause-result_value c = search (steps, c.in_ok-size.was)

pub returns-clause-out_after : goal.returns-clause-out_after
returns-clause-out_after c = search (steps, c.in_ok-size.was)
