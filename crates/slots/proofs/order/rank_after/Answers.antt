-- `rank_after` meets its contract: by cases on the two tests, of which the flag lets one count. Assumes nothing.
use Rattle.slots.proofs.OrderSteps.{order_steps}
use Rattle.slots.proofs.order.rank_after.Goals as goal

pub returns-then-front-q : goal.returns-then-front-q
returns-then-front-q c = search order_steps

pub returns-then-front-r : goal.returns-then-front-r
returns-then-front-r c = search order_steps

pub returns : goal.returns
returns c = search order_steps
