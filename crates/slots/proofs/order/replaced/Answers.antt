use Rattle.slots.proofs.OrderSteps.{order_steps}
use Rattle.slots.proofs.order.replaced.Goals as goal

pub loop-j-init : goal.loop-j-init
loop-j-init c = search order_steps

pub loop-j-preserved : goal.loop-j-preserved
loop-j-preserved c = search order_steps
