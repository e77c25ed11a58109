-- `ussd_opaque` meets its contract. What is shown behind the lengths is the rule's part, and they end where the code says.
use Rattle.ussd.proofs.Steps.{steps}
use Rattle.ussd.proofs.read.ussd_opaque.Goals as goal

pub returns : goal.returns
returns c = search steps
