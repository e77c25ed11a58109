-- `copy_front` meets its contract: the first octets fit into out, so `put` places them at its start. Assumes nothing.
use Rattle.joined.proofs.Steps.{steps}
use Rattle.joined.proofs.copy_front.Goals as goal

pub returns : goal.returns
returns c = search steps
