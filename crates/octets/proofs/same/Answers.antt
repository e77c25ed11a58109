use Rattle.octets.proofs.Steps.{steps}
use Rattle.octets.proofs.same.Goals as goal

pub returns : goal.returns
returns c = search steps
