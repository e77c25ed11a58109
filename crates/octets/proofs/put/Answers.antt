use Rattle.octets.proofs.Steps.{steps}
use Rattle.octets.proofs.put.Goals as goal

pub returns-clause-dst_after : goal.returns-clause-dst_after
returns-clause-dst_after c = search steps
