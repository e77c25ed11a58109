-- `put_in` meets its contract: the entry behind those in use is the new one. Assumes nothing.
use Rattle.gateway.proofs.Steps.{steps}
use Rattle.gateway.proofs.put_in.Goals as goal

pub returns : goal.returns
returns c = search steps
