-- `value` meets its contract: three octets of 0 before the five make the number of 64 bits the same. Assumes nothing.
use Rattle.counters.proofs.Steps.{steps}
use Rattle.counters.proofs.value.Goals as goal

pub returns : goal.returns
returns c = search steps
