-- `status` meets its contract: the tests are those of the rule, in its order. Assumes nothing.
use Rattle.counters.proofs.Steps.{steps}
use Rattle.counters.proofs.status.Goals as goal

pub returns-then-bits-lt2 : goal.returns-then-bits-lt2
returns-then-bits-lt2 c = search steps

pub returns-then-have-eq1099511627775 : goal.returns-then-have-eq1099511627775
returns-then-have-eq1099511627775 c = search steps

pub returns-then-new-have : goal.returns-then-new-have
returns-then-new-have c = search steps

pub returns-then-bits-have : goal.returns-then-bits-have
returns-then-bits-have c = search steps

pub returns : goal.returns
returns c = search steps
