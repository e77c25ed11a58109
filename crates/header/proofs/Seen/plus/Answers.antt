-- `Seen::plus` meets its contract: the identifier and the number of octets decide which case of `added` it is. Assumes nothing.
use Rattle.header.proofs.Steps.{steps}
use Rattle.header.proofs.Seen.plus.Goals as goal

pub returns-then-n-eq3 : goal.returns-then-n-eq3
returns-then-n-eq3 c = search steps

pub returns-else-n-eq3 : goal.returns-else-n-eq3
returns-else-n-eq3 c = search steps

pub returns-then-n-eq4 : goal.returns-then-n-eq4
returns-then-n-eq4 c = search steps

pub returns-else-n-eq4 : goal.returns-else-n-eq4
returns-else-n-eq4 c = search steps

pub returns-then-n-eq0 : goal.returns-then-n-eq0
returns-then-n-eq0 c = search steps

pub returns-else-n-eq0 : goal.returns-else-n-eq0
returns-else-n-eq0 c = search steps

pub returns-then-n-eq0-2 : goal.returns-then-n-eq0-2
returns-then-n-eq0-2 c = search steps

pub returns-else-n-eq0-2 : goal.returns-else-n-eq0-2
returns-else-n-eq0-2 c = search steps

pub returns-in_default : goal.returns-in_default
returns-in_default c = search steps
