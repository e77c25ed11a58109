-- `kind_in` meets its contract: octet 1 is 0 or it is not. Assumes nothing.
use Rattle.layout.proofs.ReadSteps.{read_steps}
use Rattle.layout.proofs.read.kind_in.Goals as goal

pub returns-then-k-eq0 : goal.returns-then-k-eq0
returns-then-k-eq0 c = search read_steps

pub returns : goal.returns
returns c = search read_steps
