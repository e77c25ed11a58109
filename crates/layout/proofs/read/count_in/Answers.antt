-- `count_in` meets its contract: octet 2 is the number of slots. Assumes nothing.
use Rattle.layout.proofs.ReadSteps.{read_steps}
use Rattle.layout.proofs.read.count_in.Goals as goal

pub returns : goal.returns
returns c = search read_steps
