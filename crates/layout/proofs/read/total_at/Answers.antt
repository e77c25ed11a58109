-- `total_at` meets its contract: octet 13 of a slot is its total. Assumes nothing.
use Rattle.layout.proofs.ReadSteps.{read_steps}
use Rattle.layout.proofs.read.total_at.Goals as goal

pub returns : goal.returns
returns c = search read_steps
