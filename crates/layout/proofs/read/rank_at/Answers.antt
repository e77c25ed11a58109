-- `rank_at` meets its contract: octet 0 of a slot is its rank. Assumes nothing.
use Rattle.layout.proofs.ReadSteps.{read_steps}
use Rattle.layout.proofs.read.rank_at.Goals as goal

pub returns : goal.returns
returns c = search read_steps
