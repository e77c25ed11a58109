-- `beats_at` meets its contract: octet 1 of a slot is its count of beats. Assumes nothing.
use Rattle.layout.proofs.ReadSteps.{read_steps}
use Rattle.layout.proofs.read.beats_at.Goals as goal

pub returns : goal.returns
returns c = search read_steps
