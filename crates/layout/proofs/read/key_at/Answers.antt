-- `key_at` meets its contract: octets 2 to 12 of a slot, read in order, are its key. Assumes nothing.
use Rattle.layout.proofs.ReadSteps.{read_steps}
use Rattle.layout.proofs.read.key_at.Goals as goal

pub returns : goal.returns
returns c = search read_steps
