-- `exact` meets its contract: as many octets, each below 256, are written in one way only. Assumes nothing.
use Rattle.layout.proofs.KnownSteps.{known_steps}
use Rattle.layout.proofs.known.exact.Goals as goal

pub returns : goal.returns
returns c = search known_steps
