-- `is_known` meets its contract: length, format, kind and marks, as the rule tests them. Assumes nothing.
use Rattle.layout.proofs.KnownSteps.{known_steps}
use Rattle.layout.proofs.known.is_known.Goals as goal

pub returns : goal.returns
returns c = search known_steps
