use Rattle.layout.proofs.KnownSteps.{known_steps}
use Rattle.layout.proofs.known.marks_fit.Goals as goal

pub loop-k-init : goal.loop-k-init
loop-k-init c = search known_steps

pub loop-k-preserved : goal.loop-k-preserved
loop-k-preserved c = search known_steps

pub returns : goal.returns
returns c = search known_steps
