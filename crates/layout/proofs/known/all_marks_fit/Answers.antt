use Rattle.layout.proofs.KnownSteps.{known_steps}
use Rattle.layout.proofs.known.all_marks_fit.Goals as goal

pub loop-i-init : goal.loop-i-init
loop-i-init c = search known_steps

pub loop-i-preserved : goal.loop-i-preserved
loop-i-preserved c = search known_steps
