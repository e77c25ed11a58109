use Rattle.sound.proofs.BeatSteps.{beat_steps}
use Rattle.sound.proofs.beat.beat_slots.Goals as goal

pub loop-i-init : goal.loop-i-init
loop-i-init c = search beat_steps

pub loop-i-preserved : goal.loop-i-preserved
loop-i-preserved c = search beat_steps

pub returns-clause-state_after : goal.returns-clause-state_after
returns-clause-state_after c = search beat_steps
