-- `beat` meets its contract: it refuses in the rule's order, before any octet is touched; else the slots after a beat are those of the rule. Assumes nothing.
use Rattle.sound.proofs.BeatSteps.{beat_steps}
use Rattle.sound.proofs.beat.beat.Goals as goal

pub returns-then-not-state_formed : goal.returns-then-not-state_formed
returns-then-not-state_formed c = search beat_steps

pub returns-then-limit-eq0 : goal.returns-then-limit-eq0
returns-then-limit-eq0 c = search beat_steps

pub returns : goal.returns
returns c = search beat_steps
