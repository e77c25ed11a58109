-- `slot_formed` meets its contract: a slot of a state has sixteen lengths and marks, and either test is the rule's. Assumes nothing.
use Rattle.sound.proofs.Steps.{steps}
use Rattle.sound.proofs.slot_formed.Goals as goal

pub returns-then-free : goal.returns-then-free
returns-then-free c = search steps

pub returns : goal.returns
returns c = search steps
