-- `record_formed` meets its contract: the test of the number is the rule's, and behind it the flags are those of the rule; a state has five slots. Assumes nothing.
use Rattle.sound.proofs.Steps.{steps}
use Rattle.sound.proofs.record_formed.Goals as goal

pub returns-then-n : goal.returns-then-n
returns-then-n c = search steps

pub returns : goal.returns
returns c = search steps
