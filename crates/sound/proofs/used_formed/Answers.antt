-- `used_formed` meets its contract: its flags are those of the rule, in the rule's order. Assumes nothing.
use Rattle.sound.proofs.Steps.{steps}
use Rattle.sound.proofs.used_formed.Goals as goal

pub returns : goal.returns
returns c = search steps
