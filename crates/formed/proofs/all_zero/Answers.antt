-- `all_zero` meets its contract: its flags are those of the rule, in the rule's order. Assumes nothing.
use Rattle.formed.proofs.Steps.{formed_steps}
use Rattle.formed.proofs.all_zero.Goals as goal

pub returns : goal.returns
returns c = search formed_steps
