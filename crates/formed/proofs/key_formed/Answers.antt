-- `key_formed` meets its contract: the width tells pages from messages, and either test is the rule's. Assumes nothing.
use Rattle.formed.proofs.Steps.{formed_steps}
use Rattle.formed.proofs.key_formed.Goals as goal

pub returns-then-key-eq0 : goal.returns-then-key-eq0
returns-then-key-eq0 c = search formed_steps

pub returns : goal.returns
returns c = search formed_steps
