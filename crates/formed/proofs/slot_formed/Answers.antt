-- `slot_formed` meets its contract: the rank tells a free slot from a used one; that a slot has sixteen lengths and sixteen marks is part of its type. Assumes nothing.
use Rattle.formed.proofs.Steps.{formed_steps}
use Rattle.formed.proofs.slot_formed.Goals as goal

pub returns-then-x-eq0 : goal.returns-then-x-eq0
returns-then-x-eq0 c = search formed_steps

pub returns : goal.returns
returns c = search formed_steps
