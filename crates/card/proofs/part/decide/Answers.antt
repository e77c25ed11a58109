-- `decide` meets its contract: its tests are those of the rule, in the rule's order, of the slot that the octets hold. Assumes nothing.
use Rattle.card.proofs.Steps.{decide_steps}
use Rattle.card.proofs.part.decide.Goals as goal

pub returns-then-same_part : goal.returns-then-same_part
returns-then-same_part c = search decide_steps

pub returns-then-mark_at : goal.returns-then-mark_at
returns-then-mark_at c = search decide_steps
