-- `decide` meets its contract: its tests are those of the rule, in the rule's order, and a held part is as long as the record says. Assumes
-- nothing.
use Rattle.series.proofs.TakeSteps.{decide_steps}
use Rattle.series.proofs.take.decide.Goals as goal

pub returns-then-same_part : goal.returns-then-same_part
returns-then-same_part c = search decide_steps

pub returns-then-x-j : goal.returns-then-x-j
returns-then-x-j c = search decide_steps
