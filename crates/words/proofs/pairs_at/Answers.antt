use Rattle.words.proofs.Steps.{steps}
use Rattle.words.proofs.pairs_at.Goals as goal

pub returns-in_default : goal.returns-in_default
returns-in_default c = search steps

pub loop-count-preserved : goal.loop-count-preserved
loop-count-preserved c = search (steps, c.in-Some.ensures)

pub returns : goal.returns
returns c = search steps
