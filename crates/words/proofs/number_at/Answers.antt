use Rattle.words.proofs.Steps.{steps}
use Rattle.words.proofs.number_at.Goals as goal

pub returns-then-not-is_digit : goal.returns-then-not-is_digit
returns-then-not-is_digit c = search steps

pub loop-at-preserved : goal.loop-at-preserved
loop-at-preserved c = search steps

pub returns : goal.returns
returns c = search steps
