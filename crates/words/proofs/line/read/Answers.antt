use Rattle.words.proofs.Steps.{steps}
use Rattle.words.proofs.line.read.Goals as goal

pub returns-then-not-s : goal.returns-then-not-s
returns-then-not-s c = search steps

pub loop-preserved : goal.loop-preserved
loop-preserved c = search steps

pub returns : goal.returns
returns c = search steps
