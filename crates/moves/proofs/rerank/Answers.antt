use Rattle.moves.proofs.Steps.{steps}
use Rattle.moves.proofs.rerank.Goals as goal

pub loop-j-init : goal.loop-j-init
loop-j-init c = search steps

pub loop-j-preserved : goal.loop-j-preserved
loop-j-preserved c = search steps
