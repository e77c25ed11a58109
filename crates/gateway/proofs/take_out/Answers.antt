use Rattle.gateway.proofs.Steps.{steps}
use Rattle.gateway.proofs.take_out.Goals as goal

pub loop-i-preserved : goal.loop-i-preserved
loop-i-preserved c = search steps

pub returns : goal.returns
returns c = search steps
