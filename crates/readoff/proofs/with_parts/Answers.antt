use Rattle.readoff.proofs.Steps.{steps}
use Rattle.readoff.proofs.with_parts.Goals as goal

pub returns : goal.returns
returns c = search steps
