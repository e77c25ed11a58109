use Rattle.readoff.proofs.Steps.{steps}
use Rattle.readoff.proofs.log_record.Goals as goal

pub returns : goal.returns
returns c = search steps
