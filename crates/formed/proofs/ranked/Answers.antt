-- `ranked` meets its contract: the five ranks are those of the slots. Assumes nothing.
use Rattle.formed.proofs.RecordSteps.{record_steps}
use Rattle.formed.proofs.ranked.Goals as goal

pub returns : goal.returns
returns c = search record_steps
