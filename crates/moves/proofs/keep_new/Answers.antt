-- `keep_new` meets its contract: all ranks are changed, then slot i is opened, gets the part and is put at the front. Assumes nothing.
use Rattle.moves.proofs.Steps.{steps}
use Rattle.moves.proofs.keep_new.Goals as goal

pub returns : goal.returns
returns c = search steps
