-- `keep` meets its contract: all ranks are changed, then slot i gets the part and is put at the front. Assumes nothing.
use Rattle.moves.proofs.Steps.{steps}
use Rattle.moves.proofs.keep.Goals as goal

pub returns : goal.returns
returns c = search steps
