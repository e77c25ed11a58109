-- `to_front` meets its contract: all ranks are changed, then slot i is put at the front, whatever rank it was given. Assumes nothing.
use Rattle.moves.proofs.Steps.{steps}
use Rattle.moves.proofs.to_front.Goals as goal

pub returns : goal.returns
returns c = search steps
