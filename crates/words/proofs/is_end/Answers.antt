-- The text at a place begins with the character there; past the line there is none. Assumes nothing.
use Rattle.words.proofs.Steps.{steps}
use Rattle.words.proofs.is_end.Goals as goal

pub returns : goal.returns
returns c = search steps
