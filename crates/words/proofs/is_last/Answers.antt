-- There is a character at a place exactly if the text there is not empty. Assumes nothing.
use Rattle.words.proofs.Steps.{steps}
use Rattle.words.proofs.is_last.Goals as goal

pub returns : goal.returns
returns c = search steps
