-- A row is found among the rows as its key is among the keys. Assumes nothing.
use Rattle.words.proofs.Steps.{steps}
use Rattle.words.proofs.table.find.Goals as goal

pub returns : goal.returns
returns c = search steps
