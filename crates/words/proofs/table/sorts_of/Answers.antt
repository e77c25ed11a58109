-- The array has the sorts of the table. Assumes nothing.
use Rattle.words.proofs.Steps.{steps}
use Rattle.words.proofs.table.sorts_of.Goals as goal

pub returns : goal.returns
returns c = search steps
