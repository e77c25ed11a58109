-- `aged` meets its contract. Each need follows by a law of `CopyLaws`. Assumes nothing.
use Rattle.copies.proofs.CopyLaws.{copy_steps}
use Rattle.copies.proofs.aged.Goals as goal

pub returns-then-moves : goal.returns-then-moves
returns-then-moves c = search copy_steps

pub returns : goal.returns
returns c = search copy_steps
