-- `closed` meets its contract. Each need follows by a law of `CopyLaws`. Assumes nothing.
use Rattle.copies.proofs.CopyLaws.{copy_steps}
use Rattle.copies.proofs.closed.Goals as goal

pub returns-then-r-rank : goal.returns-then-r-rank
returns-then-r-rank c = search copy_steps

pub returns : goal.returns
returns c = search copy_steps
