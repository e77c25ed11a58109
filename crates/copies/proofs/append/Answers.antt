-- `append` meets its contract. Each need follows by a law of `CopyLaws`. Assumes nothing.
use Rattle.copies.proofs.CopyLaws.{copy_steps}
use Rattle.copies.proofs.append.Goals as goal

pub returns : goal.returns
returns c = search copy_steps
