-- `touch_series` meets its contract. Each need follows by a law of `CopyLaws`. Assumes nothing.
use Rattle.copies.proofs.CopyLaws.{touch_steps}
use Rattle.copies.proofs.touch_series.Goals as goal

pub returns : goal.returns
returns c = search touch_steps
