-- `open_series` meets its contract. Each need follows by a law of `CopyLaws`. Assumes nothing.
use Rattle.copies.proofs.CopyLaws.{keep_steps}
use Rattle.copies.proofs.open_series.Goals as goal

pub returns : goal.returns
returns c = search keep_steps
