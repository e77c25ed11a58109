-- `size_at` meets its contract. Each need follows by a law of `EntryLaws`. Assumes nothing.
use Rattle.logs.proofs.EntryLaws.{entry_steps}
use Rattle.logs.proofs.entries.size_at.Goals as goal

pub returns : goal.returns
returns c = search entry_steps
