-- `octet` meets its contract. Each need follows by a law of `EntryLaws`. Assumes nothing.
use Rattle.logs.proofs.EntryLaws.{entry_steps}
use Rattle.logs.proofs.entries.octet.Goals as goal

pub returns-then-at-entries : goal.returns-then-at-entries
returns-then-at-entries c = search entry_steps

pub returns : goal.returns
returns c = search entry_steps
