-- `log_record` meets its contract. The slots before i are what is read off the log. Assumes nothing.
use Rattle.readoff.proofs.Steps.{Slots}
use Rattle.plain.specs.Entries.{entries_from}
use Rattle.readoff.proofs.log_record.Given as goal

abbrev pub invariant-loop-i : goal.invariant-loop-i
invariant-loop-i l = Slots (entries_from l.entries 0 l.log.count) l.slots l.i
