-- `free_slot` meets its contract. The slots from i on have the lowest free one of all. Assumes nothing.
use Rattle.logs.proofs.WalkLaws.{Frees}
use Rattle.plain.specs.Entries.{entries_from}
use Rattle.logs.proofs.walks.free_slot.Given as goal

abbrev pub invariant-loop-i : goal.invariant-loop-i
invariant-loop-i l = Frees (entries_from l.entries 0 l.count) l.n l.i
