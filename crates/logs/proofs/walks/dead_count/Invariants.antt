-- `dead_count` meets its contract. The count is that of the slots so far. Assumes nothing.
use Rattle.logs.proofs.WalkLaws.{Drops}
use Rattle.plain.specs.Entries.{entries_from}
use Prim.Native.Nat.{◌≤◌}
use Rattle.logs.proofs.walks.dead_count.Given as goal

abbrev pub invariant-loop-i : goal.invariant-loop-i
invariant-loop-i l = Drops (entries_from l.entries 0 l.count) l.limit l.dropped l.i × (l.i ≤ l.n)
