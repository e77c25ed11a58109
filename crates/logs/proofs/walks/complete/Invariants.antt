-- `complete` meets its contract. The flag says it of the numbers so far. Assumes nothing.
use Rattle.logs.specs.Places.{all_in_log}
use Rattle.plain.specs.Entries.{entries_from}
use Prim.Native.Nat.{◌≤◌}
use mathlib.Core.Path.{◌≡◌}
use Rattle.logs.proofs.walks.complete.Given as goal

abbrev pub invariant-loop-k : goal.invariant-loop-k
invariant-loop-k l = (l.ok ≡ all_in_log l.slot l.number (entries_from l.entries 0 l.count) l.k) × (l.k ≤ l.total)
