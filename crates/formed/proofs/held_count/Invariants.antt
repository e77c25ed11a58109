-- `held_count` meets its contract: the number is the count of the marks before i, and behind the last part of all of them. Assumes nothing.
use Rattle.slots.specs.Below.{count_below}
use Rattle.formed.specs.Formed.{mark_at}
use Rattle.arrival.specs.Message.{most_parts}
use Prim.Native.Nat.{◌≤◌}
use mathlib.Core.Path.{◌≡◌}
use Rattle.formed.proofs.held_count.Given as goal

abbrev pub invariant-loop-i : goal.invariant-loop-i
invariant-loop-i l = (l.i ≤ most_parts) × (l.m ≤ l.i) × (l.m ≡ count_below l.i (mark_at l.x))
