-- `held_count` meets its contract: the number is the sum of the marks before k, and behind the last part of all of them. Assumes nothing.
use Rattle.slots.specs.Below.{count_below}
use Rattle.formed.specs.Formed.{mark_at}
use Rattle.arrival.specs.Message.{most_parts}
use Rattle.layout.specs.Changes.{state_slot}
use Prim.Native.Nat.{◌≤◌}
use mathlib.Core.Path.{◌≡◌}
use Rattle.sound.proofs.held_count.Given as goal

abbrev pub invariant-loop-k : goal.invariant-loop-k
invariant-loop-k l = (l.k ≤ most_parts) × (l.m ≤ l.k) × (l.m ≡ count_below l.k (mark_at (state_slot l.state l.i)))
