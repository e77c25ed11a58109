-- `used_count` meets its contract: the number is the count of the used slots before i, and behind the last slot of all of them. Assumes nothing.
use Rattle.slots.specs.Below.{count_below}
use Rattle.layout.specs.Changes.{state_slot}
use Rattle.slots.specs.Slots.{used}
use Prim.Native.Nat.{◌≤◌}
use mathlib.Core.Path.{◌≡◌}
use Rattle.sound.proofs.used_count.Given as goal

abbrev pub invariant-loop-i : goal.invariant-loop-i
invariant-loop-i l = (l.i ≤ l.n) × (l.m ≤ l.i) × (l.m ≡ count_below l.i (λ j. used (state_slot l.state j)))
