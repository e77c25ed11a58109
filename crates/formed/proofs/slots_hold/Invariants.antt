-- `slots_hold` meets its contract: the flag is the test of the slots before i, of their pairs, and of the pairs of slot i with those before j; a slot that is
-- free differs from all. Behind the last slot no pair is begun. Assumes nothing.
use Rattle.formed.proofs.RecordSteps.{held_before}
use lib.ListN.{length}
use Rattle.slots.specs.Slots.{most_slots}
use Prim.Native.Nat.{◌*◌, ◌+◌, ◌-◌, ◌≤◌}
use mathlib.Core.Path.{◌≡◌}
use Rattle.formed.proofs.slots_hold.Given as goal

abbrev pub invariant-loop-i : goal.invariant-loop-i
invariant-loop-i l = (l.i ≤ most_slots) × (l.j ≤ l.i) × (l.j ≤ (most_slots - l.i) * 5) × (length l.state.slots ≡ most_slots) × (l.ok ≡ held_before l.state.count l.state.kind l.state.slots l.i l.j)

abbrev pub decreases-loop-i : goal.decreases-loop-i
decreases-loop-i l = (most_slots - l.i) * 6 + (l.i - l.j)
