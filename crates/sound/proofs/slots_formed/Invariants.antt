-- `slots_formed` meets its contract: the flag is the test of the slots before i, and behind the last slot of all of them. Assumes nothing.
use Rattle.slots.specs.Below.{all_below}
use Rattle.slots.specs.Slots.{most_slots}
use Rattle.formed.specs.Pieces.{slot_holds}
use Rattle.layout.specs.Layout.{state_record}
use Prim.Native.Nat.{◌≤◌}
use mathlib.Core.Path.{◌≡◌}
use Rattle.sound.proofs.slots_formed.Given as goal

abbrev pub invariant-loop-i : goal.invariant-loop-i
invariant-loop-i l = (l.i ≤ most_slots) × (l.ok ≡ all_below l.i (slot_holds l.n l.kind (state_record l.state).slots))
