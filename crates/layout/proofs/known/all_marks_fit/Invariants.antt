-- `all_marks_fit` meets its contract: the flag says of the slots before i whether their marks fit, and behind the last of all. Assumes nothing.
use Rattle.slots.specs.Below.{all_below}
use Rattle.slots.specs.Slots.{most_slots}
use Rattle.layout.specs.Layout.{slot_marks_fit}
use Prim.Native.Nat.{◌≤◌}
use mathlib.Core.Path.{◌≡◌}
use Rattle.layout.proofs.known.all_marks_fit.Given as goal

abbrev pub invariant-loop-i : goal.invariant-loop-i
invariant-loop-i l = (l.i ≤ most_slots) × (l.ok ≡ all_below l.i (slot_marks_fit l.state))
