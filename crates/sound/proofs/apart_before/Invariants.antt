-- `apart_before` meets its contract: a free slot is apart from all; else the flag is the test of the slots before j, and at slot i of all that are before it. Assumes nothing.
use Rattle.slots.specs.Below.{all_below}
use Rattle.formed.specs.Pieces.{pair_holds}
use Rattle.layout.specs.Layout.{state_record}
use Prim.Native.Nat.{◌≤◌}
use mathlib.Core.Path.{◌≡◌}
use Rattle.sound.proofs.apart_before.Given as goal

abbrev pub invariant-loop-j : goal.invariant-loop-j
invariant-loop-j l = (l.j ≤ l.i) × (l.ok ≡ all_below l.j (pair_holds (state_record l.state).slots l.i))
