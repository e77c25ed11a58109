-- `slots_apart` meets its contract: the flag is the test of the slots before i, and behind the last slot of all of them. Assumes nothing.
use Rattle.slots.specs.Below.{all_below}
use Rattle.formed.specs.Pieces.{apart_before}
use Rattle.layout.specs.Layout.{state_record}
use Prim.Native.Nat.{◌≤◌}
use mathlib.Core.Path.{◌≡◌}
use Rattle.sound.proofs.slots_apart.Given as goal

abbrev pub invariant-loop-i : goal.invariant-loop-i
invariant-loop-i l = (l.i ≤ l.n) × (l.ok ≡ all_below l.i (apart_before (state_record l.state).slots))
