-- `ranked` meets its contract: the flag is the test of the ranks up to r, and at the number of used slots of all of them. Assumes nothing.
use Rattle.slots.specs.Below.{all_below}
use Rattle.formed.specs.Formed.{is_rank}
use Rattle.layout.specs.Layout.{state_record}
use Prim.Native.Nat.{◌+◌, ◌≤◌}
use mathlib.Core.Path.{◌≡◌}
use Rattle.sound.proofs.ranked.Given as goal

abbrev pub invariant-loop-r : goal.invariant-loop-r
invariant-loop-r l = (l.r ≤ l.m) × (l.ok ≡ all_below l.r (λ q. is_rank l.n (state_record l.state).slots (q + 1)))
