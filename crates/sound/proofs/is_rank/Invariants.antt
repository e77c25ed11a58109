-- `is_rank` meets its contract: the flag tells whether a slot before i has the rank, and behind the last slot whether any has. Assumes nothing.
use Rattle.slots.specs.Below.{any_below}
use lib.Dec.{eqb}
use Rattle.layout.specs.Changes.{state_slot}
use Prim.Native.Nat.{◌≤◌}
use mathlib.Core.Path.{◌≡◌}
use Rattle.sound.proofs.is_rank.Given as goal

abbrev pub invariant-loop-i : goal.invariant-loop-i
invariant-loop-i l = (l.i ≤ l.n) × (l.any ≡ any_below l.i (λ j. eqb (state_slot l.state j).rank l.r))
