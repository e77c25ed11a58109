-- `gapless` meets its contract: m is how many ranks are not 0, and the flag is the test of the numbers up to r. Assumes nothing.
use Rattle.slots.specs.Below.{all_below, any_below, count_below}
use lib.Dec.{eqb}
use Rattle.formed.specs.Pieces.{five_of}
use Rattle.slots.specs.Slots.{most_slots}
use mathlib.Core.Bool.{not}
use Prim.Native.Nat.{◌+◌, ◌≤◌}
use mathlib.Core.Path.{◌≡◌}
use Rattle.formed.proofs.gapless.Given as goal

abbrev pub invariant-loop-r : goal.invariant-loop-r
invariant-loop-r l = (l.r ≤ l.m) × (l.m ≤ most_slots) × (l.m ≡ count_below most_slots (λ i. not (eqb (five_of l.a l.b l.c l.d l.e i) 0))) × (l.ok ≡ all_below l.r (λ r. any_below most_slots (λ i. eqb (five_of l.a l.b l.c l.d l.e i) (r + 1))))
