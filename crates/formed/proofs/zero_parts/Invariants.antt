-- `zero_parts` meets its contract: no fault was gathered as long as the test holds of the parts before i, and behind the last part of all of
-- them. Assumes nothing.
use Rattle.slots.specs.Below.{all_below, fault}
use Rattle.arrival.specs.Message.{most_parts}
use Rattle.formed.specs.Formed.{zero_part}
use Prim.Native.Nat.{◌≤◌}
use mathlib.Core.Path.{◌≡◌}
use Rattle.formed.proofs.zero_parts.Given as goal

abbrev pub invariant-loop-i : goal.invariant-loop-i
invariant-loop-i l = (l.i ≤ most_parts) × (l.bad ≡ fault (all_below l.i (zero_part l.x)))
