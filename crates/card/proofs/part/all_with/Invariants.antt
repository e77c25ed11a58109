-- `all_with` meets its contract: no fault was gathered as long as each part before j is past the total, has the number or is marked; of all
-- sixteen that is what is asked of those up to the total. Assumes nothing.
use Rattle.slots.specs.Below.{all_below, fault}
use Rattle.series.specs.Deciding.{has_with}
use Rattle.arrival.specs.Message.{most_parts}
use Rattle.layout.specs.Changes.{state_slot}
use Prim.Native.Nat.{◌≤◌}
use mathlib.Core.Path.{◌≡◌}
use Rattle.card.proofs.part.all_with.Given as goal

abbrev pub invariant-loop-j : goal.invariant-loop-j
invariant-loop-j l = (l.j ≤ most_parts) × (l.missing ≡ fault (all_below l.j (has_with (state_slot l.state l.i).held l.total l.number)))
