-- `all_with` meets its contract: no fault was gathered as long as each part before i is past the total, has the number or is marked; of all
-- sixteen that is what is asked of those up to the total. Assumes nothing.
use Rattle.slots.specs.Below.{all_below, fault}
use Rattle.series.specs.Deciding.{has_with}
use Rattle.arrival.specs.Message.{most_parts}
use Prim.Native.Nat.{◌≤◌}
use mathlib.Core.Path.{◌≡◌}
use Rattle.series.proofs.take.all_with.Given as goal

abbrev pub invariant-loop-i : goal.invariant-loop-i
invariant-loop-i l = (l.i ≤ most_parts) × (l.missing ≡ fault (all_below l.i (has_with l.held l.total l.number)))
