-- `parts_formed` meets its contract: no fault was gathered as long as each part before i is within the bounds of its key; with part 1 by
-- itself that is what the rule asks of all. Assumes nothing.
use Rattle.slots.specs.Below.{all_below, fault}
use Rattle.formed.specs.Pieces.{fewest, most, part_within}
use Rattle.arrival.specs.Message.{most_parts}
use Prim.Native.Nat.{◌≤◌}
use mathlib.Core.Path.{◌≡◌}
use Rattle.formed.proofs.parts_formed.Given as goal

abbrev pub invariant-loop-i : goal.invariant-loop-i
invariant-loop-i l = (l.i ≤ most_parts) × (l.low ≡ fewest l.key) × (l.high ≡ most l.key 2) × (l.key ≡ l.x.key) × (l.total ≡ l.x.total) × (l.bad ≡ fault (all_below l.i (part_within l.x)))
