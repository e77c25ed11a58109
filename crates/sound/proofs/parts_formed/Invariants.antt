-- `parts_formed` meets its contract: no fault was gathered as long as each part before k is within the bounds of its key; with part 1 by
-- itself that is what the rule asks of all. Assumes nothing.
use Rattle.slots.specs.Below.{all_below, fault}
use Rattle.formed.specs.Pieces.{fewest, most, part_within}
use Rattle.arrival.specs.Message.{most_parts}
use Rattle.layout.specs.Changes.{state_slot}
use Prim.Native.Nat.{◌≤◌}
use mathlib.Core.Path.{◌≡◌}
use Rattle.sound.proofs.parts_formed.Given as goal

abbrev pub invariant-loop-k : goal.invariant-loop-k
invariant-loop-k l = (l.k ≤ most_parts) × (l.low ≡ fewest l.key) × (l.high ≡ most l.key 2) × (l.key ≡ (state_slot l.state l.i).key) × (l.total ≡ (state_slot l.state l.i).total) × (l.bad ≡ fault (all_below l.k (part_within (state_slot l.state l.i))))
