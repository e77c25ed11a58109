-- `marks_fit` meets its contract: no fault was gathered as long as the marks before k are 0 or 1, and behind the last all are. Assumes nothing.
use Rattle.slots.specs.Below.{all_below, fault}
use Rattle.layout.specs.Layout.{mark_fits, slot_block}
use Rattle.arrival.specs.Message.{most_parts}
use Prim.Native.Nat.{◌≤◌}
use mathlib.Core.Path.{◌≡◌}
use Rattle.layout.proofs.known.marks_fit.Given as goal

abbrev pub invariant-loop-k : goal.invariant-loop-k
invariant-loop-k l = (l.k ≤ most_parts) × (l.bad ≡ fault (all_below l.k (mark_fits (slot_block l.i l.state))))
