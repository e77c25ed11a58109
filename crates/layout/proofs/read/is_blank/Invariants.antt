-- `is_blank` meets its contract: no fault was gathered as long as the octets before p are zero, and behind the last one all of them are. Assumes nothing.
use Rattle.slots.specs.Below.{all_below, fault}
use Rattle.layout.specs.Layout.{blank_at, slot_block}
use Prim.Native.Nat.{◌≤◌}
use mathlib.Core.Path.{◌≡◌}
use Rattle.layout.proofs.read.is_blank.Given as goal

abbrev pub invariant-loop-p : goal.invariant-loop-p
invariant-loop-p l = (l.p ≤ 45) × (l.bad ≡ fault (all_below l.p (blank_at (slot_block l.i l.state))))
