-- `read_all`: no more octets are counted than the buffer has. A turn reads at least one, so the room left falls. Assumes nothing.
use lib.ListN.{length}
use Prim.Native.Nat.{◌-◌, ◌≤◌}
use mathlib.Core.Path.{◌≡◌}
use Rattle.salvage.proofs.read_all.Given as goal

abbrev pub invariant-loop-count : goal.invariant-loop-count
invariant-loop-count l = (length l.file ≡ length l.initial.file) × (l.count ≤ length l.file)

abbrev pub decreases-loop-count : goal.decreases-loop-count
decreases-loop-count l = length l.file - l.count
