-- `joined_front` meets its contract. The invariant: f is the front of parts 1 to k joined. The count
-- stays small, since each part fits its cell. Assumes nothing.
use Rattle.joined.specs.Fronts.{front_of}
use Rattle.cells.specs.Cells.{joined}
use Rattle.cells.specs.Handing.{series_piece}
use Prim.Native.Nat.{◌≤◌}
use mathlib.Core.Path.{◌≡◌}
use Rattle.cells.proofs.packets.joined_front.Given as goal

abbrev pub invariant-loop-k : goal.invariant-loop-k
invariant-loop-k l = (l.k ≤ l.total) × (l.f ≡ front_of (joined (series_piece l.cells l.lengths l.s l.number l.part) l.k))
