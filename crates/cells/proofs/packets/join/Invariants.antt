-- `join` meets its contract. The invariant: the first `limit` octets of parts 1 to k stand at the start of out, up to the place `at`, and else
-- out is as it was. Assumes nothing.
use Rattle.cells.proofs.Laws.{Written}
use lib.ListN.{length}
use Rattle.cells.specs.Handing.{series_piece}
use Prim.Native.Nat.{◌≤◌}
use mathlib.Core.Path.{◌≡◌}
use Rattle.cells.proofs.packets.join.Given as goal

abbrev pub invariant-loop-k : goal.invariant-loop-k
invariant-loop-k l = (l.k ≤ l.total) × (l.at ≤ l.limit) × (length l.out ≡ length l.initial.out) × Written (series_piece l.cells l.lengths l.s l.number l.part) l.limit l.initial.out l.k l.at l.out
