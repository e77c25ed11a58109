-- The calls are taken in order, and the lent buffers stay as long as they were. Assumes nothing.
use lib.ListN.{length}
use mathlib.Core.Path.{◌≡◌}
use Rattle.cases.proofs.take.each.Given as goal

abbrev pub invariant-loop-at : goal.invariant-loop-at
invariant-loop-at l = (length l.cells ≡ length l.initial.cells) × (length l.out ≡ length l.initial.out)
