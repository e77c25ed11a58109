-- `carry` stays inside its buffers: each is as long as it was. Assumes nothing.
use lib.ListN.{length}
use mathlib.Core.Path.{◌≡◌}
use Rattle.example.proofs.carry.Given as goal

abbrev pub invariant-loop-number : goal.invariant-loop-number
invariant-loop-number l = (length l.out ≡ length l.initial.out) × (length l.cells ≡ 10720) × (length l.ud ≡ 140)
