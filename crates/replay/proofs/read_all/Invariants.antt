-- Every buffer stays as long as it was; the turns are counted down. Assumes nothing.
use lib.ListN.{length}
use mathlib.Core.Path.{◌≡◌}
use Rattle.replay.proofs.read_all.Given as goal

abbrev pub invariant-loop-turns : goal.invariant-loop-turns
invariant-loop-turns l =
    (length l.piece ≡ length l.initial.piece) × (length l.cells ≡ length l.initial.cells) × (length l.output ≡ length l.initial.output) × (length l.buffer ≡ length l.initial.buffer) × (length l.text ≡ length l.initial.text)

abbrev pub decreases-loop-turns : goal.decreases-loop-turns
decreases-loop-turns l = l.turns
