-- `log_formed` meets its contract. The entries from i on say what all of them say. Assumes nothing.
use Rattle.logs.proofs.SoundLaws.{Tests}
use Rattle.logs.proofs.sound.log_formed.Given as goal

abbrev pub invariant-loop-i : goal.invariant-loop-i
invariant-loop-i l = Tests l.n l.kind l.entries l.count l.i
