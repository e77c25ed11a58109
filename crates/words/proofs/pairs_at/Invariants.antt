-- The octets read and those to come are all that there are; a digit is overwritten only after it was read (`Pairing`). Assumes nothing.
use Rattle.words.proofs.Steps.{Pairing}
use Rattle.words.proofs.pairs_at.Given as goal

abbrev pub invariant-loop-count : goal.invariant-loop-count
invariant-loop-count l = Pairing l.initial.line l.from l.end l.line l.count
