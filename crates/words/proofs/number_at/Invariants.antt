-- What was read and the digits to come are the whole number (`Counting`). Assumes nothing.
use Rattle.words.proofs.Steps.{Counting}
use Rattle.words.proofs.number_at.Given as goal

abbrev pub invariant-loop-at : goal.invariant-loop-at
invariant-loop-at l = Counting l.name l.most l.line l.from l.value l.at
