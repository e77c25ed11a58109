-- After k words, so many fewer lead to the same (`Reading`). Assumes nothing.
use Rattle.words.proofs.Steps.{Reading}
use Rattle.words.proofs.line.read.Given as goal

abbrev pub invariant-loop : goal.invariant-loop
invariant-loop l = Reading l.initial.line l.line l.s l.counter
