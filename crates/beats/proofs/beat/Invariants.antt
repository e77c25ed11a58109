-- `beat` meets its contract. It refuses in the rule's order. Else the slots before i are as they are after a beat, those dropped among them are
-- counted, and the others are as they were; behind the last slot this is the rule. Assumes nothing.
use Rattle.beats.specs.Turns.{Beat}
use Rattle.beats.proofs.beat.Given as goal

abbrev pub invariant-loop-i : goal.invariant-loop-i
invariant-loop-i l = Beat l.limit l.initial.state l.state l.dropped l.i
