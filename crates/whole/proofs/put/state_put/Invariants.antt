-- `state_put` meets its contract: the octets of the slots before i are written, one behind the other; behind the last slot all is. Assumes nothing.
use Rattle.whole.proofs.Steps.{Laying}
use Rattle.whole.proofs.put.state_put.Given as goal

abbrev pub invariant-loop-i : goal.invariant-loop-i
invariant-loop-i l = Laying l.initial.state l.state l.slots l.i
