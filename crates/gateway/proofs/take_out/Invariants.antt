-- `take_out` meets its contract: what is left to move up gives what the rule gives from the start. Assumes nothing.
use Rattle.gateway.proofs.Steps.{Moving}
use Rattle.gateway.proofs.take_out.Given as goal

abbrev pub invariant-loop-i : goal.invariant-loop-i
invariant-loop-i l = Moving l.fn.entries l.at l.end l.entries l.i
