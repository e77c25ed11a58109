-- `leave_out` meets its contract. The entries before i are copied unless they go; those from i on are as they were. Assumes nothing.
use Rattle.copies.proofs.CopyLaws.{Leaves}
use Rattle.copies.proofs.leave_out.Given as goal

abbrev pub invariant-loop-i : goal.invariant-loop-i
invariant-loop-i l = Leaves l.gone l.initial.entries l.entries l.count l.i l.to
