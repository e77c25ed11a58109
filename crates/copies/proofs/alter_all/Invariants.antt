-- `alter_all` meets its contract. The entries before i are altered, those from i on are as they were. Assumes nothing.
use Rattle.copies.proofs.CopyLaws.{Alters}
use Rattle.copies.proofs.alter_all.Given as goal

abbrev pub invariant-loop-i : goal.invariant-loop-i
invariant-loop-i l = Alters l.change l.initial.entries l.entries l.count l.i
