-- `find` meets its contract. What is found from i on is what is found from the start on, entry by entry. Assumes nothing.
use Rattle.logs.proofs.WalkLaws.{Walks}
use Rattle.logs.specs.Places.{seek}
use Rattle.logs.proofs.walks.find.Given as goal

abbrev pub invariant-loop-i : goal.invariant-loop-i
invariant-loop-i l = Walks (seek l.entries l.sought) l.entries l.from l.count l.i
