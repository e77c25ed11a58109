-- `marks_of` meets its contract: the marks before k are written; of all sixteen that is what is asked. Assumes nothing.
use Rattle.whole.proofs.Steps.{Filled}
use mathlib.Core.List.{map}
use Rattle.layout.specs.Layout.{mark_octet}
use Rattle.whole.proofs.put.marks_of.Given as goal

abbrev pub invariant-loop-k : goal.invariant-loop-k
invariant-loop-k l = Filled 0 (map mark_octet l.held) l.marks l.k
