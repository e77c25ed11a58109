-- `marks_in` meets its contract: those before k are read; of all sixteen that is what is asked. Assumes nothing.
use Rattle.whole.proofs.Steps.{Filled}
use mathlib.Core.Bool.{false}
use Rattle.layout.specs.Changes.{state_slot}
use Rattle.whole.proofs.record.marks_in.Given as goal

abbrev pub invariant-loop-k : goal.invariant-loop-k
invariant-loop-k l = Filled false (state_slot l.state l.i).held l.held l.k
