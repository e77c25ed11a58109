-- `lengths_in` meets its contract: those before k are read; of all sixteen that is what is asked. Assumes nothing.
use Rattle.whole.proofs.Steps.{Filled}
use Rattle.layout.specs.Changes.{state_slot}
use Rattle.whole.proofs.record.lengths_in.Given as goal

abbrev pub invariant-loop-k : goal.invariant-loop-k
invariant-loop-k l = Filled 0 (state_slot l.state l.i).lengths l.lengths l.k
