-- `clear` meets its contract: before each turn the octets of slot i before p are zero and the others are as they were; behind the last, all are
-- zero, and so they say a free slot. Assumes nothing.
use Rattle.layout.specs.Changes.{Stored}
use Rattle.layout.proofs.WriteSteps.{first_zero}
use Rattle.layout.specs.Layout.{slot_block}
use Rattle.layout.proofs.write.clear.Given as goal

abbrev pub invariant-loop-p : goal.invariant-loop-p
invariant-loop-p l = Stored l.initial.state l.state l.i (first_zero l.p (slot_block l.i l.initial.state))
