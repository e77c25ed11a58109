-- `copy_sound` meets its contract: what was copied so far, and what is copied of the rest, is what is copied of the file. The octets left fall. Assumes nothing.
use Rattle.capture.proofs.Steps.{Copied}
use lib.ListN.{length}
use Prim.Native.Nat.{◌-◌}
use Rattle.capture.proofs.copy_sound.Given as goal

abbrev pub invariant-loop-at : goal.invariant-loop-at
invariant-loop-at l = Copied l.file l.initial.output l.output l.at l.end

abbrev pub decreases-loop-at : goal.decreases-loop-at
decreases-loop-at l = length l.file - l.at
