-- `behind_skipped` meets its contract: the run ends where it would have ended from the start on. Assumes nothing.
use Rattle.capture.proofs.Steps.{Skipping}
use Rattle.capture.proofs.behind_skipped.Given as goal

abbrev pub invariant-loop-at : goal.invariant-loop-at
invariant-loop-at l = Skipping l.file l.from l.at
