-- `tell`: behind a run that has octets there are fewer left (`run_passed`). Assumes nothing.
use Rattle.salvage.proofs.Steps.{steps}
use Rattle.salvage.proofs.tell.Goals as goal

pub loop-from-smaller-then-end-gt-NEARLY : goal.loop-from-smaller-then-end-gt-NEARLY
loop-from-smaller-then-end-gt-NEARLY c = search steps

pub loop-from-smaller : goal.loop-from-smaller
loop-from-smaller c = search steps
