-- `next_skipped` meets its contract: behind the sound records the run begins, and it ends where the octets skipped end. Assumes nothing.
use Rattle.capture.proofs.Steps.{steps}
use Rattle.capture.proofs.next_skipped.Goals as goal

pub returns-then-file-from : goal.returns-then-file-from
returns-then-file-from c = search steps
