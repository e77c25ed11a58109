-- `salvage` meets its contract: the refusals stand in the order of the rule, and what is not refused is copied. Assumes nothing.
use Rattle.capture.proofs.Steps.{steps}
use Rattle.capture.proofs.salvage.Goals as goal

pub returns-then-file-gt-CAPTURE_OCTETS : goal.returns-then-file-gt-CAPTURE_OCTETS
returns-then-file-gt-CAPTURE_OCTETS c = search steps

pub returns-then-output-file : goal.returns-then-output-file
returns-then-output-file c = search steps

pub returns : goal.returns
returns c = search steps
