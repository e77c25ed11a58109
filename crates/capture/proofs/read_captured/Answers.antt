-- `read_captured` meets its contract: octets that are one sound record have its length, and the kind is one of two. Assumes nothing.
use Rattle.capture.proofs.Steps.{steps}
use Rattle.capture.proofs.read_captured.Goals as goal

pub returns-in_err-sound_record : goal.returns-in_err-sound_record
returns-in_err-sound_record c = search steps

pub returns-then-branch-octets : goal.returns-then-branch-octets
returns-then-branch-octets c = search steps

pub returns-then-octets-eq1 : goal.returns-then-octets-eq1
returns-then-octets-eq1 c = search steps

pub returns : goal.returns
returns c = search steps
