-- `checksum` meets its contract. A buffer of another length and a malformed packet are refused first; the octets behind the lengths begin at 3.
use Rattle.checksum.proofs.Steps.{steps}
use Rattle.checksum.proofs.checksum.Goals as goal

pub returns-then-out-ne-CHECKSUM_OCTETS : goal.returns-then-out-ne-CHECKSUM_OCTETS
returns-then-out-ne-CHECKSUM_OCTETS c = search steps

pub returns-then-not-well_formed : goal.returns-then-not-well_formed
returns-then-not-well_formed c = search steps

pub returns : goal.returns
returns c = search steps
