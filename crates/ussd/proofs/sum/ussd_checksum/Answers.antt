-- `ussd_checksum` meets its contract. A UM has a header within what is behind its lengths and is short, so collecting refuses it only 15 or 10.
use Rattle.ussd.proofs.Steps.{steps}
use Rattle.ussd.proofs.sum.ussd_checksum.Goals as goal

pub returns-then-out-ne-CHECKSUM_OCTETS : goal.returns-then-out-ne-CHECKSUM_OCTETS
returns-then-out-ne-CHECKSUM_OCTETS c = search steps

pub returns-then-not-is_um : goal.returns-then-not-is_um
returns-then-not-is_um c = search steps

pub returns : goal.returns
returns c = search steps
