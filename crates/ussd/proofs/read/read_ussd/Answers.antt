-- `read_ussd` meets its contract. The header of a well-formed UM is within what is behind its lengths, so reading that is not refused 9.
use Rattle.ussd.proofs.Steps.{steps}
use Rattle.ussd.proofs.read.read_ussd.Goals as goal

pub returns-in_err-open : goal.returns-in_err-open
returns-in_err-open c = search steps

pub returns : goal.returns
returns c = search (steps, c.in_ok-open.was)
