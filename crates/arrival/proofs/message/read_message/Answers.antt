-- `read_message` meets its contract: the octets that are walked are those that UDHL counts, and what the walk saw is judged as the summary of
-- all the elements is. Empty user data has a length that is not above any UDHL. Assumes nothing.
use Rattle.arrival.proofs.Steps.{steps}
use Rattle.arrival.proofs.message.read_message.Goals as goal

pub returns-then-ud-gt-USER_DATA_OCTETS : goal.returns-then-ud-gt-USER_DATA_OCTETS
returns-then-ud-gt-USER_DATA_OCTETS c = search steps

pub returns-then-ud-eq0 : goal.returns-then-ud-eq0
returns-then-ud-eq0 c = search steps

pub returns-then-ud-n : goal.returns-then-ud-n
returns-then-ud-n c = search steps

pub returns-in_default : goal.returns-in_default
returns-in_default c = search steps

pub returns : goal.returns
returns c = search steps
