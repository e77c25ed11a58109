-- The header and the part's octets are put one behind the other, so that the user data stands at the start. It is at most 140 octets long, so
-- both fit. Assumes nothing.
use Rattle.split.proofs.Steps.{steps}
use Rattle.split.proofs.message.write.Goals as goal

pub returns : goal.returns
returns c = search steps
