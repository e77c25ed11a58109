-- `packet_size` meets its contract: the flag is the rule's test of the front, so each return is one case of `size_by`. Assumes nothing.
use Rattle.joined.proofs.Steps.{steps}
use Rattle.joined.proofs.packet_size.Goals as goal

pub returns-then-formed-paged : goal.returns-then-formed-paged
returns-then-formed-paged c = search steps

pub returns : goal.returns
returns c = search steps
