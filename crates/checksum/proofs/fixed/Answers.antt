-- `fixed` meets its contract. A command has no fixed octets, and the three of a response are put at the start.
use Rattle.checksum.proofs.Steps.{steps}
use Rattle.checksum.proofs.fixed.Goals as goal

pub returns-in-Command-clause-out_after : goal.returns-in-Command-clause-out_after
returns-in-Command-clause-out_after c = search steps
