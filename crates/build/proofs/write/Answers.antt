-- `write` meets its contract. The head with its lengths, the front and the back joined are the packet, and what was put is as long as that.
use Rattle.build.proofs.Steps.{steps}
use Rattle.build.proofs.write.Goals as goal

pub returns : goal.returns
returns c = search steps
