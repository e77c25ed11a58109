-- `set_lengths` meets its contract. Three octets put at the start stand before what the head had behind its third.
use Rattle.build.proofs.Steps.{steps}
use Rattle.build.proofs.set_lengths.Goals as goal

pub returns : goal.returns
returns c = search steps
