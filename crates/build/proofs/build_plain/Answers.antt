-- `build_plain` meets its contract. The first octet behind the lengths is the head's fourth, and a header length that fits is not changed by its octet.
use Rattle.build.proofs.Steps.{steps}
use Rattle.build.proofs.build_plain.Goals as goal

pub returns : goal.returns
returns c = search steps
