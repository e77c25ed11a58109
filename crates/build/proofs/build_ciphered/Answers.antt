-- `build_ciphered` meets its contract. The first octet behind the lengths is the head's fourth, and a header length within bounds is not changed by its octet.
use Rattle.build.proofs.Steps.{steps}
use Rattle.build.proofs.build_ciphered.Goals as goal

pub returns : goal.returns
returns c = search steps
