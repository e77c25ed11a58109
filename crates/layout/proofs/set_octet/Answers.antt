-- `set_octet` meets its contract: a store inside block i changes that octet of that block and leaves the head and the other blocks. Assumes nothing.
use Rattle.layout.proofs.Steps.{octet_steps}
use Rattle.layout.proofs.set_octet.Goals as goal

pub returns-then-i-lt-SLOTS : goal.returns-then-i-lt-SLOTS
returns-then-i-lt-SLOTS c = search octet_steps

pub returns-else-i-lt-SLOTS : goal.returns-else-i-lt-SLOTS
returns-else-i-lt-SLOTS c = search octet_steps
