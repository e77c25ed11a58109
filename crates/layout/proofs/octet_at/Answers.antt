-- `octet_at` meets its contract: octet p of block i of the slots is that octet of the state; past the last slot a block has none. Assumes nothing.
use Rattle.layout.proofs.Steps.{octet_steps}
use Rattle.layout.proofs.octet_at.Goals as goal

pub returns-then-i-lt-SLOTS : goal.returns-then-i-lt-SLOTS
returns-then-i-lt-SLOTS c = search octet_steps

pub returns : goal.returns
returns c = search octet_steps
