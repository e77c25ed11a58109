-- Each header that is put is that of the rule: of a later part only what is before the packet identifier. Assumes nothing.
use Rattle.split.proofs.Steps.{steps}
use Rattle.split.proofs.message.put_header.Goals as goal

pub returns-then-total-eq1 : goal.returns-then-total-eq1
returns-then-total-eq1 c = search steps

pub returns-then-width-eq16 : goal.returns-then-width-eq16
returns-then-width-eq16 c = search steps

pub returns : goal.returns
returns c = search steps
