-- Where `due` refuses, the rule refuses by the same number and the buffer is untouched; else the part is ready, and what `write` left at the
-- buffer's start is what the rule writes. Assumes nothing.
use Rattle.split.proofs.Steps.{steps}
use Rattle.split.proofs.write_message.Goals as goal

pub write-length-requires : goal.write-length-requires
write-length-requires c = search (steps, c.in_ok-total.was)

pub returns-in_err-total : goal.returns-in_err-total
returns-in_err-total c = search steps

pub returns : goal.returns
returns c = search (steps, c.in_ok-total.was)
