-- `judge` meets its contract. What is asked first is refused first, and the check bits are those behind the lengths.
use Rattle.ussd.proofs.Steps.{steps}
use Rattle.ussd.proofs.read.judge.Goals as goal

pub returns-in_err-header : goal.returns-in_err-header
returns-in_err-header c = search steps

pub returns-then-against_check : goal.returns-then-against_check
returns-then-against_check c = search (steps, c.in_ok-header.was)

pub returns : goal.returns
returns c = search (steps, c.in_ok-header.was)
