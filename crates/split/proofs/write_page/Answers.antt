-- As for user data: the tests decide alike, and what `write` left is the page of the rule. Assumes nothing.
use Rattle.split.proofs.Steps.{steps}
use Rattle.split.proofs.write_page.Goals as goal

pub write-length-requires : goal.write-length-requires
write-length-requires c = search (steps, c.in_ok-total.was)

pub returns-in_err-total : goal.returns-in_err-total
returns-in_err-total c = search steps

pub returns : goal.returns
returns c = search (steps, c.in_ok-total.was)
