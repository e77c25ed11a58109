-- `write_fields` meets its contract. What is ruled out is refused; what is allowed fits, and is written.
use Rattle.ussd_write.proofs.Steps.{steps}
use Rattle.ussd_write.proofs.write_fields.Goals as goal

pub returns-in_err-rule : goal.returns-in_err-rule
returns-in_err-rule c = search steps

pub write-requires : goal.write-requires
write-requires c = search (steps, c.in_ok-rule.was)

pub returns : goal.returns
returns c = search (steps, c.in_ok-rule.was)
