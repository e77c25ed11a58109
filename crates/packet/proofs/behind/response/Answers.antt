-- `response` meets its contract: what was asked first is asked in the rule's order, and a header within the octets has its fields there.
use Rattle.packet.proofs.Fields.{steps}
use Rattle.packet.proofs.behind.response.Goals as goal

pub returns-in_err-checked : goal.returns-in_err-checked
returns-in_err-checked c = search steps

pub returns : goal.returns
returns c = search (steps, c.in_ok-checked.was)
