-- `is_addressed` meets its contract. That the string starts with two octets is that its first two are these.
use Rattle.ussd.proofs.Steps.{addressed_told}
use Rattle.ussd.proofs.read.is_addressed.Goals as goal

pub returns : goal.returns
returns c = addressed_told _ _ _ _ c.starts_with-same.ensures.value
