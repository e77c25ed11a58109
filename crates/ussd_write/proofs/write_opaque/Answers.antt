-- `write_opaque` meets its contract. SPI is the first of the clear fields, and a header length within bounds is not changed by its octet.
use Rattle.ussd_write.proofs.Steps.{steps}
use Rattle.ussd_write.proofs.write_opaque.Goals as goal

pub returns : goal.returns
returns c = search steps
