-- `write_plain` meets its contract. SPI is the first of the fixed fields, and a header length that fits is not changed by its octet.
use Rattle.ussd_write.proofs.Steps.{steps}
use Rattle.ussd_write.proofs.write_plain.Goals as goal

pub returns : goal.returns
returns c = search steps
