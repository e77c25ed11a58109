-- `put_numbers` meets its contract: three numbers of two octets, each behind the one before. Assumes nothing.
use Rattle.layout.proofs.WriteSteps.{write_steps}
use Rattle.layout.proofs.write.put_numbers.Goals as goal

pub returns : goal.returns
returns c = search write_steps
