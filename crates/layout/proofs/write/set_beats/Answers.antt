-- `set_beats` meets its contract: octet 1 of a slot says its count of beats and nothing else. Assumes nothing.
use Rattle.layout.proofs.WriteSteps.{write_steps}
use Rattle.layout.proofs.write.set_beats.Goals as goal

pub returns : goal.returns
returns c = search write_steps
