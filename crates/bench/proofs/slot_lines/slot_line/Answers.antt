-- A slot is put only if its parts are understood. Assumes nothing.
use Rattle.bench.proofs.Steps.{steps}
use Rattle.bench.proofs.slot_lines.slot_line.Goals as goal

pub returns : goal.returns
returns c = search steps
