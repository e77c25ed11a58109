-- `fill` meets its contract. Each run is put where the last one ended, so the three are joined from that place on.
use Rattle.build.proofs.Steps.{steps}
use Rattle.build.proofs.fill.Goals as goal

pub returns : goal.returns
returns c = search steps
