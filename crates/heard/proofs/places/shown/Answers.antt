-- `shown` meets its contract: a packet that cannot be read is refused as in reading; of one that can be read the places are put. Assumes nothing.
use Rattle.heard.specs.Steps.{steps}
use Rattle.heard.proofs.places.shown.Goals as goal

pub returns-in-Err : goal.returns-in-Err
returns-in-Err c = search steps
