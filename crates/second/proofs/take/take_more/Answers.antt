-- `take_more` meets its contract. Each need follows by a law of `TakeLaws`. Assumes nothing.
use Rattle.second.proofs.TakeLaws.{more_steps}
use Rattle.second.proofs.take.take_more.Goals as goal

pub take_again-requires : goal.take_again-requires
take_again-requires c = search more_steps
