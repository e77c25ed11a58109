-- `take_missing` meets its contract. Each need follows by a law of `TakeLaws`. Assumes nothing.
use Rattle.second.proofs.TakeLaws.{more_steps}
use Rattle.second.proofs.take.take_missing.Goals as goal

pub returns-clause-output_after : goal.returns-clause-output_after
returns-clause-output_after c = search more_steps
