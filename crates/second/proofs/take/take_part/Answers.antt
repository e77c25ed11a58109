-- `take_part` meets its contract. Each need follows by a law of `TakeLaws`. Assumes nothing.
use Rattle.second.proofs.TakeLaws.{part_steps}
use Rattle.second.proofs.take.take_part.Goals as goal

pub returns-then-i-count-clause-output_after : goal.returns-then-i-count-clause-output_after
returns-then-i-count-clause-output_after c = search part_steps

pub take_new-requires : goal.take_new-requires
take_new-requires c = search part_steps

pub returns-clause-output_after : goal.returns-clause-output_after
returns-clause-output_after c = search part_steps
