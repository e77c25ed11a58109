-- `finish` meets its contract. Each need follows by a law of `TakeLaws`. Assumes nothing.
use Rattle.second.proofs.TakeLaws.{finish_steps}
use Rattle.second.proofs.take.finish.Goals as goal

pub hand_out_series-size-requires-clause-part_len_bound : goal.hand_out_series-size-requires-clause-part_len_bound
hand_out_series-size-requires-clause-part_len_bound c = search finish_steps

pub returns-clause-output_after : goal.returns-clause-output_after
returns-clause-output_after c = search finish_steps
