-- `take_arrival` meets its contract. Each need follows by a law of `CallLaws`. Assumes nothing.
use Rattle.second.proofs.CallLaws.{call_steps}
use Rattle.second.proofs.take_arrival.Goals as goal

pub take_brought-done-requires-clause-sound_log : goal.take_brought-done-requires-clause-sound_log
take_brought-done-requires-clause-sound_log c = search call_steps
