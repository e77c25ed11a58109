-- `state_formed` meets its contract. Each need follows by a law of `SoundLaws`. Assumes nothing.
use Rattle.logs.proofs.SoundLaws.{sound_steps}
use Rattle.logs.proofs.sound.state_formed.Goals as goal

pub returns-then-entries-ne-LOG_OCTETS : goal.returns-then-entries-ne-LOG_OCTETS
returns-then-entries-ne-LOG_OCTETS c = search sound_steps

pub returns-then-log-gt-LOG_ENTRIES : goal.returns-then-log-gt-LOG_ENTRIES
returns-then-log-gt-LOG_ENTRIES c = search sound_steps

pub returns : goal.returns
returns c = search sound_steps
