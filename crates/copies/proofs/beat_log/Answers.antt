-- `beat_log` meets its contract. Each need follows by a law of `BeatLaws`. Assumes nothing.
use Rattle.copies.proofs.BeatLaws.{beat_steps}
use Rattle.copies.proofs.beat_log.Goals as goal

pub returns-then-not-formed-clause-entries_after : goal.returns-then-not-formed-clause-entries_after
returns-then-not-formed-clause-entries_after c = search beat_steps

pub returns-then-limit-eq0-clause-entries_after : goal.returns-then-limit-eq0-clause-entries_after
returns-then-limit-eq0-clause-entries_after c = search beat_steps

pub age_all-left-requires-clause-count_le_most_entries : goal.age_all-left-requires-clause-count_le_most_entries
age_all-left-requires-clause-count_le_most_entries c = search beat_steps

pub age_all-left-requires-clause-count_value : goal.age_all-left-requires-clause-count_value
age_all-left-requires-clause-count_value c = search beat_steps

pub returns-clause-entries_after : goal.returns-clause-entries_after
returns-clause-entries_after c = search beat_steps
