-- `after_beat` meets its contract: each need follows by a lemma of `Steps`. Assumes nothing.
use Rattle.beats.proofs.Steps.{steps}
use Rattle.beats.proofs.after_beat.Goals as goal

pub returns-then-is_dead : goal.returns-then-is_dead
returns-then-is_dead c = search steps

pub returns-then-x-eq0 : goal.returns-then-x-eq0
returns-then-x-eq0 c = search steps

pub returns : goal.returns
returns c = search steps
