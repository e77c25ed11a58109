-- `beat_slot` meets its contract: it drops, leaves or raises as the rule of one slot does. Assumes nothing.
use Rattle.sound.proofs.BeatSteps.{beat_steps}
use Rattle.sound.proofs.beat.beat_slot.Goals as goal

pub returns-then-is_dead-clause-became : goal.returns-then-is_dead-clause-became
returns-then-is_dead-clause-became c = search beat_steps

pub returns-then-rank_at-ne0-clause-became : goal.returns-then-rank_at-ne0-clause-became
returns-then-rank_at-ne0-clause-became c = search beat_steps

pub returns-else-rank_at-ne0-clause-became : goal.returns-else-rank_at-ne0-clause-became
returns-else-rank_at-ne0-clause-became c = search beat_steps
