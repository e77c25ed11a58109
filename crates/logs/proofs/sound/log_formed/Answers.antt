use Rattle.logs.proofs.SoundLaws.{sound_steps}
use Rattle.logs.proofs.sound.log_formed.Goals as goal

pub returns-then-not-is_slot_number : goal.returns-then-not-is_slot_number
returns-then-not-is_slot_number c = search sound_steps

pub returns-then-formed-twice : goal.returns-then-formed-twice
returns-then-formed-twice c = search sound_steps

pub loop-i-preserved : goal.loop-i-preserved
loop-i-preserved c = search sound_steps

pub returns : goal.returns
returns c = search sound_steps
