-- `beat_slots` meets its contract: the slots before i are as they are after a beat, those dropped among them are counted, and the others are as
-- they were; behind the last slot this is the rule. Assumes nothing.
use Rattle.beats.specs.Turns.{Beat}
use Rattle.layout.specs.Layout.{known, state_record}
use mathlib.Core.Bool.{true}
use mathlib.Core.Path.{◌≡◌}
use Rattle.sound.proofs.beat.beat_slots.Given as goal

abbrev pub invariant-loop-i : goal.invariant-loop-i
invariant-loop-i l = (known l.state ≡ true) × Beat l.limit (state_record l.initial.state) (state_record l.state) l.dropped l.i
