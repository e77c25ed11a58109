-- The beat on the octets of a state: the same rule, of the record that they hold.
use Rattle.std.specs.Prelude.{ℕ, cond, List}
use Rattle.types.specs.Refusals.{Outcome, refused}
use Rattle.layout.specs.Layout.{state_record, known, state_octets, OnState, on_state}
use Rattle.beats.specs.Beats.{AfterBeat, beat}

-- what a beat comes to, with the octets of the record afterwards
abbrev pub beat_octets : AfterBeat → OnState (Outcome ℕ)
beat_octets a = on_state a.answer (state_octets a.rec)

-- Octets that are no state are refused 1, as a record that is not well formed, and stay as they were.
unfoldable pub beat_in : List ℕ → ℕ → OnState (Outcome ℕ)
beat_in s limit = cond (known s) (beat_octets (beat (state_record s).count (state_record s) limit)) (on_state (refused 1) s)
