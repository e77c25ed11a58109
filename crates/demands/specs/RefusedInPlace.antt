-- Demand 1 of the calls on a state and of those on a log: "A refusal alters no lent buffer and no record; one exception: a complete series refused 9 is
-- dropped", and "bad buffers and a record that the library could not have made are refused by number". What is lent are octets, so a state is too.
use Rattle.std.specs.Prelude.{ℕ, ◌≡◌, true, false, List, length, drop}
use Rattle.std.proofs.Math.Option.{none, some}
use Rattle.octets.specs.Octets.{Octets}
use Rattle.types.specs.Refusals as outcome
use Rattle.types.specs.declared.Kind.{Kind}
use Rattle.types.specs.declared.Key.{Key}
use Rattle.packet.specs.Packets.{most_octets}
use Rattle.arrival.specs.Arrivals.{part}
use Rattle.slots.specs.Slots.{freed, with_slots}
use Rattle.formed.specs.Formed.{record_formed}
use Rattle.cells.specs.Cells.{cells_size}
use Rattle.series.specs.Taking.{refused_by, state}
use Rattle.series.specs.Calls.{Input, octets_of, read}
use Rattle.layout.specs.Layout.{state_record, known, state_octets, on_state, making_state}
use Rattle.sound.specs.Card.{beat_in}
use Rattle.card.specs.Card.{TakenState, taken_state, take_in}
use Rattle.plain.specs.Entries.{Entry, LogState}
use Rattle.plain.specs.Log.{first_entry, has_key, is_part, without, close, log_complete}
use Rattle.plain.specs.Engine.{state_formed, AfterLog, after_log, with_log, log_take_input, beaten_log, log_beat}
use Rattle.demands.specs.Refusing.{Completes}

-- ---- a state
-- What a call that was refused `number` left: every octet as it was, except where it completes a series and is refused 9; there the octets are those of
-- the record without that series, and nothing else changes.
pub data LeftState (s cells output : List ℕ) (i : Input) (number : ℕ) : TakenState → Type 0 where
  state_unaltered : (number ≡ 9 → (slot : ℕ) → Completes (state_record s).count (state (state_record s) cells output) i slot → ⊥)
      → LeftState s cells output i number (taken_state (refused_by number) s cells output)
  state_without : number ≡ 9 → (slot : ℕ) → Completes (state_record s).count (state (state_record s) cells output) i slot
      → LeftState s cells output i number (taken_state (refused_by number) (state_octets (with_slots (state_record s) (freed (state_record s).slots slot))) cells output)

pub record StateRefused : Type 0 where
  pub taking : (s cells output : List ℕ) (i : Input) (number : ℕ) → Octets s → (take_in s cells output i).answer ≡ refused_by number
      → LeftState s cells output i number (take_in s cells output i)
  pub beat : (s : List ℕ) (limit number : ℕ) → Octets s → (beat_in s limit).answer ≡ outcome.refused number → (beat_in s limit).octets ≡ s
  pub making : (s : List ℕ) (n : ℕ) (k : Kind) (number : ℕ) → (making_state s n k).answer ≡ outcome.refused number → (making_state s n k).octets ≡ s
  -- octets that are no state, a record that is not well formed, cells or output of another length
  pub no_state : (s cells output : List ℕ) (i : Input) → known s ≡ false → take_in s cells output i ≡ taken_state (refused_by 1) s cells output
  pub not_formed : (s cells output : List ℕ) (i : Input) → Octets s → record_formed (state_record s).count (state_record s) ≡ false
      → take_in s cells output i ≡ taken_state (refused_by 1) s cells output
  pub other_cells : (s cells output : List ℕ) (i : Input) → Octets s → (length cells ≡ cells_size (state_record s).count → ⊥)
      → take_in s cells output i ≡ taken_state (refused_by 1) s cells output
  pub other_output : (s cells output : List ℕ) (i : Input) → Octets s → (length output ≡ most_octets → ⊥)
      → take_in s cells output i ≡ taken_state (refused_by 1) s cells output
  pub no_state_beaten : (s : List ℕ) (limit : ℕ) → known s ≡ false → beat_in s limit ≡ on_state (outcome.refused 1) s
  pub none_formed_beaten : (s : List ℕ) (limit : ℕ) → Octets s → record_formed (state_record s).count (state_record s) ≡ false
      → beat_in s limit ≡ on_state (outcome.refused 1) s

-- ---- a log
-- The call completes the series of entry e: it is read as a part of the entry's key and total, its number is not in the log, and with it none is missing.
pub record CompletesLog (s : LogState) (output : List ℕ) (i : Input) (e : Entry) : Type 0 where
  pub key : Key
  pub total : ℕ
  pub which : ℕ
  pub start : ℕ
  pub brings : read s.kind i ≡ outcome.gives (part key total which start)
  pub bears : first_entry (has_key key) s.log ≡ some e
  pub counted : e.total ≡ total
  pub new : first_entry (is_part e.slot which) s.log ≡ none
  pub last : log_complete s.slots s.kind s.log output key total which (drop start (octets_of i)) e.slot ≡ true

-- what a call that was refused `number` left, in what the log says
pub data LeftLog (s : LogState) (output : List ℕ) (i : Input) (number : ℕ) : AfterLog → Type 0 where
  log_unaltered : (number ≡ 9 → (e : Entry) → CompletesLog s output i e → ⊥) → LeftLog s output i number (after_log (refused_by number) s output)
  log_without : number ≡ 9 → (e : Entry) → CompletesLog s output i e
      → LeftLog s output i number (after_log (refused_by number) (with_log s (close e.rank (without e.slot s.log))) output)

pub record LogRefused : Type 0 where
  pub taking : (s : LogState) (output : List ℕ) (i : Input) (number : ℕ) → (log_take_input s output i).answer ≡ refused_by number
      → LeftLog s output i number (log_take_input s output i)
  pub beat : (s : LogState) (limit number : ℕ) → (log_beat s limit).answer ≡ outcome.refused number → (log_beat s limit).state ≡ s
  -- a log that the engine could not have made or of another length, an output of another length
  pub not_formed : (s : LogState) (output : List ℕ) (i : Input) → state_formed s ≡ false → log_take_input s output i ≡ after_log (refused_by 1) s output
  pub other_output : (s : LogState) (output : List ℕ) (i : Input) → (length output ≡ most_octets → ⊥) → log_take_input s output i ≡ after_log (refused_by 1) s output
  pub none_formed_beaten : (s : LogState) (limit : ℕ) → state_formed s ≡ false → log_beat s limit ≡ beaten_log (outcome.refused 1) s
