-- Demand 1: "A refusal alters no lent buffer and no record; one exception: a complete series refused 9 is dropped." (01: "Refusal 9 on a
-- complete series frees its slot; nothing else changes, then or on any other refusal.") Every entry point takes every input and ends: that is
-- what the proof of each function says; here is what a refused call leaves.
use Rattle.std.specs.Prelude.{ℕ, ◌+◌, ◌≤◌, ◌<◌, ◌≡◌, Bool, true, false, List, [], length}
use Rattle.octets.specs.Octets.{fits_at, after_put}
use Rattle.types.specs.declared.Kind.{Kind}
use Rattle.types.specs.declared.Kind.TheVariants.{Response}
use Rattle.types.specs.Refusals as outcome
use Rattle.types.specs.Refusals.{lent}
use Rattle.packet.specs.Packets.{most_octets, most_checksum, Fields, parsing, shown_data, shown_check, shown_opaque, built, checksummed}
use Rattle.types.specs.declared.Key.{Key}
use Rattle.arrival.specs.Arrivals.{part}
use Rattle.arrival.specs.Message.{most_user_data}
use Rattle.arrival.specs.Page.{page_octets}
use Rattle.slots.specs.Slots.{slot_at, held_at, freed, with_slots, fresh_record, beside, making}
use Rattle.formed.specs.Formed.{record_formed}
use Rattle.types.specs.declared.Record.{Record}
use Rattle.beats.specs.Beats.{beaten, beat}
use Rattle.cells.specs.Cells.{cells_size}
use Rattle.series.specs.Taking.{State, refused_by, state, refuse, completes}
use Rattle.series.specs.CaseLaws.{Bears}
use Rattle.series.specs.Calls.{Input, read, take_input}
use Rattle.split.specs.Splitting.{written, write_message, write_page}
use Rattle.types.specs.declared.Counters.{Counters}
use Rattle.counters.specs.Counters.{judge_counter}
use Rattle.types.specs.declared.SentCommand.{SentCommand}
use Rattle.types.specs.declared.Outstanding.{Outstanding}
use Rattle.gateway.specs.Gateway.{command_sent, response_came}
use Rattle.ussd.specs.Ussd.{most_string, read_ussd, shown_ussd_data, shown_ussd_check, shown_ussd_opaque, written_ussd, ussd_checksummed}
use Rattle.sequences.specs.Runs.{Slots}
use Rattle.report.specs.Reporting.{most_report, reported, write_report, response_announces}
use Rattle.capture.specs.Captures.{most_capture, salvaging}

-- ---- taking
-- The call completes the series in that slot: it is read as a part of the slot's key and total, its number is not held, and with it none is
-- missing.
pub record Completes (n : ℕ) (s : State) (i : Input) (slot : ℕ) : Type 0 where
  pub key : Key
  pub total : ℕ
  pub which : ℕ
  pub start : ℕ
  pub brings : read s.rec.kind i ≡ outcome.gives (part key total which start)
  pub bears : Bears n s.rec.slots key slot
  pub counted : (slot_at s.rec.slots slot).total ≡ total
  pub new : held_at (slot_at s.rec.slots slot) which ≡ false
  pub last : completes (slot_at s.rec.slots slot) which ≡ true

-- What a call that was refused `number` left: all as it was, except where it completes a series and is refused 9; there that series is dropped,
-- and nothing else changes.
pub data Leaves (n : ℕ) (s : State) (i : Input) (number : ℕ) : State → Type 0 where
  unaltered : (number ≡ 9 → (slot : ℕ) → Completes n s i slot → ⊥) → Leaves n s i number s
  dropped : number ≡ 9 → (slot : ℕ) → Completes n s i slot
      → Leaves n s i number (state (with_slots s.rec (freed s.rec.slots slot)) s.cells s.output)

abbrev pub TakingRefused : ℕ → Type 0
TakingRefused n = (s : State) (i : Input) (number : ℕ) → (take_input n s i).answer ≡ refused_by number → Leaves n s i number (take_input n s i).state

-- ---- the beat: the record stays as it was
abbrev pub BeatRefused : ℕ → Type 0
BeatRefused n = (r : Record) (limit number : ℕ) → (beat n r limit).answer ≡ outcome.refused number → (beat n r limit).rec ≡ r

-- ---- building, checksum octets, writing parts, pages and reports, salvaging: the lent buffer stays as it was
abbrev pub BuildingRefused : Type 0
BuildingRefused = (k : Kind) (x : Fields) (buffer : List ℕ) (number : ℕ) → (built k x buffer).0 ≡ outcome.refused number → (built k x buffer).1 ≡ buffer

abbrev pub ChecksumRefused : Type 0
ChecksumRefused =
    (k : Kind) (c : Bool) (p buffer : List ℕ) (number : ℕ) → (checksummed k c p buffer).0 ≡ outcome.refused number → (checksummed k c p buffer).1 ≡ buffer

abbrev pub WritingRefused : Type 0
WritingRefused =
    (k : Kind) (width reference : ℕ) (p : List ℕ) (which : ℕ) (buffer : List ℕ) (number : ℕ)
    → (write_message k width reference p which buffer).answer ≡ outcome.refused number → (write_message k width reference p which buffer).buffer ≡ buffer

abbrev pub PageRefused : Type 0
PageRefused =
    (serial identifier dcs : ℕ) (p : List ℕ) (which : ℕ) (buffer : List ℕ) (number : ℕ)
    → (write_page serial identifier dcs p which buffer).answer ≡ outcome.refused number → (write_page serial identifier dcs p which buffer).buffer ≡ buffer

abbrev pub ReportRefused : Type 0
ReportRefused =
    (edition spi capacity : ℕ) (p buffer : List ℕ) (number : ℕ)
    → (write_report edition spi capacity p buffer).0 ≡ outcome.refused number → (write_report edition spi capacity p buffer).1 ≡ buffer

abbrev pub SalvagingRefused : Type 0
SalvagingRefused = (file output : List ℕ) (number : ℕ) → (salvaging file output).0 ≡ outcome.refused number → (salvaging file output).1 ≡ output

-- ---- USSD strings: the lent buffer stays as it was, and of a string that is refused nothing is shown
abbrev pub UssdWritingRefused : Type 0
UssdWritingRefused =
    (pfi : ℕ) (x : Fields) (buffer : List ℕ) (number : ℕ) → (written_ussd pfi x buffer).0 ≡ outcome.refused number → (written_ussd pfi x buffer).1 ≡ buffer

abbrev pub UssdChecksumRefused : Type 0
UssdChecksumRefused = (um buffer : List ℕ) (number : ℕ) → (ussd_checksummed um buffer).0 ≡ outcome.refused number → (ussd_checksummed um buffer).1 ≡ buffer

pub record NothingShownUssd (pfi dcs : ℕ) (s : List ℕ) : Type 0 where
  pub secured : shown_ussd_data pfi dcs s ≡ []
  pub check : shown_ussd_check pfi dcs s ≡ []
  pub opaque : shown_ussd_opaque pfi dcs s ≡ []

abbrev pub UssdReadingRefused : Type 0
UssdReadingRefused = (pfi dcs : ℕ) (s : List ℕ) (number : ℕ) → read_ussd pfi dcs s ≡ outcome.refused number → NothingShownUssd pfi dcs s

-- ---- judging a counter: the table stays as it was
abbrev pub JudgingRefused : Type 0
JudgingRefused = (c : Counters) (p : List ℕ) (number : ℕ) → (judge_counter c p).answer ≡ outcome.refused number → (judge_counter c p).counters ≡ c

-- ---- a command that was sent, a response that came: "No refusal changes the table" (02, [13])
abbrev pub SendingRefused : Type 0
SendingRefused = (t : Outstanding) (c : SentCommand) (number : ℕ) → (command_sent t c).0 ≡ outcome.refused number → (command_sent t c).1 ≡ t

abbrev pub ClosingRefused : Type 0
ClosingRefused =
    (t : Outstanding) (sender : ℕ) (p : List ℕ) (number : ℕ) → (response_came t sender p).0 ≡ outcome.refused number → (response_came t sender p).1 ≡ t

-- ---- parsing: "with empty parts where parts are shown"
pub record NothingShown (k : Kind) (c : Bool) (p : List ℕ) : Type 0 where
  pub secured : shown_data k c p ≡ []
  pub check : shown_check k c p ≡ []
  pub opaque : shown_opaque k c p ≡ []

abbrev pub ParsingRefused : Type 0
ParsingRefused = (k : Kind) (c : Bool) (p : List ℕ) (number : ℕ) → parsing k c p ≡ outcome.refused number → NothingShown k c p

-- of a response that announces another: refused as parsing refuses it
abbrev pub AnnouncingRefused : Type 0
AnnouncingRefused = (p : List ℕ) (number : ℕ) → parsing Response false p ≡ outcome.refused number → response_announces p ≡ outcome.refused number

-- ---- "bad buffers and a record that the library could not have made are refused by number"
-- Each call that lends a buffer or takes a record: with a buffer of another length than 01's, or a record that is not well formed, it is
-- refused 1, and everything stays as it was. Two calls have no number for it: `record_formed` says no, `put` says no and writes nothing.
pub record UnfitRefused (n : ℕ) : Type 0 where
  pub taking_cells : (s : State) (i : Input) → (length s.cells ≡ cells_size n → ⊥) → take_input n s i ≡ refuse 1 s
  pub taking_output : (s : State) (i : Input) → (length s.output ≡ most_octets → ⊥) → take_input n s i ≡ refuse 1 s
  pub taking_record : (s : State) (i : Input) → record_formed n s.rec ≡ false → take_input n s i ≡ refuse 1 s
  pub beating : (r : Record) (limit : ℕ) → record_formed n r ≡ false → beat n r limit ≡ beaten (outcome.refused 1) r
  pub building : (k : Kind) (x : Fields) (buffer : List ℕ) → (length buffer ≡ most_octets → ⊥) → built k x buffer ≡ lent (outcome.refused 1) buffer
  pub checksum_octets_lem : (k : Kind) (c : Bool) (p buffer : List ℕ) → (length buffer ≡ most_checksum → ⊥)
      → checksummed k c p buffer ≡ lent (outcome.refused 1) buffer
  pub writing_user_data : (k : Kind) (width reference : ℕ) (p : List ℕ) (which : ℕ) (buffer : List ℕ) → (length buffer ≡ most_user_data → ⊥)
      → write_message k width reference p which buffer ≡ written (outcome.refused 1) buffer
  pub writing_a_page : (serial identifier dcs : ℕ) (p : List ℕ) (which : ℕ) (buffer : List ℕ) → (length buffer ≡ page_octets → ⊥)
      → write_page serial identifier dcs p which buffer ≡ written (outcome.refused 1) buffer
  pub writing_a_report : (edition spi capacity : ℕ) (p buffer : List ℕ) → (length buffer ≡ most_report → ⊥)
      → write_report edition spi capacity p buffer ≡ reported (outcome.refused 1) buffer
  pub salvaging_a_capture : (file output : List ℕ) → length file ≤ most_capture → (length output ≡ length file → ⊥)
      → salvaging file output ≡ lent (outcome.refused 1) output
  pub writing_ussd_lem : (pfi : ℕ) (x : Fields) (buffer : List ℕ) → (length buffer ≡ most_string → ⊥) → written_ussd pfi x buffer ≡ lent (outcome.refused 1) buffer
  pub ussd_checksum_octets_lem : (um buffer : List ℕ) → (length buffer ≡ most_checksum → ⊥) → ussd_checksummed um buffer ≡ lent (outcome.refused 1) buffer
  pub put : (o : List ℕ) (at : ℕ) (p : List ℕ) → length o < at + length p → (fits_at o at p ≡ false) × (after_put o at p ≡ o)

-- ---- making a record
-- 25 "for a record asked with 0 or more than five slots", and for no other number; what was made is well formed. The record beside 25 has no
-- slots and is all zero: no call accepts it, whatever number of slots is asked of it and whatever is lent with it.
pub record MakingRefused : Type 0 where
  pub made : (n : ℕ) (k : Kind) → Slots n → making n k ≡ beside (outcome.gives tt) (fresh_record n k)
  pub refused_by_lem : (n : ℕ) (k : Kind) → (Slots n → ⊥) → making n k ≡ beside (outcome.refused 25) (fresh_record 0 k)
  pub accepted : (n : ℕ) (k : Kind) → Slots n → record_formed n (fresh_record n k) ≡ true
  pub no_call : (k : Kind) (cells output : List ℕ) (i : Input)
      → take_input 0 (state (fresh_record 0 k) cells output) i ≡ refuse 1 (state (fresh_record 0 k) cells output)
  pub never_formed : (n : ℕ) (k : Kind) → record_formed n (fresh_record 0 k) ≡ false
