-- What the functions that take a part cite of one another: what they rely on, and what a part is by its number.
use Rattle.std.specs.Prelude.{ℕ, ◌≡◌, Bool, true, false, cond, List, [], ◌∷◌, ◌++◌, length, eqb}
use Rattle.std.proofs.Math.Option.{Option, none, some}
use Rattle.types.specs.Refusals.{Outcome, refused, gives}
use Rattle.types.specs.declared.Kind.{Kind}
use Rattle.types.specs.declared.Key.{Key}
use Rattle.packet.specs.Packets.{most_octets}
use Rattle.octets.specs.Joined.{joined}
use Rattle.arrival.specs.Arrivals.{Brought, single, part}
use Rattle.arrival.specs.Laws.{Admitted}
use Rattle.arrival.specs.Keys.{of_pages}
use Rattle.joined.specs.Fronts.{packet_in}
use Rattle.series.specs.Taking.{Answer, kept, refused_by}
use Rattle.plain.specs.Entries.{Entry, LogState}
use Rattle.plain.specs.Log.{first_entry, is_part, octets_in, free_from, touch, close, without, Result, result_of, log_hand_out, new_series}
use Rattle.logs.specs.Places.{all_in_log}
use Rattle.copies.specs.Copying.{part_entry, SoundLog}
use Rattle.plain.specs.Engine.{AfterLog, after_log, log_unfit, leaves, log_taken, alters_nothing}

-- ---- what acting relies on
-- the log is sound, reading gave the part, and the output is as long as it must be
pub record ReadyLog (n : ℕ) (k : Kind) (lent : List ℕ) (m : ℕ) (key : Key) (total number : ℕ) (octets output : List ℕ) : Type 0 where
  pub sound : SoundLog n k lent m
  pub admitted : Admitted k key total number octets
  pub wide : length output ≡ most_octets

-- ---- the parts of a series
-- of `whole`: part k of slot i, where the part that arrives has this number; what the parts join to
abbrev pub log_piece : List Entry → ℕ → ℕ → List ℕ → ℕ → List ℕ
log_piece log i number octets k = cond (eqb k number) octets (octets_in (first_entry (is_part i k) log))

abbrev pub whole_of : List Entry → ℕ → ℕ → ℕ → List ℕ → List ℕ
whole_of log i total number octets = joined (log_piece log i number octets) total

-- of `in_part`: what a part does that the series of slot i, of rank r, lacks
abbrev pub lacking : Kind → List Entry → List ℕ → ℕ → ℕ → Key → ℕ → ℕ → List ℕ → Result
lacking k log output i r key total number octets =
    cond (all_in_log i number log total) (log_hand_out (close r (without i log)) output (packet_in k (of_pages key) total (whole_of log i total number octets)))
    (result_of (kept i false) (touch i r log ++ part_entry i key total number octets ∷ []) output)

-- what an answer of which a test holds leaves as it was
pub record Stays (test : Bool) (old new : List ℕ) : Type 0 where
  pub same : test ≡ true → new ≡ old

-- ---- a new series
-- of `displaces`: the slot of an entry that is there, else the first
abbrev pub slot_or_first : Option Entry → ℕ
slot_or_first none = 0
slot_or_first (some e) = e.slot

-- of `new_series`: the answer and the entries, whatever the kind and the output
pub record Opened (n : ℕ) (log : List Entry) (key : Key) (total number : ℕ) (octets : List ℕ) (a : Answer) (l : List Entry) : Type 0 where
  pub is : (k : Kind) (output : List ℕ) → result_of a l output ≡ new_series n k log output key total number octets (free_from log 0 n)

-- ---- a call
-- of `log_take_message` and `log_take_page`: what follows on reading, with the test of 1 before it
abbrev pub taken_if_fit : LogState → List ℕ → Bool → List ℕ → Outcome Brought → AfterLog
taken_if_fit s output paged o b =
    cond (log_unfit s output) (after_log (refused_by 1) s output) (leaves s (log_taken s.slots s.kind s.log output paged o b))

-- The entries are looked at and not written: by everything but a part, and by a part that is refused with another number than 9. So a refused arrival and
-- a single message or page leave each lent octet of the log as it was, whatever the answer.
abbrev pub only_reads : Outcome Brought → Answer → Bool
only_reads (refused m) a = true
only_reads (gives (single start)) a = true
only_reads (gives (part key total number start)) a = alters_nothing a
