-- The calls of the plain engine (02 [9]): "Refusals: same numbers and order; 1 also for a log it could not have made."
use Rattle.std.specs.Prelude.{ℕ, ◌+◌, ◌-◌, Bool, true, false, not, cond, ◌&&◌, ◌||◌, List, [], ◌∷◌, length, drop, eqb, ltb, leb}
use Rattle.types.specs.Refusals.{Outcome, refused, gives, refuse◌when◌otherwise◌}
use Rattle.types.specs.declared.Kind.{Kind}
use Rattle.packet.specs.Packets.{most_octets}
use Rattle.arrival.specs.Arrivals.{Brought, single, part}
use Rattle.arrival.specs.Message.{read_message}
use Rattle.arrival.specs.Page.{read_page}
use Rattle.arrival.specs.Keys.{key_formed, total_fits, length_fits}
use Rattle.joined.specs.Fronts.{packet_in}
use Rattle.slots.specs.Below.{all_below}
use Rattle.slots.specs.Slots.{is_slot_number, same_key}
use Rattle.formed.specs.Formed.{most_beats}
use Rattle.series.specs.Taking.{Answer, kept, held_already, packet, refused_by}
use Rattle.series.specs.Calls.{Input, message, page}
use Rattle.types.specs.declared.Log.{Log}
use Rattle.plain.specs.Entries.{Entry, most_entries, log_octets, LogState}
use Rattle.plain.specs.Log.{has_entry, of_rank, is_part, Result, result_of, log_hand_out, log_take_part, log_after_beat, log_dropped}

-- ---- which logs can have been made
-- What an entry says by itself: each clause that a well-formed record makes of a used slot and of a part that is held.
abbrev pub entry_fits : ℕ → Kind → Entry → Bool
entry_fits n k e =
    ltb e.slot n && ltb 0 e.rank && leb e.rank n && leb e.beats most_beats && key_formed k e.key && total_fits e.key e.total
    && ltb 0 e.number && leb e.number e.total && length_fits e.key e.number e.size

-- Entries of one slot agree in what they note of the series. Those of two slots differ in key and in rank, and the more recent has no higher count.
abbrev pub agrees : Entry → Entry → Bool
agrees e x = eqb x.rank e.rank && eqb x.beats e.beats && same_key x.key e.key && eqb x.total e.total

abbrev pub contends : Entry → Entry → Bool
contends e x = same_key x.key e.key || eqb x.rank e.rank || (ltb x.rank e.rank && ltb e.beats x.beats)

abbrev pub against : Entry → Entry → Bool
against e x = cond (eqb x.slot e.slot) (not (agrees e x)) (contends e x)

-- Ranks have no gap: behind each but the first there is the one before it. No series has all its parts.
abbrev pub rank_fits : List Entry → Entry → Bool
rank_fits log e = eqb e.rank 1 || has_entry (of_rank (e.rank - 1)) log

abbrev pub lacks_one : List Entry → Entry → Bool
lacks_one log e = not (all_below e.total (λ j. has_entry (is_part e.slot (j + 1)) log))

abbrev pub entry_formed : ℕ → Kind → List Entry → Entry → Bool
entry_formed n k log e = entry_fits n k e && not (has_entry (against e) log) && rank_fits log e && lacks_one log e

-- each entry passes a test; no part of a slot is there twice
unfoldable pub all_of : (Entry → Bool) → List Entry → Bool
all_of p [] = true
all_of p (e ∷ log) = p e && all_of p log

unfoldable pub none_twice : List Entry → Bool
none_twice [] = true
none_twice (e ∷ log) = not (has_entry (is_part e.slot e.number) log) && none_twice log

-- The order of the entries is not judged, since every order of arrival can be made.
unfoldable pub log_formed : ℕ → Kind → List Entry → Bool
log_formed n k log = is_slot_number n && all_of (entry_formed n k log) log && none_twice log

-- 1: octets for the log of another length, more entries than they have room for, or a log that the engine could not have made
unfoldable pub state_formed : LogState → Bool
state_formed s = eqb s.lent log_octets && leb (length s.log) most_entries && log_formed s.slots s.kind s.log

-- ---- a fresh log
abbrev pub fresh_log : ℕ → Kind → Log
fresh_log n k = record { kind = k; slots = n; count = 0 }

abbrev pub BesideLog : Type 0
BesideLog = Outcome Unit × Log

abbrev pub beside_log : Outcome Unit → Log → BesideLog
beside_log answer l = (answer, l)

-- 25, as for a record
abbrev pub making_log : ℕ → Kind → BesideLog
making_log n k = cond (is_slot_number n) (beside_log (gives tt) (fresh_log n k)) (beside_log (refused 25) (fresh_log 0 k))

-- ---- taking
-- the answer, the log afterwards, and the output
pub record AfterLog : Type 0 where
  pub answer : Answer
  pub state : LogState
  pub output : List ℕ

abbrev pub after_log : Answer → LogState → List ℕ → AfterLog
after_log a s output = record { answer = a; state = s; output = output }

-- the state with other entries
abbrev pub with_log : LogState → List Entry → LogState
with_log s log = record { kind = s.kind; slots = s.slots; lent = s.lent; log = log }

abbrev pub leaves : LogState → Result → AfterLog
leaves s r = after_log r.answer (with_log s r.log) r.output

-- what reading brings: "shares with the first engine the reading of arrivals and the judgement of packets"
abbrev pub log_taken : ℕ → Kind → List Entry → List ℕ → Bool → List ℕ → Outcome Brought → Result
log_taken n k log output paged o (refused m) = result_of (refused_by m) log output
log_taken n k log output paged o (gives (single start)) = log_hand_out log output (packet_in k paged 1 (drop start o))
log_taken n k log output paged o (gives (part key total number start)) = log_take_part n k log output key total number (drop start o)

abbrev pub log_unfit : LogState → List ℕ → Bool
log_unfit s output = not (state_formed s) || not (eqb (length output) most_octets)

unfoldable pub log_take_message : LogState → List ℕ → ℕ → List ℕ → AfterLog
log_take_message s output sender ud =
    cond (log_unfit s output) (after_log (refused_by 1) s output) (leaves s (log_taken s.slots s.kind s.log output false ud (read_message s.kind sender ud)))

unfoldable pub log_take_page : LogState → List ℕ → List ℕ → AfterLog
log_take_page s output o =
    cond (log_unfit s output) (after_log (refused_by 1) s output) (leaves s (log_taken s.slots s.kind s.log output true o (read_page s.kind o)))

-- one function for both
abbrev pub log_take_input : LogState → List ℕ → Input → AfterLog
log_take_input s output (message sender ud) = log_take_message s output sender ud
log_take_input s output (page o) = log_take_page s output o

-- ---- a beat
pub record AfterLogBeat : Type 0 where
  pub answer : Outcome ℕ
  pub state : LogState

abbrev pub beaten_log : Outcome ℕ → LogState → AfterLogBeat
beaten_log answer s = record { answer = answer; state = s }

abbrev pub log_beating : LogState → ℕ → Outcome ℕ
log_beating s limit =
    refuse 1 when not (state_formed s) otherwise
    refuse 18 when eqb limit 0 otherwise
    gives (log_dropped s.slots limit s.log)

abbrev pub leaves_log_beat : LogState → ℕ → Outcome ℕ → AfterLogBeat
leaves_log_beat s limit (refused m) = beaten_log (refused m) s
leaves_log_beat s limit (gives m) = beaten_log (gives m) (with_log s (log_after_beat limit s.log))

unfoldable pub log_beat : LogState → ℕ → AfterLogBeat
log_beat s limit = leaves_log_beat s limit (log_beating s limit)

-- ---- what a refusal leaves
-- Every refusal but 9 leaves the lent octets as they were, each of them. 9 is also the answer to a part that completes a series which is no packet, and
-- that series is dropped.
abbrev pub alters_nothing : Answer → Bool
alters_nothing a = elim a [ kept i d ↦ false | held_already i ↦ false | packet m ↦ false | refused_by m ↦ not (eqb m 9) ]
