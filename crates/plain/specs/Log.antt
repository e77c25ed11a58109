-- The plain rule (02 [9]): "each search a walk from its start, series dropped by copying the log without them". What one part does to a log, and what a
-- beat does.
use Rattle.std.specs.Prelude.{ℕ, zero, suc, ◌+◌, Bool, true, false, not, cond, ◌&&◌, ◌||◌, List, [], ◌∷◌, ◌++◌, map, length, drop, eqb, ltb, leb}
use Rattle.std.proofs.Math.Option.{Option, none, some}
use Rattle.octets.specs.Octets.{same_octets}
use Rattle.octets.specs.Joined.{joined}
use Rattle.types.specs.declared.Kind.{Kind}
use Rattle.types.specs.declared.Key.{Key}
use Rattle.arrival.specs.Keys.{of_pages}
use Rattle.joined.specs.Fronts.{packet_in}
use Rattle.slots.specs.Below.{all_below, count_below}
use Rattle.slots.specs.Slots.{same_key, aged, closed}
use Rattle.series.specs.Taking.{Answer, kept, held_already, packet, refused_by}
use Rattle.plain.specs.Entries.{Entry}

-- ---- walks
-- the first entry that passes a test, and whether there is one
unfoldable pub first_entry : (Entry → Bool) → List Entry → Option Entry
first_entry p [] = none
first_entry p (e ∷ log) = cond (p e) (some e) (first_entry p log)

abbrev pub is_some : Option Entry → Bool
is_some none = false
is_some (some e) = true

abbrev pub has_entry : (Entry → Bool) → List Entry → Bool
has_entry p log = is_some (first_entry p log)

-- what is looked for: a key, a slot, a part of a slot, a rank
abbrev pub has_key : Key → Entry → Bool
has_key key e = same_key e.key key

abbrev pub of_slot : ℕ → Entry → Bool
of_slot i e = eqb e.slot i

abbrev pub is_part : ℕ → ℕ → Entry → Bool
is_part i number e = eqb e.slot i && eqb e.number number

abbrev pub of_rank : ℕ → Entry → Bool
of_rank r e = eqb e.rank r

-- the lowest of the m slots from i on that no entry names: one walk for each slot
unfoldable pub free_from : List Entry → ℕ → ℕ → Option ℕ
free_from log i zero = none
free_from log i (suc m) = cond (has_entry (of_slot i) log) (free_from log (suc i) m) (some i)

-- ---- copies
-- the log with the entries alone that pass a test, and so without the series of slot i
unfoldable pub only : (Entry → Bool) → List Entry → List Entry
only p [] = []
only p (e ∷ log) = cond (p e) (e ∷ only p log) (only p log)

abbrev pub without : ℕ → List Entry → List Entry
without i log = only (λ e. not (of_slot i e)) log

-- the entry, with another rank and another count of beats
abbrev pub noted_as : ℕ → ℕ → Entry → Entry
noted_as rank beats e =
    record { slot = e.slot; rank = rank; beats = beats; key = e.key; total = e.total; number = e.number; size = e.size; octets = e.octets }

-- The series of slot i, of rank r before (0: it is new), comes to the front and its count is 0; what was more recent is one less so.
abbrev pub touched : ℕ → ℕ → Entry → Entry
touched i r e = noted_as (cond (of_slot i e) 1 (aged r e.rank)) (cond (of_slot i e) 0 e.beats) e

abbrev pub touch : ℕ → ℕ → List Entry → List Entry
touch i r log = map (touched i r) log

-- A series of rank r was dropped: what was less recent moves up by one.
abbrev pub moved_up : ℕ → Entry → Entry
moved_up r e = noted_as (closed r e.rank) e.beats e

abbrev pub close : ℕ → List Entry → List Entry
close r log = map (moved_up r) log

-- ---- a part
-- the answer, the entries afterwards, and the output
pub record Result : Type 0 where
  pub answer : Answer
  pub log : List Entry
  pub output : List ℕ

abbrev pub result_of : Answer → List Entry → List ℕ → Result
result_of a log output = record { answer = a; log = log; output = output }

abbrev pub log_hand_out : List Entry → List ℕ → Option (List ℕ) → Result
log_hand_out log output none = result_of (refused_by 9) log output
log_hand_out log output (some p) = result_of (packet (length p)) log (p ++ drop (length p) output)

abbrev pub octets_in : Option Entry → List ℕ
octets_in none = []
octets_in (some e) = e.octets

module _ (n : ℕ) (kind : Kind) (log : List Entry) (output : List ℕ) (key : Key) (total number : ℕ) (octets : List ℕ) where
  -- the part's entry in slot i, whose series is the most recent then
  abbrev pub new_entry : ℕ → Entry
  new_entry i = record { slot = i; rank = 1; beats = 0; key = key; total = total; number = number; size = length octets; octets = octets }

  -- with this part none of slot i is missing; all of them, one behind the other: one walk for each number
  abbrev pub log_complete : ℕ → Bool
  log_complete i = all_below total (λ j. eqb (j + 1) number || has_entry (is_part i (j + 1)) log)

  abbrev pub whole : ℕ → List ℕ
  whole i = joined (λ m. cond (eqb m number) octets (octets_in (first_entry (is_part i m) log))) total

  -- Entry e is of the part's series. The part is held with the same octets or with others, or it is the last missing one, or it is kept.
  abbrev pub in_part : Entry → Option Entry → Result
  in_part e (some p) =
      cond (same_octets p.octets octets) (result_of (held_already e.slot) (touch e.slot e.rank log) output) (result_of (refused_by 8) log output)
  in_part e none =
      cond (log_complete e.slot) (log_hand_out (close e.rank (without e.slot log)) output (packet_in kind (of_pages key) total (whole e.slot)))
      (result_of (kept e.slot false) (touch e.slot e.rank log ++ new_entry e.slot ∷ []) output)

  abbrev pub in_series : Entry → Result
  in_series e = cond (not (eqb e.total total)) (result_of (refused_by 7) log output) (in_part e (first_entry (is_part e.slot number) log))

  -- a new series in slot i, which had rank r before: 0 if it was free, n if its series is displaced
  abbrev pub log_opens : ℕ → ℕ → Bool → Result
  log_opens i r displaced = result_of (kept i displaced) (touch i r (without i log) ++ new_entry i ∷ []) output

  -- with no slot free there is an entry of rank n
  abbrev pub displaces : Option Entry → Result
  displaces none = log_opens 0 n true
  displaces (some e) = log_opens e.slot n true

  abbrev pub new_series : Option ℕ → Result
  new_series (some i) = log_opens i 0 false
  new_series none = displaces (first_entry (of_rank n) log)

  abbrev pub for_series : Option Entry → Result
  for_series none = new_series (free_from log 0 n)
  for_series (some e) = in_series e

  unfoldable pub log_take_part : Result
  log_take_part = for_series (first_entry (has_key key) log)

-- ---- a beat
-- one beat more, and the series of the entry has not reached the limit
abbrev pub living : ℕ → Entry → Bool
living limit e = ltb (suc e.beats) limit

abbrev pub older : Entry → Entry
older e = noted_as e.rank (suc e.beats) e

unfoldable pub log_after_beat : ℕ → List Entry → List Entry
log_after_beat limit log = map older (only (living limit) log)

-- how many series are dropped: one walk for each slot
abbrev pub dead : ℕ → ℕ → Entry → Bool
dead limit i e = of_slot i e && leb limit (suc e.beats)

abbrev pub log_dropped : ℕ → ℕ → List Entry → ℕ
log_dropped n limit log = count_below n (λ i. has_entry (dead limit i) log)
