-- A series whose sender went silent is given up (02 [6], "Give up what is dead").
use Rattle.std.specs.Prelude.{ℕ, zero, suc, ◌-◌, ◌≤◌, ◌<◌, ◌≡◌, Bool, true, false, not, cond, ◌&&◌, List, [], ◌∷◌, ◌++◌, length, eqb, leb}
use Rattle.types.specs.declared.Kind.{Kind}
use Rattle.types.specs.declared.Kind.TheVariants.{Command}
use Rattle.types.specs.Refusals.{refused, gives}
use Rattle.types.specs.declared.Key.{Key}
use Rattle.types.specs.declared.Record.{Record}
use Rattle.arrival.specs.Arrivals.{part}
use Rattle.slots.specs.Slots.{slot_at, free_slot, at_count}
use Rattle.formed.specs.Formed.{record_formed}
use Rattle.beats.specs.Beats.{dropped_by, beaten, beat}
use Rattle.cells.specs.Cells.{cells_size}
use Rattle.series.specs.Taking.{kept, packet}
use Rattle.series.specs.CaseLaws.{Lacks}
use Rattle.series.specs.Calls.{read}
use Rattle.sequences.specs.Examples.{M}
use Rattle.sequences.specs.Runs.{Call, Event, takes, beats, ProperCall, Proper, Each, Store, fresh, outcome, run}
use Rattle.sequences.specs.Timely.{FewerThanLeastOfAll}
use Rattle.sequences.specs.Wake.{counts, Start}
use Rattle.sequences.specs.Reached.{key, halves, first, second, cells}

-- ---- one beat
-- "1 for a malformed record, then 18 for limit 0": the record comes back as it was
pub record BeatRefuses (n : ℕ) (r : Record) (limit : ℕ) : Type 0 where
  pub malformed : record_formed n r ≡ false → beat n r limit ≡ beaten (refused 1) r
  pub no_limit : record_formed n r ≡ true → limit ≡ 0 → beat n r limit ≡ beaten (refused 18) r

-- Every other beat is answered with how many series it drops. A series whose count reaches the limit is dropped, each other one is a beat older and
-- keeps its rank, a free slot stays free; whatever is dropped is less recent than all that stays; the record stays well formed.
pub record BeatDoes (n : ℕ) (r : Record) (limit : ℕ) : Type 0 where
  pub answered : (beat n r limit).answer ≡ gives (dropped_by limit r.slots)
  pub drops : (i : ℕ) → 0 < (slot_at r.slots i).rank → limit ≤ suc (slot_at r.slots i).beats → slot_at (beat n r limit).rec.slots i ≡ free_slot
  pub stays : (i : ℕ) → 0 < (slot_at r.slots i).rank → suc (slot_at r.slots i).beats < limit
      → slot_at (beat n r limit).rec.slots i ≡ at_count (suc (slot_at r.slots i).beats) (slot_at r.slots i)
  pub free : (i : ℕ) → (slot_at r.slots i).rank ≡ 0 → slot_at (beat n r limit).rec.slots i ≡ slot_at r.slots i
  pub least_recent_lem : (i j : ℕ) → i < n → j < n → 0 < (slot_at r.slots i).rank → limit ≤ suc (slot_at r.slots i).beats
      → 0 < (slot_at r.slots j).rank → suc (slot_at r.slots j).beats < limit → (slot_at r.slots j).rank < (slot_at r.slots i).rank
  pub formed : record_formed n (beat n r limit).rec ≡ true

abbrev pub Beating : ℕ → Type 0
Beating n =
    (r : Record) (limit : ℕ) → BeatRefuses n r limit × (record_formed n r ≡ true → 0 < limit → limit < 256 → BeatDoes n r limit)

-- ---- silence
-- Nothing touches the series of a key: no call with the key is answered "kept" or "held already".
abbrev pub NoTouch : ℕ → Kind → Key → Store → List Event → Type 0
NoTouch n k K st events = (u : List Event) (c : Call) (v : List Event) → events ≡ u ++ takes c ∷ v → (total number start : ℕ)
    → read k c.input ≡ gives (part K total number start) → counts (outcome n (run n st u) c) ≡ false

-- how many beats among them have a limit of 1 up to this one
abbrev pub beats_within : ℕ → List Event → ℕ
beats_within limit [] = 0
beats_within limit (takes c ∷ events) = beats_within limit events
beats_within limit (beats l ∷ events) = cond (not (eqb l 0) && leb l limit) (suc (beats_within limit events)) (beats_within limit events)

-- The key is held no more. "A reused reference", with whatever total, is kept then: it is neither refused 7 nor completes what was there.
pub record GivenUp (n : ℕ) (k : Kind) (K : Key) (st : Store) : Type 0 where
  pub gone : Lacks n st.rec.slots K
  pub taken_anew : (c : Call) → ProperCall c → (total number start : ℕ) → read k c.input ≡ gives (part K total number start)
      → (slot : ℕ) × (displaced : Bool) × ((outcome n st c).answer ≡ kept slot displaced)

-- "Give up what is dead": from any store that calls and beats from a fresh record lead to, after as many beats as the limit says and no touch, whatever
-- else comes between, calls with other keys and parts of this one that are refused.
abbrev pub SilentGivenUp : ℕ → Type 0
SilentGivenUp n =
    (k : Kind) (K : Key) (cells : List ℕ) (earlier events : List Event) → length cells ≡ cells_size n → Each Proper earlier → Each Proper events
    → NoTouch n k K (run n (fresh n k cells) earlier) events
    → (limit : ℕ) → 0 < limit → limit ≤ beats_within limit events → GivenUp n k K (run n (run n (fresh n k cells) earlier) events)

-- m beats in a row, with one limit
abbrev pub silence : ℕ → ℕ → List Event
silence limit zero = []
silence limit (suc m) = beats limit ∷ silence limit m

-- ---- the number is the right one, for each limit
module _ (n b limit : ℕ) where
  -- with one beat fewer than the limit between the two parts, the premises of the wake window hold as 02 words them, the least limit over all of the
  -- sequence, and the packet comes
  pub record MetInTime : Type 0 where
    pub start : let events : List Event = takes (first b) ∷ silence limit (limit - 1) ++ takes (second b) ∷ [] in
        Start n Command key M halves (FewerThanLeastOfAll events) (cells n b) [] events
    pub comes : (outcome n (run n (fresh n Command (cells n b)) (takes (first b) ∷ silence limit (limit - 1))) (second b)).answer ≡ packet 16

  -- with as many as the limit the first part is gone, and the second opens a series anew
  pub record MissedTooLate : Type 0 where
    pub lost : Lacks n (run n (fresh n Command (cells n b)) (takes (first b) ∷ silence limit limit)).rec.slots key
    pub kept_anew : (outcome n (run n (fresh n Command (cells n b)) (takes (first b) ∷ silence limit limit)) (second b)).answer ≡ kept 0 false

abbrev pub OnTheLimit : ℕ → Type 0
OnTheLimit n = (b limit : ℕ) → 0 < limit → limit < 256 → MetInTime n b limit × MissedTooLate n b limit
