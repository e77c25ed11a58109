-- Demand 3, the wake window, for n slots and with beats (02 [5], [6]); 01's library has three and none. Premises and conclusion are two predicates
-- of what was seen before a call and of the call.
use Rattle.std.specs.Prelude.{ℕ, ◌-◌, ◌≤◌, ◌<◌, ◌≡◌, Bool, true, false, cond, List, [], ◌∷◌, ◌++◌, length, get_or, drop, eqb}
use Rattle.octets.specs.Octets.{placed}
use Rattle.types.specs.declared.Kind.{Kind}
use Rattle.types.specs.Refusals as reading
use Rattle.packet.specs.Packets.{well_formed}
use Rattle.types.specs.declared.Key.{Key}
use Rattle.arrival.specs.Arrivals.{Brought, single, part}
use Rattle.arrival.specs.Keys.{of_pages}
use Rattle.joined.specs.Fronts.{pages_allow}
use Rattle.types.specs.declared.Record.{Record}
use Rattle.slots.specs.Slots.{slot_at, same_key}
use Rattle.cells.specs.Cells.{cells_size, cell_at}
use Rattle.series.specs.Taking.{After, Answer, kept, held_already, packet, refused_by, after}
use Rattle.series.specs.CaseLaws.{Bears, Lacks}
use Rattle.series.specs.Calls.{read, octets_of}
use Rattle.sequences.specs.Lists.{concat, elem, add, add_key, complete}
use Rattle.sequences.specs.Runs.{Call, Event, takes, beats, Store, fresh, outcome, left, left_by, run, Proper, Each}

-- "cut into 2 to 16 parts": joined in order they are the packet; for pages "as few pages as hold it, then filler"
pub data Cut (K : Key) (P : List ℕ) (parts : List (List ℕ)) : Type 0 where
  in_messages : of_pages K ≡ false → concat parts ≡ P → Cut K P parts
  in_pages : of_pages K ≡ true → (filler : List ℕ) → concat parts ≡ P ++ filler → pages_allow (length parts) (length P) ≡ true → Cut K P parts

-- What was seen before a call: what the calls before left; the numbers that calls with the key have brought, and the slot that the first of
-- them was answered with; and since the last call with the key: the other keys that calls answered "kept" or "held already" have borne, and the
-- limits of the beats, the latest first.
pub record History : Type 0 where
  pub store : Store
  pub arrived : List ℕ
  pub slot : ℕ
  pub others_since : List Key
  pub beats_since : List ℕ

-- after any calls from a fresh record, before the first that is looked at
abbrev pub begin : ℕ → Kind → List ℕ → List Event → History
begin n k cells earlier = record { store = run n (fresh n k cells) earlier; arrived = []; slot = 0; others_since = []; beats_since = [] }

-- 'answered "kept" or "held already"'
abbrev pub counts : After → Bool
counts a = elim a.answer [ kept i d ↦ true | held_already i ↦ true | packet m ↦ false | refused_by m ↦ false ]

-- the slot of the first answer: that of this one if nothing had come before, and else the one that it was
abbrev pub first_slot : List ℕ → Answer → ℕ → ℕ
first_slot [] answer was = elim answer [ kept i d ↦ i | held_already i ↦ was | packet m ↦ was | refused_by m ↦ was ]
first_slot (m ∷ got) answer was = was

-- "A new key takes the lowest free slot; with none free it displaces the least recent series": the slot, and the mark of displacement. Later
-- it is the slot of the first answer, and no mark. A free slot has rank 0, the most recent series rank 1.
pub data Seating (n : ℕ) (rank : ℕ → ℕ) (w : History) (i : ℕ) : Bool → Type 0 where
  lowest_free : w.arrived ≡ [] → i < n → rank i ≡ 0 → ((j : ℕ) → j < i → 0 < rank j) → Seating n rank w i false
  least_recent_lem : w.arrived ≡ [] → i < n → ((j : ℕ) → j < n → (0 < rank j) × (rank j ≤ rank i)) → Seating n rank w i true
  goes_on : (w.arrived ≡ [] → ⊥) → i ≡ w.slot → Seating n rank w i false

module _ (n : ℕ) (k : Kind) (K : Key) where
  -- What is seen after a call. Which call bears a key is told by reading its octets, never by its answer.
  abbrev pub history_after : History → After → reading.Outcome Brought → History
  history_after w a (reading.refused m) = record { store = left a; arrived = w.arrived; slot = w.slot; others_since = w.others_since; beats_since = w.beats_since }
  history_after w a (reading.gives (single start)) = record { store = left a; arrived = w.arrived; slot = w.slot; others_since = w.others_since; beats_since = w.beats_since }
  history_after w a (reading.gives (part X total number start)) = cond (same_key X K)
      (record { store = left a; arrived = add number w.arrived; slot = first_slot w.arrived a.answer w.slot; others_since = []; beats_since = [] })
      (record { store = left a; arrived = w.arrived; slot = w.slot; others_since = cond (counts a) (add_key X w.others_since) w.others_since; beats_since = w.beats_since })

  -- and after a beat. One with limit 0 is refused, and is none.
  abbrev pub history_by : History → Event → History
  history_by w (takes c) = history_after w (outcome n w.store c) (read k c.input)
  history_by w (beats limit) =
      record { store = left_by n w.store (beats limit); arrived = w.arrived; slot = w.slot; others_since = w.others_since; beats_since = cond (eqb limit 0) w.beats_since (limit ∷ w.beats_since) }

  abbrev pub follow : History → List Event → History
  follow w [] = w
  follow w (e ∷ es) = follow (history_by w e) es

  -- a claim holds of each call that bears the key while parts are missing, with what was seen before it
  abbrev pub EachWith : ℕ → (History → Call → (total number start : ℕ) → Type 0) → History → List Event → Type 0
  EachWith t Claim w calls = (u : List Event) (c : Call) (v : List Event) → calls ≡ u ++ takes c ∷ v → (total number start : ℕ)
      → read k c.input ≡ reading.gives (part K total number start) → complete t (follow w u).arrived ≡ false → Claim (follow w u) c total number start

  module _ (P : List ℕ) (parts : List (List ℕ)) where
    -- Premise: "each call with that key bring one of these parts, in any order, repeats allowed", and between two successive such calls fewer
    -- than n other keys, "at most two", and beats that are in time, as `Timely` reads it.
    pub record Fair (Timely : List ℕ → Type 0) (w : History) (c : Call) (total number start : ℕ) : Type 0 where
      pub counted : total ≡ length parts
      pub brought : drop start (octets_of c.input) ≡ get_or parts (number - 1) []
      pub few_others : (w.arrived ≡ [] → ⊥) → length w.others_since < n
      pub in_time : (w.arrived ≡ [] → ⊥) → Timely w.beats_since

    -- Conclusion, r being the record that is left. If the number had come before: "held already" with the slot of the first answer, cells and
    -- output as they were. If parts are still missing: "kept", the part's octets at the start of its cell. If it was the last missing part:
    -- exactly the packet is handed out, and the key is held no more.
    pub data Served (w : History) (c : Call) (total number start : ℕ) : Type 0 where
      again : (r : Record) → elem number w.arrived ≡ true → Bears n r.slots K w.slot
          → outcome n w.store c ≡ after (held_already w.slot) r w.store.cells c.output → Served w c total number start
      waits : (r : Record) (i : ℕ) (d : Bool) → elem number w.arrived ≡ false → complete (length parts) (add number w.arrived) ≡ false
          → outcome n w.store c ≡ after (kept i d) r (placed w.store.cells (cell_at i number) (get_or parts (number - 1) [])) c.output
          → Seating n (λ j. (slot_at w.store.rec.slots j).rank) w i d → Bears n r.slots K i → Served w c total number start
      wakes : (r : Record) → elem number w.arrived ≡ false → complete (length parts) (add number w.arrived) ≡ true → Lacks n r.slots K
          → outcome n w.store c ≡ after (packet (length P)) r w.store.cells (P ++ drop (length P) c.output) → Served w c total number start

    -- A well-formed packet of the record's kind, cut into parts; any calls from a fresh record, after which the key is not held; then fair ones.
    pub record Start (Timely : List ℕ → Type 0) (cells : List ℕ) (earlier calls : List Event) : Type 0 where
      pub formed : well_formed k P ≡ true
      pub cut : Cut K P parts
      pub two : 2 ≤ length parts
      pub size : length cells ≡ cells_size n
      pub before : Each Proper earlier
      pub proper : Each Proper calls
      pub lacks : Lacks n (run n (fresh n k cells) earlier).rec.slots K
      pub fair : EachWith (length parts) (Fair Timely) (begin n k cells earlier) calls

    -- THE WAKE WINDOW: "then no such call is refused, and the one that brings the last missing part hands out exactly that packet"
    abbrev pub WakeWindow : (Timely : List Event → List ℕ → Type 0) → Type 0
    WakeWindow Timely =
        (cells : List ℕ) (earlier calls : List Event) → Start (Timely (earlier ++ calls)) cells earlier calls
        → EachWith (length parts) Served (begin n k cells earlier) calls
