-- When a series can be displaced (01, "Series": "with none free it displaces the least recent series"): if at each moment at most as many keys
-- are unfinished as there are slots, none ever is.
use Rattle.std.specs.Prelude.{ℕ, ◌≤◌, ◌≡◌, Bool, true, not, cond, ◌&&◌, List, [], ◌∷◌, ◌++◌, length, eqb}
use Rattle.types.specs.declared.Kind.{Kind}
use Rattle.types.specs.Refusals as reading
use Rattle.types.specs.declared.Key.{Key}
use Rattle.arrival.specs.Arrivals.{Brought, single, part}
use Rattle.series.specs.Taking.{Answer, kept, held_already, packet, refused_by}
use Rattle.series.specs.Calls.{read}
use Rattle.types.specs.declared.Slot.{Slot}
use Rattle.slots.specs.Below.{any_below}
use Rattle.slots.specs.Slots.{slot_at, bears}
use Rattle.sequences.specs.Lists.{add_key, drop_key}
use Rattle.sequences.specs.Runs.{Call, Event, takes, beats, Store, fresh, outcome, left_by, run, Each}
use Rattle.sequences.specs.Always.{BringsOctets}

-- A key is unfinished from "kept" on, until its packet is handed out, it is refused 9, or a beat drops it.
abbrev pub unfinished_after : Key → Answer → List Key → List Key
unfinished_after X (kept i d) l = add_key X l
unfinished_after X (held_already i) l = l
unfinished_after X (packet m) l = drop_key X l
unfinished_after X (refused_by m) l = cond (eqb m 9) (drop_key X l) l

-- Which call bears a key is told by reading its octets.
abbrev pub unfinished_with : reading.Outcome Brought → Answer → List Key → List Key
unfinished_with (reading.refused m) a l = l
unfinished_with (reading.gives (single start)) a l = l
unfinished_with (reading.gives (part X total number start)) a l = unfinished_after X a l

-- A beat drops a key if it is held before and not afterwards.
abbrev pub holds_key : ℕ → List Slot → Key → Bool
holds_key n xs X = any_below n (λ i. bears X (slot_at xs i))

abbrev pub not_dropped : ℕ → List Slot → List Slot → List Key → List Key
not_dropped n before behind [] = []
not_dropped n before behind (X ∷ l) =
    cond (holds_key n before X && not (holds_key n behind X)) (not_dropped n before behind l) (X ∷ not_dropped n before behind l)

-- the keys that are unfinished after a call or a beat, if l were before it; and after a list of these
abbrev pub unfinished_by : ℕ → Kind → Store → List Key → Event → List Key
unfinished_by n k st l (takes c) = unfinished_with (read k c.input) (outcome n st c).answer l
unfinished_by n k st l (beats limit) = not_dropped n st.rec.slots (left_by n st (beats limit)).rec.slots l

abbrev pub unfinished : ℕ → Kind → Store → List Key → List Event → List Key
unfinished n k st l [] = l
unfinished n k st l (e ∷ es) = unfinished n k (left_by n st e) (unfinished_by n k st l e) es

-- any calls and beats from a fresh record, with at most n keys unfinished at each moment: no call is answered with the mark of displacement
abbrev pub NeverDisplaced : ℕ → Kind → Type 0
NeverDisplaced n k =
    (cells : List ℕ) (calls : List Event) → Each BringsOctets calls
    → ((u v : List Event) → calls ≡ u ++ v → length (unfinished n k (fresh n k cells) [] u) ≤ n)
    → (u : List Event) (c : Call) (v : List Event) → calls ≡ u ++ takes c ∷ v → (slot : ℕ) → (outcome n (run n (fresh n k cells) u) c).answer ≡ kept slot true → ⊥
