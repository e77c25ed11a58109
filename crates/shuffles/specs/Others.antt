-- "Others do not show" (02 [11]): two runs of one list of events, the whole one, and the one without the parts of other keys "from the series'
-- first part on". Before the first part both have the same events. Under the premises of the wake window on the whole run, a call with the key
-- shows the same in both.
use Rattle.std.specs.Prelude.{ℕ, ◌≤◌, ◌<◌, ◌≡◌, Bool, true, false, not, cond, List, [], ◌∷◌, ◌++◌, length, take, replicate}
use Rattle.std.proofs.Math.Option.{Option, none, some}
use Rattle.types.specs.declared.Kind.{Kind}
use Rattle.types.specs.declared.Kind.TheVariants.{Command}
use Rattle.types.specs.Refusals as reading
use Rattle.types.specs.declared.Key.{Key}
use Rattle.types.specs.declared.Slot.{Slot}
use Rattle.arrival.specs.Arrivals.{Brought, single, part}
use Rattle.arrival.specs.Message.{most_parts}
use Rattle.slots.specs.Slots.{slot_at, same_key, bears, find_in, held_at}
use Rattle.cells.specs.Cells.{cell_part}
use Rattle.series.specs.Taking.{After, Answer, kept, packet}
use Rattle.series.specs.Calls.{read}
use Rattle.sequences.specs.Examples.{M}
use Rattle.sequences.specs.Lists.{complete}
use Rattle.sequences.specs.Runs.{Call, Event, takes, beats, Store, fresh, outcome, left, run, ProperCall}
use Rattle.sequences.specs.Timely.{InTime}
use Rattle.sequences.specs.Wake.{begin, follow, Fair, Start}
use Rattle.sequences.specs.SplitTaken.{listed}
use Rattle.sequences.specs.Reached.{key, halves, first, second, crowd, cells}

-- ---- the two runs
-- Which call bears a key is told by reading its octets. A single message, a single page and a call that reading refuses bear none.
abbrev pub bears_own : Key → reading.Outcome Brought → Bool
bears_own K (reading.refused m) = false
bears_own K (reading.gives (single start)) = false
bears_own K (reading.gives (part X total number start)) = same_key X K

abbrev pub bears_other : Key → reading.Outcome Brought → Bool
bears_other K (reading.refused m) = false
bears_other K (reading.gives (single start)) = false
bears_other K (reading.gives (part X total number start)) = not (same_key X K)

abbrev pub with_key : Kind → Key → Call → Bool
with_key k K c = bears_own K (read k c.input)

abbrev pub of_another : Kind → Key → Event → Bool
of_another k K (takes c) = bears_other K (read k c.input)
of_another k K (beats limit) = false

-- "leave out every part of another key"; all else stays, beats too
abbrev pub without_others : Kind → Key → List Event → List Event
without_others k K [] = []
without_others k K (e ∷ es) = cond (of_another k K e) (without_others k K es) (e ∷ without_others k K es)

-- "the calls with this key", in their order
abbrev pub calls_with : Kind → Key → List Event → List Call
calls_with k K [] = []
calls_with k K (takes c ∷ es) = cond (with_key k K c) (c ∷ calls_with k K es) (calls_with k K es)
calls_with k K (beats limit ∷ es) = calls_with k K es

-- ---- what a call with the key lets its sender and receiver see
-- What record and cells hold of a series: its slot, its total, and of each number 1 to 16, if the part is held, the octets that its cell holds of
-- it. Its rank does not belong to this, for others change it, nor its count of beats.
pub record Holding : Type 0 where
  pub slot : ℕ
  pub total : ℕ
  pub parts : List (Option (List ℕ))

abbrev pub part_held : List ℕ → Slot → ℕ → ℕ → Option (List ℕ)
part_held cells x i number = cond (held_at x number) (some (cell_part cells x i number)) none

abbrev pub holding_at : Store → Option ℕ → Option Holding
holding_at st none = none
holding_at st (some i) =
    some (record { slot = i; total = (slot_at st.rec.slots i).total; parts = listed (part_held st.cells (slot_at st.rec.slots i) i) most_parts })

-- none if no slot bears the key
abbrev pub holding : ℕ → Key → Store → Option Holding
holding n K st = holding_at st (find_in n (bears K) st.rec.slots)

-- The series as the call finds it; the answer, "slot numbers and marks of displacement included"; every octet of the output; and the series as
-- the call leaves it.
pub record View : Type 0 where
  pub found : Option Holding
  pub answer : Answer
  pub output : List ℕ
  pub leaves : Option Holding

abbrev pub view_by : ℕ → Key → Option Holding → After → View
view_by n K found a = record { found = found; answer = a.answer; output = a.state.output; leaves = holding n K (left a) }

-- of a call on a store
abbrev pub view_of : ℕ → Key → Store → Call → View
view_of n K st c = view_by n K (holding n K st) (outcome n st c)

module _ (n : ℕ) (k : Kind) (K : Key) where
  -- of a call behind some events, from a fresh record
  abbrev pub view_behind : List ℕ → List Event → Call → View
  view_behind cells events c = view_of n K (run n (fresh n k cells) events) c

  module _ (P : List ℕ) (parts : List (List ℕ)) where
    -- `opening` is the call that brings the series' first part, and `earlier` is all that came before it, calls with other keys too. From it on, a
    -- call c with the key, behind the events u and before v, "up to the one handing the packet out": parts are missing before it.
    pub record OfSeries (cells : List ℕ) (earlier : List Event) (opening : Call) (calls u : List Event) (c : Call) (v : List Event) : Type 0 where
      pub first : with_key k K opening ≡ true
      pub split : takes opening ∷ calls ≡ u ++ takes c ∷ v
      pub own : with_key k K c ≡ true
      pub missing : complete (length parts) (follow n k K (begin n k cells earlier) u).arrived ≡ false

    -- The run without the others has the call, with the same events around it but theirs; and the call shows the same.
    pub record Unseen (cells : List ℕ) (earlier : List Event) (opening : Call) (calls u : List Event) (c : Call) (v : List Event) : Type 0 where
      pub there : without_others k K (takes opening ∷ calls) ≡ without_others k K u ++ takes c ∷ without_others k K v
      pub same : view_behind cells (earlier ++ u) c ≡ view_behind cells (earlier ++ without_others k K u) c

    -- OTHERS DO NOT SHOW: "The calls with this key, up to the one handing the packet out, get the same answers and packets, slot numbers and
    -- marks of displacement included."
    abbrev pub OthersUnseen : (Timely : List ℕ → Type 0) → Type 0
    OthersUnseen Timely =
        (cells : List ℕ) (earlier : List Event) (opening : Call) (calls : List Event) → Start n k K P parts Timely cells earlier (takes opening ∷ calls)
        → (u : List Event) (c : Call) (v : List Event) → OfSeries cells earlier opening calls u c v → Unseen cells earlier opening calls u c v

    -- The run without the others is within the window too, so all that demand 3 says holds of it.
    abbrev pub WithinToo : (Timely : List ℕ → Type 0) → Type 0
    WithinToo Timely =
        (cells : List ℕ) (earlier calls : List Event) → Start n k K P parts Timely cells earlier calls
        → Start n k K P parts Timely cells earlier (without_others k K calls)

    -- ISOLATION, as a statement about values: what a call with the key shows is determined by the events before the first part and by the
    -- calls with the key since. Two runs, both within the window: if the same calls with the key have come in both, in the same order, then the
    -- next one, if it is the same, shows the same in both. All else may differ: parts of other keys, single messages, and the beats too.
    abbrev pub Isolated : (Timely : List ℕ → Type 0) → Type 0
    Isolated Timely =
        (cells : List ℕ) (earlier : List Event) (opening : Call) (calls calls' : List Event)
        → Start n k K P parts Timely cells earlier (takes opening ∷ calls) → Start n k K P parts Timely cells earlier (takes opening ∷ calls')
        → (c : Call) (u v u' v' : List Event) → OfSeries cells earlier opening calls u c v → OfSeries cells earlier opening calls' u' c v'
        → calls_with k K u ≡ calls_with k K u' → view_behind cells (earlier ++ u) c ≡ view_behind cells (earlier ++ u') c

    -- WHAT OTHERS CAN DO AT MOST. All calls so far were within the window, and the next with the key is too if fewer than n other keys came
    -- since the last. If it shows anything else than without the others, then n other keys or more came since.
    abbrev pub OnlyByMany : (Timely : List ℕ → Type 0) → Type 0
    OnlyByMany Timely =
        (cells : List ℕ) (earlier : List Event) (opening : Call) (calls : List Event) → with_key k K opening ≡ true
        → Start n k K P parts Timely cells earlier (takes opening ∷ calls)
        → (c : Call) (total number start : ℕ) → ProperCall c → read k c.input ≡ reading.gives (part K total number start)
        → complete (length parts) (follow n k K (begin n k cells earlier) (takes opening ∷ calls)).arrived ≡ false
        → (length (follow n k K (begin n k cells earlier) (takes opening ∷ calls)).others_since < n
        → Fair n k K P parts Timely (follow n k K (begin n k cells earlier) (takes opening ∷ calls)) c total number start)
        → (view_behind cells (earlier ++ takes opening ∷ calls) c ≡ view_behind cells (earlier ++ without_others k K (takes opening ∷ calls)) c → ⊥)
        → n ≤ length (follow n k K (begin n k cells earlier) (takes opening ∷ calls)).others_since

-- All of it, for either kind, every key, every packet and every cut of it.
pub record OthersDoNotShow (n : ℕ) (Timely : List ℕ → Type 0) : Type 0 where
  pub others_unseen : (k : Kind) (K : Key) (P : List ℕ) (parts : List (List ℕ)) → OthersUnseen n k K P parts Timely
  pub within_too : (k : Kind) (K : Key) (P : List ℕ) (parts : List (List ℕ)) → WithinToo n k K P parts Timely
  pub isolated : (k : Kind) (K : Key) (P : List ℕ) (parts : List (List ℕ)) → Isolated n k K P parts Timely
  pub only_by_many : (k : Kind) (K : Key) (P : List ℕ) (parts : List (List ℕ)) → OnlyByMany n k K P parts Timely

-- ---- the number is the right one
-- With n other keys between the two parts of a packet others do show: the second part displaces a series, and alone it hands out the packet.
pub record OthersShow (n b : ℕ) : Type 0 where
  pub others_left_out : without_others Command key (crowd b n) ≡ takes (first b) ∷ []
  pub slot : ℕ
  pub with_others : (view_behind n Command key (cells n b) (crowd b n) (second b)).answer ≡ kept slot true
  pub without : (view_behind n Command key (cells n b) (takes (first b) ∷ []) (second b)).answer ≡ packet 16

-- ---- the premises can be met
-- With three slots and two other keys between the two parts the premises hold; in both runs the second part finds the first in slot 0, hands
-- out M and leaves nothing of the series.
abbrev pub second_view : ℕ → View
second_view b =
    record {
      found = some (record { slot = 0; total = 2; parts = some (take 8 M) ∷ replicate 15 none });
      answer = packet 16;
      output = M ++ replicate 2126 b;
      leaves = none;
    }

pub record TwoOthers (b : ℕ) : Type 0 where
  pub start : Start 3 Command key M halves InTime (cells 3 b) [] (crowd b 2 ++ takes (second b) ∷ [])
  pub others_left_out : without_others Command key (crowd b 2 ++ takes (second b) ∷ []) ≡ takes (first b) ∷ takes (second b) ∷ []
  pub with_others : view_behind 3 Command key (cells 3 b) (crowd b 2) (second b) ≡ second_view b
  pub without : view_behind 3 Command key (cells 3 b) (takes (first b) ∷ []) (second b) ≡ second_view b
