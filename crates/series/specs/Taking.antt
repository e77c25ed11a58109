-- Taking a message or a page (01, "Series", "Numbers of refusal"): 1, then what reading refuses, then 7, 8, 9.
use Rattle.std.specs.declared.result.Result.{Result}
use Rattle.std.specs.declared.result.Result.TheVariants.{Ok, Err}
use Rattle.types.specs.declared.Refusal.{Refusal}
use Rattle.std.specs.Prelude.{ℕ, ◌+◌, Bool, true, false, not, cond, ◌||◌, List, ◌++◌, length, drop, eqb}
use Rattle.std.proofs.Math.Option.{Option, none, some}
use Rattle.octets.specs.Octets.{placed, same_octets}
use Rattle.types.specs.Refusals as refusal
use Rattle.packet.specs.Packets.{most_octets}
use Rattle.types.specs.declared.Key.{Key}
use Rattle.arrival.specs.Arrivals.{Brought, single, part}
use Rattle.arrival.specs.Message.{read_message}
use Rattle.arrival.specs.Page.{read_page}
use Rattle.arrival.specs.Keys.{of_pages}
use Rattle.joined.specs.Fronts.{packet_in}
use Rattle.types.specs.declared.Slot.{Slot}
use Rattle.types.specs.declared.Record.{Record}
use Rattle.types.specs.declared.Answer as declared
use Rattle.slots.specs.Below.{all_below}
use Rattle.slots.specs.Slots.{slot_at, bears, is_free, find_in, least_recent, opened, held_at, with_part, to_front, freed, with_slots}
use Rattle.formed.specs.Formed.{record_formed, mark_at}
use Rattle.cells.specs.Cells.{cells_size, cell_at, cell_part, joined_octets}

-- ---- what a call works on, and what it comes to
-- the record, the lent cells and the lent output
pub record State : Type 0 where
  pub rec : Record
  pub cells : List ℕ
  pub output : List ℕ

-- '"Kept" and "held already" name the slot, "kept" also says whether a series was displaced; a packet handed out comes with its length.'
pub data Answer : Type 0 where
  kept : (slot : ℕ) (displaced : Bool) → Answer
  held_already : (slot : ℕ) → Answer
  packet : (size : ℕ) → Answer
  refused_by : (number : ℕ) → Answer

abbrev pub told_answer : Result declared.Answer Refusal → Answer
told_answer (Ok (declared.TheVariants.Kept s d)) = kept s d
told_answer (Ok (declared.TheVariants.HeldAlready s)) = held_already s
told_answer (Ok (declared.TheVariants.Packet n)) = packet n
told_answer (Err r) = refused_by (refusal.refusal_number r)

pub record After : Type 0 where
  pub answer : Answer
  pub state : State

abbrev pub state : Record → List ℕ → List ℕ → State
state r cells output = record { rec = r; cells = cells; output = output }

abbrev pub after : Answer → Record → List ℕ → List ℕ → After
after a r cells output = record { answer = a; state = state r cells output }

-- a refusal alters nothing
abbrev pub refuse : ℕ → State → After
refuse n s = record { answer = refused_by n; state = s }

-- ---- handing out
-- The packet stands at the start of the output, the rest of that buffer stays; where there is none in the octets: 9.
abbrev pub hand_out : State → Record → Option (List ℕ) → After
hand_out s r none = after (refused_by 9) r s.cells s.output
hand_out s r (some p) = after (packet (length p)) r s.cells (p ++ drop (length p) s.output)

-- ---- what a part does
-- with part `number`, no part of the slot is missing
abbrev pub completes : Slot → ℕ → Bool
completes x number = all_below x.total (λ i. eqb (i + 1) number || mark_at x i)

pub data Step : Type 0 where
  -- refused, by number
  refuses : ℕ → Step
  -- the part is held in that slot
  repeats : ℕ → Step
  -- the part is kept in that slot, whose entry before it is x; whether another series is displaced
  keeps : ℕ → (displaced : Bool) → (x : Slot) → Step
  -- the part completes the series in that slot
  finishes : ℕ → Step

module _ (n : ℕ) (s : State) (key : Key) (total number : ℕ) (octets : List ℕ) where
  -- 7: "key held with another total"; 8: "that number held with other octets"
  abbrev pub step_in : ℕ → Slot → Step
  step_in i x =
      cond (not (eqb x.total total)) (refuses 7)
      (cond (held_at x number) (cond (same_octets (cell_part s.cells x i number) octets) (repeats i) (refuses 8))
      (cond (completes x number) (finishes i) (keeps i false x)))

  -- "A new key takes the lowest free slot; with none free it displaces the least recent series."
  abbrev pub step_new : Option ℕ → Step
  step_new (some i) = keeps i false (opened key total)
  step_new none = keeps (least_recent n s.rec.slots) true (opened key total)

  abbrev pub step_for : Option ℕ → Step
  step_for (some i) = step_in i (slot_at s.rec.slots i)
  step_for none = step_new (find_in n is_free s.rec.slots)

  unfoldable pub step : Step
  step = step_for (find_in n (bears key) s.rec.slots)

  -- '"Kept" and "held already" make the series the most recent; no refusal does.' '"Kept" writes exactly the part's octets at the start of its
  -- cell.' "The part that completes a series is not written to the cells .. and the slot becomes free."
  abbrev pub acted : Step → After
  acted (refuses m) = refuse m s
  acted (repeats i) =
      after (held_already i) (with_slots s.rec (to_front s.rec.slots i (slot_at s.rec.slots i))) s.cells s.output
  acted (keeps i displaced x) =
      after (kept i displaced) (with_slots s.rec (to_front s.rec.slots i (with_part x number (length octets))))
      (placed s.cells (cell_at i number) octets) s.output
  acted (finishes i) =
      hand_out s (with_slots s.rec (freed s.rec.slots i))
      (packet_in s.rec.kind (of_pages key) total (joined_octets s.cells (slot_at s.rec.slots i) i number octets))

  unfoldable pub take_part : After
  take_part = acted step

-- ---- taking
-- "A single message is handed out the same way, record and cells as they were."
abbrev pub taken : ℕ → State → Bool → List ℕ → refusal.Outcome Brought → After
taken n s paged o (refusal.refused m) = refuse m s
taken n s paged o (refusal.gives (single start)) = hand_out s s.rec (packet_in s.rec.kind paged 1 (drop start o))
taken n s paged o (refusal.gives (part key total number start)) = take_part n s key total number (drop start o)

-- 1: "a buffer lent for cells or for writing of another length than above, or a record not well formed"
abbrev pub unfit : ℕ → State → Bool
unfit n s =
    not (eqb (length s.cells) (cells_size n)) || not (eqb (length s.output) most_octets) || not (record_formed n s.rec)

unfoldable pub take_message : ℕ → State → ℕ → List ℕ → After
take_message n s sender ud = cond (unfit n s) (refuse 1 s) (taken n s false ud (read_message s.rec.kind sender ud))

unfoldable pub take_page : ℕ → State → List ℕ → After
take_page n s page = cond (unfit n s) (refuse 1 s) (taken n s true page (read_page s.rec.kind page))
