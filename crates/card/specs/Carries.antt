-- Call after call, the octets of a state hold the record that the rules lead to. So what is shown of the rules, over whatever sequence, holds of the
-- calls on octets.
use Rattle.std.specs.Prelude.{ℕ, ◌<◌, ◌≡◌, refl, Bool, not, cond, List, length, drop, eqb}
use Rattle.std.proofs.Common.{ap, ◌∙◌}
use Rattle.std.proofs.Math.Bool.{true, false}
use Rattle.std.proofs.Math.Option.{Option, none, some}
use Rattle.types.specs.Refusals as reading
use Rattle.types.specs.declared.Key.{Key}
use Rattle.types.specs.declared.Slot.{Slot}
use Rattle.types.specs.declared.Record.{Record}
use Rattle.arrival.specs.Arrivals.{Brought, single, part}
use Rattle.arrival.specs.Message.{read_message}
use Rattle.arrival.specs.Page.{read_page}
use Rattle.arrival.specs.Keys.{of_pages}
use Rattle.joined.specs.Fronts.{packet_in}
use Rattle.octets.specs.Octets.{same_octets}
use Rattle.slots.specs.Slots.{slot_at, bears, is_free, find_in, held_at, with_part, to_front, freed, with_slots}
use Rattle.slots.specs.FrontLaws.{front_length, freed_length}
use Rattle.layout.specs.Layout.{state_record, known, state_octets}
use Rattle.layout.specs.Shapes.{ShapedSlot, Shaped, opened_shaped, part_shaped, shapes_at, front_shapes, freed_shapes, state_shaped}
use Rattle.layout.specs.OctetLaws.{read_back, known_octets}
use Rattle.cells.specs.Cells.{cell_part, joined_octets}
use Rattle.series.specs.Taking.{State, Answer, After, Step, refuses, repeats, keeps, finishes, hand_out, completes, step_new, step_for, step, acted, take_part, state, after, refuse, unfit, taken, take_message, take_page}
use Rattle.series.specs.Calls.{Input, message, page, take_input}
use Rattle.series.proofs.KeepsFormed.{taken_stays}
use Rattle.card.specs.Card.{TakenState, taken_state, taken_octets, take_in}

-- ---- taking leaves a record that octets can hold
-- the slot that a part is kept in is one that they can
abbrev Keepable : List Slot → Step → Type 0
Keepable xs (refuses m) = Unit
Keepable xs (repeats i) = Unit
Keepable xs (keeps i d x) = i < length xs → ShapedSlot x
Keepable xs (finishes i) = Unit

module _ (n : ℕ) (s : State) (w : Shaped s.rec) where
  abbrev xs : List Slot
  xs = s.rec.slots

  front_shaped : (i : ℕ) (x : Slot) → (i < length xs → ShapedSlot x) → Shaped (with_slots s.rec (to_front xs i x))
  front_shaped i x g = record { five = front_length xs i x ∙ w.five; slots = front_shapes xs w.slots i x g }

  handed_shaped : (r : Record) (o : Option (List ℕ)) → Shaped r → Shaped (hand_out s r o).state.rec
  handed_shaped r none h = h
  handed_shaped r (some p) h = h

  module _ (key : Key) (total number : ℕ) (octets : List ℕ) where
    step_keeps : Keepable xs (step n s key total number octets)
    unfolding step
    step_keeps = go (find_in n (bears key) xs)
      where
        held : (i : ℕ) (a b c d : Bool)
            → Keepable xs (cond a (refuses 7) (cond b (cond c (repeats i) (refuses 8)) (cond d (finishes i) (keeps i false (slot_at xs i)))))
        held i true b c d = tt
        held i false true true d = tt
        held i false true false d = tt
        held i false false c true = tt
        held i false false c false = λ l. shapes_at xs i l w.slots

        new : (q : Option ℕ) → Keepable xs (step_new n s key total number octets q)
        new (some i) = λ l. opened_shaped key total
        new none = λ l. opened_shaped key total

        go : (q : Option ℕ) → Keepable xs (step_for n s key total number octets q)
        go (some i) = held i (not (eqb (slot_at xs i).total total)) (held_at (slot_at xs i) number) (same_octets (cell_part s.cells (slot_at xs i) i number) octets) (completes (slot_at xs i) number)
        go none = new (find_in n is_free xs)

    acted_shaped : (st : Step) → Keepable xs st → Shaped (acted n s key total number octets st).state.rec
    acted_shaped (refuses m) k = w
    acted_shaped (repeats i) k = front_shaped i (slot_at xs i) (λ l. shapes_at xs i l w.slots)
    acted_shaped (keeps i d x) k = front_shaped i (with_part x number (length octets)) (λ l. part_shaped x number (length octets) (k l))
    acted_shaped (finishes i) k =
        handed_shaped (with_slots s.rec (freed xs i)) (packet_in s.rec.kind (of_pages key) total (joined_octets s.cells (slot_at xs i) i number octets))
        (record { five = freed_length xs i ∙ w.five; slots = freed_shapes xs w.slots i })

  taken_shaped : (paged : Bool) (o : List ℕ) (b : reading.Outcome Brought) → Shaped (taken n s paged o b).state.rec
  unfolding take_part
  taken_shaped paged o (reading.refused m) = w
  taken_shaped paged o (reading.gives (single start)) = handed_shaped s.rec (packet_in s.rec.kind paged 1 (drop start o)) w
  taken_shaped paged o (reading.gives (part key total number start)) =
      acted_shaped key total number (drop start o) (step n s key total number (drop start o)) (step_keeps key total number (drop start o))

-- ---- of a call: what holds of the record whether it was refused 1 or taken
module _ (P : Record → Type 0) (n : ℕ) (s : State) (was : P s.rec)
    (is : (paged : Bool) (o : List ℕ) (b : reading.Outcome Brought) → P (taken n s paged o b).state.rec) where
  tested : (b : Bool) (a : After) → P a.state.rec → P (cond b (refuse 1 s) a).state.rec
  tested true a h = was
  tested false a h = h

  of_call : (input : Input) → P (take_input n s input).state.rec
  unfolding take_message take_page
  of_call (message sender ud) = tested (unfit n s) (taken n s false ud (read_message s.rec.kind sender ud)) (is false ud (read_message s.rec.kind sender ud))
  of_call (page o) = tested (unfit n s) (taken n s true o (read_page s.rec.kind o)) (is true o (read_page s.rec.kind o))

pub take_shaped : (n : ℕ) (s : State) (input : Input) → Shaped s.rec → Shaped (take_input n s input).state.rec
take_shaped n s input w = of_call Shaped n s w (taken_shaped n s w) input

-- taking leaves the number of slots
pub count_stays : (n : ℕ) (s : State) (input : Input) → (take_input n s input).state.rec.count ≡ s.rec.count
count_stays n s input = of_call (λ r. r.count ≡ s.rec.count) n s refl (taken_stays (λ r. r.count) (λ r xs. refl) n s) input

-- ---- what a call's contract says of octets that hold a record of n slots: the answer, the record, the cells and the output are those of the rule
-- for n slots, and the octets hold such a record again
module _ (n : ℕ) (s t : List ℕ) (ok : known s ≡ true) (number : (state_record s).count ≡ n) (cells output : List ℕ) (input : Input) (a : Answer)
    (cells' output' : List ℕ) (is : taken_state a t cells' output' ≡ take_in s cells output input) where
  abbrev led : After
  led = take_input n (state (state_record s) cells output) input

  of_record_lem : taken_state a t cells' output' ≡ taken_octets led
  unfolding take_in
  of_record_lem = is ∙ rw (ok, number)

  led_shaped : Shaped led.state.rec
  led_shaped = take_shaped n (state (state_record s) cells output) input (state_shaped s ok)

  led_octets : t ≡ state_octets led.state.rec
  led_octets = ap (λ (x : TakenState). x.octets) of_record_lem

  pub call_carries : after a (state_record t) cells' output' ≡ led
  call_carries =
      let same : state_record t ≡ led.state.rec = ap state_record led_octets ∙ read_back led.state.rec led_shaped in
      λ j. after (of_record_lem j).answer (same j) (of_record_lem j).cells (of_record_lem j).output

  pub call_still : known t ≡ true
  call_still = ap known led_octets ∙ known_octets led.state.rec led_shaped

  pub number_carries : (state_record t).count ≡ n
  number_carries = ap (λ (x : After). x.state.rec.count) call_carries ∙ count_stays n (state (state_record s) cells output) input ∙ number
