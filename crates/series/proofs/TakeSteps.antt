-- What the proofs of taking search: one law for each return and call, over plain variables.
use Rattle.std.specs.declared.result.Result.{Result}
use Rattle.std.specs.declared.result.Result.TheVariants.{Ok, Err}
use Prim.Native.Nat.{ℕ, ◌≤◌, ◌<◌}
use mathlib.Core.Path.{◌≡◌, sym, ap, ◌∙◌}
use mathlib.Core.Bool.{Bool, true, false, not, ◌||◌}
use mathlib.Core.List.{List}
use native.Mathlib.Omega.{arith}
use lib.ListN.{length, drop}
use lib.Dec.{eqb}
use borrow.Author.Rules.{rules}
use Rattle.octets.specs.Octets.{placed}
use Rattle.types.specs.declared.Kind.{Kind}
use Rattle.types.specs.declared.Refusal.{Refusal}
use Rattle.types.specs.declared.Refusal.TheVariants.{BufferOrRecord}
use Rattle.packet.specs.Packets.{most_octets}
use Rattle.types.specs.declared.Key.{Key}
use Rattle.types.specs.declared.Answer as response
use Rattle.types.specs.declared.Answer.TheVariants as answer
use Rattle.types.specs.declared.Arrival.{Arrival}
use Rattle.types.specs.declared.Arrival.TheVariants as arrival
use Rattle.arrival.specs.Arrivals.{told_arrival}
use Rattle.arrival.specs.Message.{read_message}
use Rattle.arrival.specs.Page.{read_page}
use Rattle.arrival.specs.Keys.{of_pages}
use Rattle.arrival.specs.Laws.{Admitted}
use Rattle.joined.specs.Fronts.{packet_in, length_in, output_with}
use Rattle.types.specs.declared.Slot.{Slot}
use Rattle.types.specs.declared.Record.{Record}
use Rattle.slots.specs.declared.find.Seat.{Seat}
use Rattle.series.specs.declared.take.Step as code
use Rattle.series.specs.declared.take.Change.{Change}
use Rattle.series.specs.declared.take.Step.TheVariants.{Repeats, Keeps, Finishes}
use Rattle.slots.specs.BelowLaws.{fault_from, fault_more, fault_through}
use Rattle.slots.specs.Found.{seat_of, seat_found, with_part_in, with_part_in_lem}
use Rattle.slots.specs.Slots.{most_slots, slot_at, opened, free_slot, with_part, at_front, to_front, freed, with_slots, slots_in}
use Rattle.slots.specs.Order.{replaced, front_in, freed_in}
use Rattle.formed.specs.Formed.{record_formed}
use Rattle.cells.specs.Cells.{cells_size, cell_at, joined_octets}
use Rattle.series.specs.Taking.{After, told_answer, state, after, acted, take_part, take_message, take_page}
use Rattle.series.specs.KeepLaws.{Sound}
use Rattle.series.specs.Deciding.{told_step, step_at, any_key_of, answer_of, Room, Whole, fronted, emptied, changed, Holds, Seated, Makes, Fitting, taken_where_fit}
use Rattle.series.specs.StepLaws.{part_lacks, none_lacks, other_total, held_same, held_other, finish_total, answer_packet, answer_none, single_answer, single_output, whole_answer, whole_output, handed_out, of_key, part_stored, seat_more, seat_opens}
use Rattle.series.proofs.Completing.{new_last, new_more}
use Rattle.series.specs.TakeLaws as law
use Rattle.series.specs.TakeLaws.{message_fitting, page_fitting}

-- ---- acting
pub part_kept : (i number : ℕ) (octets cells : List ℕ) (a : Result response.Answer Refusal) (n : ℕ) (x y : Slot) (c : Change) → Room i number octets cells
    → y ≡ with_part_in x number n → c ≡ fronted a i y → c ≡ fronted a i (with_part x number n)
part_kept i number octets cells a n x y c room e h =
    h ∙ ap (fronted a i) (e ∙ with_part_in_lem x number n room.place.1 room.place.2)

pub slot_emptied : (a : Result response.Answer Refusal) (i : ℕ) (x : Slot) → x ≡ free_slot
    → record { answer = a; moves = true; front = false; slot = i; entry = x } ≡ emptied a i
slot_emptied a i x e = rw e

pub slot_fronted : (a : Result response.Answer Refusal) (i : ℕ) (x y : Slot) → y ≡ at_front x
    → record { answer = a; moves = true; front = true; slot = i; entry = y } ≡ fronted a i x
slot_fronted a i x y e = rw e

-- what becomes of a record
module _ (r : Record) (k : Kind) (i : ℕ) (y : Slot) (holds : Holds r k i y) (c : Change) (a : Result response.Answer Refusal) where
  comes_front : (x : Slot) → c ≡ fronted a i x → changed r c ≡ with_slots r (to_front r.slots i x)
  comes_front x e = rw e (front_in r i holds.inside holds.rest x holds.ranks)

  comes_free : c ≡ emptied a i → changed r c ≡ with_slots r (freed r.slots i)
  comes_free e = rw e (freed_in r i holds.inside holds.rest)

-- a part of the series x in slot i, where step z is due
module _ (k : Kind) (cells output : List ℕ) (paged : Bool) (total number : ℕ) (octets : List ℕ) (i : ℕ) (x : Slot)
    (z : Result code.Step Refusal) (told : told_step i x z ≡ step_at cells total number octets i x) (c : Change) where
  abbrev due : Record → After
  due r = acted (slots_in r) (state r cells output) (any_key_of paged) total number octets (step_at cells total number octets i x)

  pub acts_refuses : (q : Refusal) → z ≡ Err q → (c.answer ≡ Err q) × (c.moves ≡ false) → Makes (λ r. Holds r k i x) c cells output due
  acts_refuses q e (h, m) r holds = rw (← told, e, h, m)

  pub acts_repeats : (s : code.Step) → z ≡ Ok s → s ≡ Repeats → c ≡ fronted (Ok (answer.HeldAlready i)) i x → Makes (λ r. Holds r k i x) c cells output due
  acts_repeats s e f h r holds =
      rw (← told, e, f, comes_front r k i x holds c (Ok (answer.HeldAlready i)) x h, h, holds.entry)

  pub acts_keeps : (cells' : List ℕ) (s : code.Step) → z ≡ Ok s → s ≡ Keeps → c ≡ fronted (Ok (answer.Kept i false)) i (with_part x number (length octets))
      → cells' ≡ placed cells (cell_at i number) octets → Makes (λ r. Holds r k i x) c cells' output due
  acts_keeps cells' s e f h g r holds =
      rw (← told, e, f, comes_front r k i x holds c (Ok (answer.Kept i false)) (with_part x number (length octets)) h, h, g)

  pub acts_finishes : (o : List ℕ) (s : code.Step) → z ≡ Ok s → s ≡ Finishes
      → told_answer c.answer ≡ answer_of (length_in (packet_in k paged x.total (joined_octets cells x i number octets))) → c ≡ emptied c.answer i
      → o ≡ output_with (packet_in k paged x.total (joined_octets cells x i number octets)) output → Makes (λ r. Holds r k i x) c cells o due
  acts_finishes o s e d h f g r holds =
      let t : x.total ≡ total = finish_total cells total number octets i x (rw (e, d) at told) in
      rw (← told, e, d, comes_free r k i x holds c c.answer f, ← t, holds.entry, of_key paged)
      (handed_out (state r cells output) (with_slots r (freed r.slots i)) (told_answer c.answer) o (packet_in r.kind paged x.total (joined_octets cells x i number octets)) (rw holds.kind h) (rw holds.kind g))

-- ---- a part
module _ (k : Kind) (key : Key) (o : Seat) (x : Slot) (cells output : List ℕ) (total number : ℕ) (octets : List ℕ) (c : Change) (cells' : List ℕ) where
  abbrev part_due : Record → After
  part_due r = take_part (slots_in r) (state r cells output) key total number octets

  pub part_more : (i : ℕ) (output' : List ℕ) → o.held ≡ true → i ≡ o.slot
      → Makes (λ r. Holds r k i x) c cells' output' (λ r. acted (slots_in r) (state r cells output) (any_key_of (of_pages key)) total number octets (step_at cells total number octets i x))
      → Makes (λ r. Seated r k key o x) c cells' output' part_due
  part_more i output' h is makes r seated =
      seat_more r k key o x cells output total number octets seated h i is (after (told_answer c.answer) (changed r c) cells' output') (makes r (rw is seated.holds))

  pub part_opens : (i : ℕ) (y : Slot) → o.held ≡ false → i ≡ o.slot → y ≡ opened key total
      → c ≡ fronted (Ok (answer.Kept i o.displaced)) i (with_part y number (length octets)) → cells' ≡ placed cells (cell_at i number) octets
      → Makes (λ r. Seated r k key o x) c cells' output part_due
  part_opens i y h is e f g r seated =
      let front = comes_front r k i x (rw is seated.holds) c (Ok (answer.Kept i o.displaced)) (with_part y number (length octets)) f in
      rw (front, f, e, is) (seat_opens r k key o x cells output total number octets seated h cells' (rw is at g))

  -- of the record that the code has
  pub part_done : (r : Record) (output' : List ℕ) → Makes (λ r. Seated r k key o x) c cells' output' part_due → r.kind ≡ k
      → o ≡ seat_of (slots_in r) r.slots key → x ≡ slot_at r.slots o.slot → Sound r.count r cells
      → after (told_answer c.answer) (changed r c) cells' output' ≡ part_due r
  part_done r output' makes kind seat entry w = makes r (rw (← kind, entry) (law.seated r cells w key o seat))

-- ---- a slot that is read by its number
module _ (xs : List Slot) (i : ℕ) where
  pub slot_so : (k : ℕ) → i ≡ k → slot_at xs k ≡ slot_at xs i
  slot_so k e = rw e

  pub slot_last : i < most_slots → (i ≡ 0 → ⊥) → (i ≡ 1 → ⊥) → (i ≡ 2 → ⊥) → (i ≡ 3 → ⊥) → slot_at xs 4 ≡ slot_at xs i
  slot_last l a b c d = let e : i ≡ 4 = omega arith in rw e

-- ---- what reading gave
pub unfit_told : (r : Record) (cells out : ℕ) (b u : Bool) → b ≡ record_formed r.count r
    → u ≡ (not (eqb cells (cells_size r.count)) || not (eqb out most_octets) || not b)
    → u ≡ (not (eqb cells (cells_size r.count)) || not (eqb out most_octets) || not (record_formed r.count r))
unfit_told r cells out b u e f = rw e at f

module _ (r : Record) (cells output : List ℕ) (b : Bool)
    (told : b ≡ (not (eqb (length cells) (cells_size r.count)) || not (eqb (length output) most_octets) || not (record_formed r.count r))) where
  pub fit_sound : b ≡ false → Sound r.count r cells
  fit_sound e = (law.fit r cells output (sym told ∙ e)).0

  pub fit_output : b ≡ false → length output ≡ most_octets
  fit_output e = (law.fit r cells output (sym told ∙ e)).1

  module _ (paged : Bool) (octets : List ℕ) (z : Result Arrival Refusal) where
    abbrev took : After
    took = taken_where_fit r.count (state r cells output) paged octets (told_arrival z)

    pub takes_unfit : (a : Result response.Answer Refusal) (r' : Record) → b ≡ true → (a ≡ Err BufferOrRecord) × (r' ≡ r) → after (told_answer a) r' cells output ≡ took
    takes_unfit a r' e (h, f) = rw (← told, e, h, f)

    -- with these cells and this output the change comes to what is due of the record
    abbrev Done : Change → List ℕ → List ℕ → Type 0
    Done c cells' o = after (told_answer c.answer) (changed r c) cells' o ≡ took

    -- what the arm of a part relies on
    module _ (fit : b ≡ false) (start : ℕ) (own : List ℕ) (is : own ≡ drop start octets) (fits : Fitting r.kind octets z) (key : Key) (total number : ℕ)
        (q : Arrival) (e : z ≡ Ok q) (f : q ≡ arrival.Part key total number start) where
      admitted : Admitted r.kind key total number own
      admitted = rw is (rw (e, f) at fits)

      sound : Sound r.count r cells
      sound = fit_sound fit

      pub seat_room : (o : Seat) → o ≡ seat_of (slots_in r) r.slots key → Room o.slot number own cells
      seat_room o seat = law.room_at r cells sound key total number own admitted o.slot (rw seat (law.seat_own r cells sound key))

      pub seat_whole : (o : Seat) (x : Slot) → o ≡ seat_of (slots_in r) r.slots key → x ≡ slot_at r.slots o.slot → o.held ≡ true
          → Whole x o.slot number own cells output
      seat_whole o x seat is h =
          rw is
          (law.whole_at r cells sound key total number own admitted o.slot (seat_found (slots_in r) r.slots key o seat h) output (fit_output fit))

    pub takes_refused : b ≡ false → (q : Refusal) (a : Result response.Answer Refusal) (r' : Record) → z ≡ Err q → (a ≡ Err q) × (r' ≡ r)
        → after (told_answer a) r' cells output ≡ took
    takes_refused fit q a r' e (h, f) = rw (← told, fit, e, h, f)

    module _ (fit : b ≡ false) (c : Change) where
      module _ (start : ℕ) (own : List ℕ) (is : own ≡ drop start octets) where
        pub takes_single : (o : List ℕ) (q : Arrival) → z ≡ Ok q → q ≡ arrival.Single start
            → (told_answer c.answer ≡ answer_of (length_in (packet_in r.kind paged 1 own))) × (c.moves ≡ false)
            → o ≡ output_with (packet_in r.kind paged 1 own) output → Done c cells o
        takes_single o q e f (h, m) g =
            rw (← told, fit, e, f, ← is, m) (handed_out (state r cells output) r (told_answer c.answer) o (packet_in r.kind paged 1 own) h g)

        pub takes_part : (key : Key) (total number : ℕ) (a : After) (q : Arrival) → z ≡ Ok q → q ≡ arrival.Part key total number start
            → a ≡ take_part (slots_in r) (state r cells output) key total number own → a ≡ took
        takes_part key total number a q e f h = rw (← told, fit, e, f, ← is) (h ∙ ap (λ n. take_part n (state r cells output) key total number own) (law.own_number r cells (fit_sound fit)))

module _ (k : Kind) (octets : List ℕ) (z : Result Arrival Refusal) (start : ℕ) (own : List ℕ) (is : own ≡ drop start octets) (fits : Fitting k octets z) where
  pub single_fits : (output : List ℕ) (q : Arrival) → z ≡ Ok q → q ≡ arrival.Single start → length output ≡ most_octets → length own ≤ length output
  single_fits output q e g l = let f : length (drop start octets) ≤ most_octets = rw (e, g) at fits in omega (arith, ap length is)

-- ---- taking
module _ (r : Record) (cells output : List ℕ) (z : Result Arrival Refusal) (a : After) where
  pub message_taken : (sender : ℕ) (ud : List ℕ) → told_arrival z ≡ read_message r.kind sender ud
      → a ≡ taken_where_fit r.count (state r cells output) false ud (told_arrival z) → a ≡ take_message r.count (state r cells output) sender ud
  unfolding take_message
  message_taken sender ud read h = rw (← read) h

  pub page_taken : (page : List ℕ) → told_arrival z ≡ read_page r.kind page
      → a ≡ taken_where_fit r.count (state r cells output) true page (told_arrival z) → a ≡ take_page r.count (state r cells output) page
  unfolding take_page
  page_taken page read h = rw (← read) h

-- the record that is left, by whether a slot moved
module _ (r : Record) (c : Change) (a : After) (cells output : List ℕ) (done : after (told_answer c.answer) (changed r c) cells output ≡ a) where
  module _ (b : Result response.Answer Refusal) (r' : Record) where
    pub moved_so : (r'' : Record) → c.moves ≡ true → r'' ≡ replaced c.front r c.slot c.entry → (b ≡ c.answer) × (r' ≡ r'')
        → after (told_answer b) r' cells output ≡ a
    moved_so r'' m e (f, g) = rw (f, g, e) (rw m at done)

    pub stayed_so : c.moves ≡ false → (b ≡ c.answer) × (r' ≡ r) → after (told_answer b) r' cells output ≡ a
    stayed_so m (f, g) = rw (f, g) (rw m at done)

-- the same of what is equal
pub as_change : (r : Record) {c d : Change} {a : After} {cells cells' output output' : List ℕ} → cells ≡ cells' → output ≡ output' → c ≡ d
    → after (told_answer d.answer) (changed r d) cells' output' ≡ a → after (told_answer c.answer) (changed r c) cells output ≡ a
as_change r p q e h = rw (p, q, e) h

-- what the proofs of deciding, of acting and of the calls search
pub ruleset decide_steps = (
  rules,
  fault_from,
  fault_more,
  fault_through,
  part_lacks,
  none_lacks,
  other_total,
  held_same,
  held_other,
  new_last,
  new_more,
)

pub ruleset act_steps = (
  rules,
  part_kept,
  part_stored,
  slot_emptied,
  slot_fronted,
  answer_packet,
  answer_none,
  single_answer,
  single_output,
  whole_answer,
  whole_output,
)

pub ruleset more_steps = (
  rules,
  acts_refuses,
  acts_repeats,
  acts_keeps,
  acts_finishes,
  part_more,
  part_opens,
)

pub ruleset take_steps = (
  rules,
  slot_so,
  slot_last,
  unfit_told,
  takes_unfit,
  fit_output,
  single_fits,
  seat_room,
  seat_whole,
  message_taken,
  message_fitting,
  page_taken,
  page_fitting,
)
