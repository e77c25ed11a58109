-- What the proofs of `card` search: one law for each return and call, over plain variables. Each is a law of `series` for the record that the
-- octets of the state hold.
use Rattle.std.specs.declared.result.Result.{Result}
use Rattle.std.specs.declared.option.Option as option
use Rattle.std.specs.declared.result.Result.TheVariants.{Ok, Err}
use Prim.Native.Nat.{ℕ, ◌+◌, ◌-◌, ◌≤◌}
use mathlib.Core.Path.{◌≡◌, refl, sym, ap, ◌∙◌, subst}
use mathlib.Core.Bool.{Bool, true, false, not, ◌&&◌, ◌||◌}
use mathlib.Core.List.{List}
use mathlib.Core.Option.{Option}
use native.Mathlib.Omega.{arith}
use mir.Syntax.{w8}
use mir.Val.{Fits}
use lib.ListN.{length, get_or, drop}
use lib.Dec.{eqb, ltb}
use borrow.Author.Rules.{rules}
use borrow.Author.Tests.{not-false}
use Rattle.octets.specs.Octets.{placed, same_octets}
use Rattle.octets.specs.Tests.{both, neither}
use Rattle.types.specs.declared.Kind.{Kind}
use Rattle.types.specs.declared.Key.{Key}
use Rattle.types.specs.declared.Slot.{Slot}
use Rattle.types.specs.declared.Record.{Record}
use Rattle.types.specs.declared.Refusal.{Refusal}
use Rattle.types.specs.declared.Answer as response
use Rattle.types.specs.declared.Arrival.{Arrival}
use Rattle.types.specs.declared.Arrival.TheVariants as arrival
use Rattle.types.specs.Refusals.{refusal_number}
use Rattle.packet.specs.Packets.{most_octets}
use Rattle.arrival.specs.Arrivals.{told_arrival}
use Rattle.arrival.specs.Message.{most_parts, read_message}
use Rattle.arrival.specs.Page.{read_page}
use Rattle.arrival.specs.Keys.{of_pages}
use Rattle.arrival.specs.Laws.{Admitted}
use Rattle.joined.specs.Fronts.{packet_in, told_size, length_in, output_with}
use Rattle.slots.specs.declared.find.Seat.{Seat}
use Rattle.slots.specs.BelowLaws.{fault_from, fault_more, fault_through}
use Rattle.slots.specs.Slots.{opened, free_slot, with_part, at_front, to_front, freed, with_slots, slots_in}
use Rattle.slots.specs.Found.{seat_of, seat_found, with_part_in, with_part_in_lem}
use Rattle.slots.specs.Order.{replaced, front_in, freed_in}
use Rattle.formed.specs.Formed.{record_formed}
use Rattle.layout.specs.Layout.{state_record, known, state_octets}
use Rattle.layout.specs.Changes.{state_slot, Became, Exact}
use Rattle.cells.specs.Cells.{cells_size, cell_at, joined_octets}
use Rattle.cells.specs.Handing.{Place, Reaches, has_cell, cell_start, series_packet}
use Rattle.series.specs.declared.take.Step as code
use Rattle.series.specs.declared.take.Step.TheVariants.{Repeats, Keeps, Finishes}
use Rattle.series.specs.Taking.{Answer, After, told_answer, kept, held_already, refused_by, state, after, Step, refuses, repeats, keeps, finishes, acted, take_part, taken, unfit, take_message, take_page}
use Rattle.series.specs.Calls.{Input, message, page}
use Rattle.series.specs.Deciding.{all_with, has_with, told_step, step_at, any_key_of, answer_of, Room, Whole, Holds, Seated, Fitting}
use Rattle.series.specs.KeepLaws.{Sound}
use Rattle.series.specs.TakeLaws as law
use Rattle.series.specs.StepLaws as step
use Rattle.series.proofs.Completing as due_step
use Rattle.card.specs.Card.{taken_state, taken_octets, take_in}

-- ---- deciding
pub mark_lacks : (held : List Bool) (t number i : ℕ) (h : Bool) → h ≡ get_or held i false
    → (ltb i t && not (eqb (i + 1) number || h)) ≡ not (has_with held t number i)
mark_lacks held t number i h e = rw e (step.part_lacks held t number i)

module _ (s : List ℕ) (i : ℕ) (cells : List ℕ) (total number : ℕ) (octets : List ℕ) where
  abbrev x : Slot
  x = state_slot s i

  abbrev due : Step
  due = step_at cells total number octets i x

  module _ (q : ℕ) (is : q ≡ x.total) where
    pub total_other : (q ≡ total → ⊥) → refuses 7 ≡ due
    total_other ne = step.other_total cells total number octets i x (λ e. ne (is ∙ e))

    module _ (same : q ≡ total) (h : Bool) (mark : h ≡ get_or x.held (number - 1) false) where
      there : x.total ≡ total
      there = sym is ∙ same

      module _ (held : h ≡ true) (place : Place i number) (size : Reaches i cells) (n : ℕ) (long : n ≡ get_or x.lengths (number - 1) 0) (b : Bool)
          (told : b ≡ (has_cell (length cells) i number && same_octets (cell_start cells i number n) octets)) where
        pub held_same : b ≡ true → repeats i ≡ due
        held_same e = step.held_same cells total number octets i x there (sym mark ∙ held) place size b (rw long at told) e

        pub held_other : b ≡ false → refuses 8 ≡ due
        held_other e = step.held_other cells total number octets i x there (sym mark ∙ held) place size b (rw long at told) e

      module _ (new : h ≡ false) (b : Bool) (all : b ≡ all_with x.held total number) where
        pub new_last : b ≡ true → finishes i ≡ due
        new_last e = due_step.new_last cells total number octets i x there (sym mark ∙ new) b all e

        pub new_more : b ≡ false → keeps i false x ≡ due
        new_more e = due_step.new_more cells total number octets i x there (sym mark ∙ new) b all e

-- ---- acting
pub part_kept : (s t : List ℕ) (i number : ℕ) (octets cells : List ℕ) (y : Slot) (n : ℕ) → Room i number octets cells
    → Became s t (replaced true (state_record s) i (at_front (with_part_in y number n))) → Became s t (replaced true (state_record s) i (at_front (with_part y number n)))
part_kept s t i number octets cells y n room b =
    subst (λ (z : Slot). Became s t (replaced true (state_record s) i (at_front z))) (with_part_in_lem y number n room.place.1 room.place.2) b

module _ (s : List ℕ) (i number : ℕ) (octets cells output : List ℕ) (room : Room i number octets cells)
    (w : Whole (state_slot s i) i number octets cells output) (k : Kind) (kind : k ≡ (state_record s).kind) (ls : List ℕ) (lengths : ls ≡ (state_slot s i).lengths)
    (q t : ℕ) (total : q ≡ (state_slot s i).total) (wide : t ≡ q) (paged : Bool) where
  abbrev inside : Option (List ℕ)
  inside = packet_in (state_record s).kind paged (state_slot s i).total (joined_octets cells (state_slot s i) i number octets)

  pub finish_answer : (z : option.Option ℕ) (a : Result response.Answer Refusal) → told_size z ≡ length_in (series_packet k paged cells ls t i number octets (length output))
      → told_answer a ≡ answer_of (told_size z) → told_answer a ≡ answer_of (length_in inside)
  finish_answer z a e h =
      step.whole_answer (state_slot s i) i number octets cells output room w t (wide ∙ total) (state_record s).kind paged z (told_answer a) (rw (kind, lengths) at e) h

  pub finish_output : (o : List ℕ) → o ≡ output_with (series_packet k paged cells ls t i number octets (length output)) output → o ≡ output_with inside output
  finish_output o e = step.whole_output (state_slot s i) i number octets cells output room w t (wide ∙ total) (state_record s).kind paged o (rw (kind, lengths) at e)

pub still_known : (s t : List ℕ) (r : Record) → known s ≡ true → Became s t r → known t ≡ true
still_known s t r ok b = b.still ok

pub whole_total : (x : Slot) (i number : ℕ) (octets cells output : List ℕ) → Whole x i number octets cells output → x.total ≤ most_parts
whole_total x i number octets cells output w = w.most

-- the record that the state holds then
module _ (s t : List ℕ) (ok : known s ≡ true) (k : Kind) (i : ℕ) (y : Slot) (holds : Holds (state_record s) k i y) where
  front_now : (x : Slot) → Became s t (replaced true (state_record s) i (at_front x)) → state_record t ≡ with_slots (state_record s) (to_front (state_record s).slots i x)
  front_now x b = b.now ok ∙ front_in (state_record s) i holds.inside holds.rest x holds.ranks

  free_now : Became s t (replaced false (state_record s) i free_slot) → state_record t ≡ with_slots (state_record s) (freed (state_record s).slots i)
  free_now b = b.now ok ∙ freed_in (state_record s) i holds.inside holds.rest

-- a part of the series in slot i, where step z is due
module _ (s t : List ℕ) (ok : known s ≡ true) (cells output : List ℕ) (paged : Bool) (total number : ℕ) (octets : List ℕ) (i : ℕ)
    (holds : Holds (state_record s) (state_record s).kind i (state_slot s i)) (z : Result code.Step Refusal)
    (told : told_step i (state_slot s i) z ≡ step_at cells total number octets i (state_slot s i)) where
  abbrev more_due : After
  more_due = acted (slots_in (state_record s)) (state (state_record s) cells output) (any_key_of paged) total number octets (step_at cells total number octets i (state_slot s i))

  pub more_repeats : (q : code.Step) → z ≡ Ok q → q ≡ Repeats → Became s t (replaced true (state_record s) i (at_front (state_slot s i))) → after (held_already i) (state_record t) cells output ≡ more_due
  more_repeats q e f b = rw (← told, e, f, front_now s t ok (state_record s).kind i (state_slot s i) holds (state_slot s i) b)

  pub more_keeps : (cells' : List ℕ) (q : code.Step) → z ≡ Ok q → q ≡ Keeps
      → Became s t (replaced true (state_record s) i (at_front (with_part (state_slot s i) number (length octets)))) → cells' ≡ placed cells (cell_at i number) octets
      → after (kept i false) (state_record t) cells' output ≡ more_due
  more_keeps cells' q e f b g =
      rw (← told, e, f, front_now s t ok (state_record s).kind i (state_slot s i) holds (with_part (state_slot s i) number (length octets)) b, g)

  pub more_finishes : (o : List ℕ) (a : Result response.Answer Refusal) (q : code.Step) → z ≡ Ok q → q ≡ Finishes
      → told_answer a ≡ answer_of (length_in (packet_in (state_record s).kind paged (state_slot s i).total (joined_octets cells (state_slot s i) i number octets)))
      → o ≡ output_with (packet_in (state_record s).kind paged (state_slot s i).total (joined_octets cells (state_slot s i) i number octets)) output
      → Became s t (replaced false (state_record s) i free_slot) → after (told_answer a) (state_record t) cells o ≡ more_due
  more_finishes o a q e f h g b =
      let same : (state_slot s i).total ≡ total = step.finish_total cells total number octets i (state_slot s i) (rw (e, f) at told) in
      rw (← told, e, f, free_now s t ok (state_record s).kind i (state_slot s i) holds b, ← same, step.of_key paged)
      (step.handed_out (state (state_record s) cells output) (with_slots (state_record s) (freed (state_record s).slots i)) (told_answer a) o (packet_in (state_record s).kind paged (state_slot s i).total (joined_octets cells (state_slot s i) i number octets)) h g)

pub more_refuses : (s cells output : List ℕ) (paged : Bool) (total number : ℕ) (octets : List ℕ) (i : ℕ) (z : Result code.Step Refusal)
    → told_step i (state_slot s i) z ≡ step_at cells total number octets i (state_slot s i) → (q : Refusal) → z ≡ Err q
    → after (refused_by (refusal_number q)) (state_record s) cells output
    ≡ acted (slots_in (state_record s)) (state (state_record s) cells output) (any_key_of paged) total number octets (step_at cells total number octets i (state_slot s i))
more_refuses s cells output paged total number octets i z told q e = rw (← told, e)

-- ---- a part
module _ (s t : List ℕ) (key : Key) (o : Seat) (cells output : List ℕ) (total number : ℕ) (octets : List ℕ)
    (seated : Seated (state_record s) (state_record s).kind key o (state_slot s o.slot)) where
  pub seat_holds : Holds (state_record s) (state_record s).kind o.slot (state_slot s o.slot)
  seat_holds = seated.holds

  pub part_more : o.held ≡ true → (a : After)
      → a ≡ acted (slots_in (state_record s)) (state (state_record s) cells output) (any_key_of (of_pages key)) total number octets (step_at cells total number octets o.slot (state_slot s o.slot))
      → a ≡ take_part (slots_in (state_record s)) (state (state_record s) cells output) key total number octets
  part_more h a e = step.seat_more (state_record s) (state_record s).kind key o (state_slot s o.slot) cells output total number octets seated h o.slot refl a e

  pub part_opens : known s ≡ true → o.held ≡ false → (cells' : List ℕ)
      → Became s t (replaced true (state_record s) o.slot (at_front (with_part (opened key total) number (length octets))))
      → cells' ≡ placed cells (cell_at o.slot number) octets
      → after (kept o.slot o.displaced) (state_record t) cells' output ≡ take_part (slots_in (state_record s)) (state (state_record s) cells output) key total number octets
  part_opens ok h cells' b g =
      rw (front_now s t ok (state_record s).kind o.slot (state_slot s o.slot) seated.holds (with_part (opened key total) number (length octets)) b)
      (step.seat_opens (state_record s) (state_record s).kind key o (state_slot s o.slot) cells output total number octets seated h cells' g)

-- ---- what reading gave
module _ (s cells output : List ℕ) (fits : unfit (state_record s).count (state (state_record s) cells output) ≡ false) where
  sound : Sound (state_record s).count (state_record s) cells
  sound = (law.fit (state_record s) cells output fits).0

  module _ (octets : List ℕ) (z : Result Arrival Refusal) (paged : Bool) where
    abbrev took : After
    took = taken (state_record s).count (state (state_record s) cells output) paged octets (told_arrival z)

    pub takes_refused : (q : Refusal) → z ≡ Err q → after (refused_by (refusal_number q)) (state_record s) cells output ≡ took
    takes_refused q e = rw e

    module _ (start : ℕ) (own : List ℕ) (is : own ≡ drop start octets) where
      pub takes_single : (k : Kind) → k ≡ (state_record s).kind → (a : Result response.Answer Refusal) (o : List ℕ) (q : Arrival) → z ≡ Ok q → q ≡ arrival.Single start
          → told_answer a ≡ answer_of (length_in (packet_in k paged 1 own)) → o ≡ output_with (packet_in k paged 1 own) output
          → after (told_answer a) (state_record s) cells o ≡ took
      takes_single k kind a o q e f h g =
          rw (e, f, ← is)
          (step.handed_out (state (state_record s) cells output) (state_record s) (told_answer a) o (packet_in (state_record s).kind paged 1 own) (rw kind at h) (rw kind at g))

      pub takes_part : (key : Key) (total number : ℕ) (a : After) (q : Arrival) → z ≡ Ok q → q ≡ arrival.Part key total number start
          → a ≡ take_part (slots_in (state_record s)) (state (state_record s) cells output) key total number own → a ≡ took
      takes_part key total number a q e f h =
          rw (e, f, ← is) (h ∙ ap (λ n. take_part n (state (state_record s) cells output) key total number own) (law.own_number (state_record s) cells sound))

  module _ (octets : List ℕ) (z : Result Arrival Refusal) (reads : Fitting (state_record s).kind octets z) (start : ℕ) (own : List ℕ) (is : own ≡ drop start octets) where
    pub single_fits : (q : Arrival) → z ≡ Ok q → q ≡ arrival.Single start → length own ≤ length output
    single_fits q e g =
        let f : length (drop start octets) ≤ most_octets = rw (e, g) at reads in
        let l : length output ≡ most_octets = (law.fit (state_record s) cells output fits).1 in omega (arith, ap length is)

    module _ (key : Key) (total number : ℕ) (q : Arrival) (e : z ≡ Ok q) (f : q ≡ arrival.Part key total number start) (o : Seat) (seat : o ≡ seat_of (slots_in (state_record s)) (state_record s).slots key) where
      admitted : Admitted (state_record s).kind key total number own
      admitted = rw is (rw (e, f) at reads)

      pub seat_room : Room o.slot number own cells
      seat_room = law.room_at (state_record s) cells sound key total number own admitted o.slot (rw seat (law.seat_own (state_record s) cells sound key))

      pub seat_whole : o.held ≡ true → Whole (state_slot s o.slot) o.slot number own cells output
      seat_whole h =
          law.whole_at (state_record s) cells sound key total number own admitted o.slot
          (seat_found (slots_in (state_record s)) (state_record s).slots key o seat h) output (law.fit (state_record s) cells output fits).1

  pub seat_seated : (key : Key) (o : Seat) → o ≡ seat_of (slots_in (state_record s)) (state_record s).slots key
      → Seated (state_record s) (state_record s).kind key o (state_slot s o.slot)
  seat_seated key o seat = law.seated (state_record s) cells sound key o seat

-- ---- the calls
pub unfit_told : (s : List ℕ) (cells out c n : ℕ) (b : Bool) → b ≡ (known s && record_formed (state_record s).count (state_record s)) → c ≡ (state_record s).count → n ≡ c
    → (not (eqb cells (cells_size n)) || not (eqb out most_octets) || not b)
    ≡ (not (eqb cells (cells_size (state_record s).count)) || not (eqb out most_octets) || not (known s && record_formed (state_record s).count (state_record s)))
unfit_told s cells out c n b e f g = rw (e, g, f)

module _ (s cells output : List ℕ) (b : Bool)
    (told : b ≡ (not (eqb (length cells) (cells_size (state_record s).count)) || not (eqb (length output) most_octets) || not (known s && record_formed (state_record s).count (state_record s)))) where
  abbrev lent : Bool
  lent = not (eqb (length cells) (cells_size (state_record s).count)) || not (eqb (length output) most_octets)

  -- as the rule has it of a record, if the octets hold one
  as_known : known s ≡ true → b ≡ unfit (state_record s).count (state (state_record s) cells output)
  as_known k = told ∙ rw k

  pub unfit_taken : Exact s → (input : Input) → b ≡ true → taken_state (refused_by 1) s cells output ≡ take_in s cells output input
  unfolding take_in take_message take_page
  unfit_taken own input e = go input (known s) refl
    where
      same : known s ≡ true → taken_state (refused_by 1) s cells output ≡ taken_state (refused_by 1) (state_octets (state_record s)) cells output
      same h = ap (λ (o : List ℕ). taken_state (refused_by 1) o cells output) (sym (own.back h))

      go : (input : Input) (k : Bool) → known s ≡ k → taken_state (refused_by 1) s cells output ≡ take_in s cells output input
      go (message sender ud) true h = same h ∙ rw (h, ← as_known h, e)
      go (page o) true h = same h ∙ rw (h, ← as_known h, e)
      go input false h = rw h

  module _ (e : b ≡ false) where
    pub fit_known : known s ≡ true
    fit_known =
        (both (known s) (record_formed (state_record s).count (state_record s))
        (not-false (known s && record_formed (state_record s).count (state_record s)) (neither lent (not (known s && record_formed (state_record s).count (state_record s))) (sym told ∙ e)).1)).0

    pub fit_rule : unfit (state_record s).count (state (state_record s) cells output) ≡ false
    fit_rule = sym (as_known fit_known) ∙ e

    module _ (k₀ : Kind) (kind : k₀ ≡ (state_record s).kind) (z : Result Arrival Refusal) where
      pub message_fits : (sender : ℕ) (ud : List ℕ) → told_arrival z ≡ read_message k₀ sender ud → ((i : ℕ) → Fits w8 (get_or ud i 0)) → Fitting (state_record s).kind ud z
      message_fits sender ud read o = law.message_fitting (state_record s).kind sender ud z (rw kind at read) o

      pub page_fits : (octets : List ℕ) → told_arrival z ≡ read_page k₀ octets → Fitting (state_record s).kind octets z
      page_fits octets read = law.page_fitting (state_record s).kind octets z (rw kind at read)

      module _ (t cells' o : List ℕ) (a : Answer) (k : known t ≡ true) (own : Exact t) where
        same : taken_state a t cells' o ≡ taken_octets (after a (state_record t) cells' o)
        same = ap (λ (u : List ℕ). taken_state a u cells' o) (sym (own.back k))

        pub message_taken : (sender : ℕ) (ud : List ℕ) → told_arrival z ≡ read_message k₀ sender ud
            → after a (state_record t) cells' o ≡ taken (state_record s).count (state (state_record s) cells output) false ud (told_arrival z)
            → taken_state a t cells' o ≡ take_in s cells output (message sender ud)
        unfolding take_in take_message
        message_taken sender ud read h = same ∙ rw (fit_known, fit_rule) (ap taken_octets (rw (read, kind) at h))

        pub page_taken : (octets : List ℕ) → told_arrival z ≡ read_page k₀ octets
            → after a (state_record t) cells' o ≡ taken (state_record s).count (state (state_record s) cells output) true octets (told_arrival z)
            → taken_state a t cells' o ≡ take_in s cells output (page octets)
        unfolding take_in take_page
        page_taken octets read h = same ∙ rw (fit_known, fit_rule) (ap taken_octets (rw (read, kind) at h))

-- what the proofs of deciding, of acting, of a part and of the calls search
pub ruleset decide_steps = (
  rules,
  fault_from,
  fault_more,
  fault_through,
  mark_lacks,
  step.none_lacks,
  total_other,
  held_same,
  held_other,
  new_last,
  new_more,
)

pub ruleset act_steps = (
  rules,
  part_kept,
  step.part_stored,
  step.answer_packet,
  step.answer_none,
  step.single_answer,
  step.single_output,
  finish_answer,
  finish_output,
)

pub ruleset more_steps = (
  rules,
  still_known,
  whole_total,
  more_refuses,
  more_repeats,
  more_keeps,
  more_finishes,
  seat_holds,
  part_more,
  part_opens,
)

pub ruleset take_steps = (
  rules,
  still_known,
  takes_refused,
  takes_single,
  takes_part,
  single_fits,
  seat_room,
  seat_whole,
  seat_seated,
  unfit_told,
  unfit_taken,
  fit_known,
  fit_rule,
  message_fits,
  page_fits,
  message_taken,
  page_taken,
)
