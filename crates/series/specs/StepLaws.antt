-- Laws of one step of taking, for every engine: which step is due, what acting on it comes to, and the packet that is handed out. Which is due
-- for a part that is new stands in proofs/Completing.antt.
use Rattle.std.specs.declared.result.Result.{Result}
use Rattle.std.specs.declared.option.Option as option
use Rattle.std.specs.declared.option.Option.TheVariants.{Some, None}
use Rattle.types.specs.declared.Refusal.{Refusal}
use Rattle.std.specs.Prelude.{ℕ, ◌+◌, ◌≤◌, ◌≡◌, refl, Bool, true, false, not, cond, ◌&&◌, ◌||◌, List, length, get_or, eqb, ltb}
use Rattle.std.proofs.Common.{◌∙◌, arith, eq-eqb, ne_eqb, eqb-true}
use Rattle.std.proofs.Math.Option.{Option, none, some}
use Rattle.octets.specs.Octets.{placed, same_octets}
use Rattle.types.specs.declared.Kind.{Kind}
use Rattle.types.specs.declared.Key.{Key}
use Rattle.types.specs.declared.Answer as response
use Rattle.arrival.specs.Message.{most_parts}
use Rattle.arrival.specs.Keys.{of_pages}
use Rattle.joined.specs.Fronts.{packet_in, told_size, length_in, output_with, packet_for}
use Rattle.joined.specs.Laws.{packet_for_lem}
use Rattle.types.specs.declared.Slot.{Slot}
use Rattle.types.specs.declared.Record.{Record}
use Rattle.slots.specs.declared.find.Seat.{Seat}
use Rattle.slots.specs.Below.{all_below}
use Rattle.slots.specs.BelowLaws.{all_up_to}
use Rattle.slots.specs.Found.{new_seat_in, seat_found, seat_not_found}
use Rattle.slots.specs.Slots.{is_free, find_in, opened, held_at, length_at, with_part, to_front, with_slots, slots_in}
use Rattle.cells.specs.Cells.{cell_at, cell_part, joined_octets}
use Rattle.cells.specs.Handing.{Place, Reaches, has_cell, cell_start, after_store, series_packet}
use Rattle.series.specs.Taking.{State, Answer, After, told_answer, kept, packet, refused_by, state, after, hand_out, completes, Step, refuses, repeats, keeps, finishes, step_new, step, acted, take_part}
use Rattle.series.specs.Deciding.{all_with, has_with, step_at, any_key_of, answer_of, Room, Whole, Seated}
use Rattle.cells.specs.CellLaws.{cell_part_lem, joined_pieces, store_in_lem, same_in, packet_of_lem}

-- ---- deciding
module _ (held : List Bool) (t number : ℕ) where
  pub part_lacks : (i : ℕ) → (ltb i t && not (eqb (i + 1) number || get_or held i false)) ≡ not (has_with held t number i)
  part_lacks i = go (ltb i t) (eqb (i + 1) number || get_or held i false)
    where
      go : (a b : Bool) → (a && not b) ≡ not (not a || b)
      go true b = refl
      go false b = refl

  pub none_lacks : (b : Bool) → t ≤ most_parts → b ≡ all_below most_parts (has_with held t number) → b ≡ all_with held t number
  none_lacks b l e = e ∙ all_up_to most_parts t (λ i. eqb (i + 1) number || get_or held i false) l

module _ (cells : List ℕ) (total number : ℕ) (octets : List ℕ) (i : ℕ) (x : Slot) where
  pub other_total : (x.total ≡ total → ⊥) → refuses 7 ≡ step_at cells total number octets i x
  other_total ne = rw (ne_eqb x.total total ne)

  module _ (is : x.total ≡ total) where
    module _ (held : held_at x number ≡ true) (place : Place i number) (size : Reaches i cells) (b : Bool)
        (same : b ≡ (has_cell (length cells) i number && same_octets (cell_start cells i number (length_at x number)) octets)) where
      compared : b ≡ same_octets (cell_part cells x i number) octets
      compared = same ∙ same_in i number place cells size (length_at x number) octets ∙ rw (cell_part_lem cells x i number)

      pub held_same : b ≡ true → repeats i ≡ step_at cells total number octets i x
      held_same e = rw (eq-eqb x.total total is, held, ← compared, e)

      pub held_other : b ≡ false → refuses 8 ≡ step_at cells total number octets i x
      held_other e = rw (eq-eqb x.total total is, held, ← compared, e)

  -- only a part of as many completes a series
  pub finish_total : finishes i ≡ step_at cells total number octets i x → x.total ≡ total
  finish_total = go (eqb x.total total) refl
    where
      go : (b : Bool) → eqb x.total total ≡ b
          → finishes i ≡ cond (not b) (refuses 7)
          (cond (held_at x number) (cond (same_octets (cell_part cells x i number) octets) (repeats i) (refuses 8))
          (cond (completes x number) (finishes i) (keeps i false x)))
          → x.total ≡ total
      go true e h = eqb-true x.total total e
      go false e h = let z : ◌≡◌ {A = ℕ} 0 1 = cc in absurd (omega arith)

-- ---- acting
pub part_stored : (i number : ℕ) (octets cells cells' : List ℕ) → Room i number octets cells → cells' ≡ after_store cells i number octets
    → cells' ≡ placed cells (cell_at i number) octets
part_stored i number octets cells cells' room e = e ∙ store_in_lem i number room.place cells room.size octets room.short

module _ (z : option.Option ℕ) where
  pub answer_packet : (n : ℕ) → z ≡ Some n → packet n ≡ answer_of (told_size z)
  answer_packet n e = rw e

  pub answer_none : z ≡ None → refused_by 9 ≡ answer_of (told_size z)
  answer_none e = rw e

-- a single message or page, for which the output has room
module _ (k : Kind) (paged : Bool) (octets output : List ℕ) (fits : length octets ≤ length output) where
  pub single_answer : (z : option.Option ℕ) (a b : Result response.Answer Refusal) → told_size z ≡ length_in (packet_for k paged octets (length output)) → a ≡ b
      → told_answer b ≡ answer_of (told_size z) → told_answer a ≡ answer_of (length_in (packet_in k paged 1 octets))
  single_answer z a b e q h = rw (← packet_for_lem k paged octets (length output) fits, ← e, q) h

  pub single_output : (o : List ℕ) → o ≡ output_with (packet_for k paged octets (length output)) output
      → o ≡ output_with (packet_in k paged 1 octets) output
  single_output o e = rw (← packet_for_lem k paged octets (length output) fits) e

-- the parts of a slot x with the one that arrives, where t is the total as a length
module _ (x : Slot) (i number : ℕ) (octets cells output : List ℕ) (room : Room i number octets cells) (w : Whole x i number octets cells output)
    (t : ℕ) (is : t ≡ x.total) (k : Kind) (paged : Bool) where
  same_packet : series_packet k paged cells x.lengths t i number octets (length output) ≡ packet_in k paged x.total (joined_octets cells x i number octets)
  same_packet =
      rw is (packet_of_lem k paged cells x.lengths x.total i number octets (length output) room.place.0 room.size w.lengths w.most room.short
      (rw (joined_pieces cells x i number octets) w.joined) ∙ rw (joined_pieces cells x i number octets))

  pub whole_answer : (z : option.Option ℕ) (a : Answer) → told_size z ≡ length_in (series_packet k paged cells x.lengths t i number octets (length output))
      → a ≡ answer_of (told_size z) → a ≡ answer_of (length_in (packet_in k paged x.total (joined_octets cells x i number octets)))
  whole_answer z a e h = rw (← same_packet, ← e) h

  pub whole_output : (o : List ℕ) → o ≡ output_with (series_packet k paged cells x.lengths t i number octets (length output)) output
      → o ≡ output_with (packet_in k paged x.total (joined_octets cells x i number octets)) output
  whole_output o e = rw (← same_packet) e

-- an answer and an output that tell of a packet are what handing out comes to
pub handed_out : (s : State) (r : Record) (a : Answer) (o : List ℕ) (p : Option (List ℕ)) → a ≡ answer_of (length_in p) → o ≡ output_with p s.output
    → after a r s.cells o ≡ hand_out s r p
handed_out s r a o none h e = rw (h, e)
handed_out s r a o (some p) h e = rw (h, e)

pub of_key : (paged : Bool) → of_pages (any_key_of paged) ≡ paged
of_key true = refl
of_key false = refl

-- what acting comes to, by whether the key is of pages
pub acted_by : (n : ℕ) (s : State) (key : Key) (total number : ℕ) (octets : List ℕ) (st : Step)
    → acted n s (any_key_of (of_pages key)) total number octets st ≡ acted n s key total number octets st
acted_by n s key total number octets (refuses m) = refl
acted_by n s key total number octets (repeats i) = refl
acted_by n s key total number octets (keeps i d x) = refl
acted_by n s key total number octets (finishes i) = rw (of_key (of_pages key))

-- a series that a part opens
pub opens_at : (key : Key) (cells output : List ℕ) (total number : ℕ) (octets : List ℕ) (r : Record) (q : Option ℕ) → let p : Seat = new_seat_in (slots_in r) r.slots q in
    after (kept p.slot p.displaced) (with_slots r (to_front r.slots p.slot (with_part (opened key total) number (length octets))))
    (placed cells (cell_at p.slot number) octets) output
    ≡ acted (slots_in r) (state r cells output) key total number octets (step_new (slots_in r) (state r cells output) key total number octets q)
opens_at key cells output total number octets r (some i) = refl
opens_at key cells output total number octets r none = refl

-- a part of the series with that key, of a record in which its seat is o
module _ (r : Record) (k : Kind) (key : Key) (o : Seat) (x : Slot) (cells output : List ℕ) (total number : ℕ) (octets : List ℕ)
    (seated : Seated r k key o x) where
  pub seat_more : o.held ≡ true → (i : ℕ) → i ≡ o.slot → (a : After)
      → a ≡ acted (slots_in r) (state r cells output) (any_key_of (of_pages key)) total number octets (step_at cells total number octets i x)
      → a ≡ take_part (slots_in r) (state r cells output) key total number octets
  unfolding take_part step
  seat_more h i is a e =
      rw (seat_found (slots_in r) r.slots key o seated.seat h, seated.holds.entry)
      (e ∙ rw is (acted_by (slots_in r) (state r cells output) key total number octets (step_at cells total number octets o.slot x)))

  pub seat_opens : o.held ≡ false → (cells' : List ℕ) → cells' ≡ placed cells (cell_at o.slot number) octets
      → after (kept o.slot o.displaced) (with_slots r (to_front r.slots o.slot (with_part (opened key total) number (length octets)))) cells' output
      ≡ take_part (slots_in r) (state r cells output) key total number octets
  unfolding take_part step
  seat_opens h cells' g =
      let (None-found, new) = seat_not_found (slots_in r) r.slots key o seated.seat h in
      rw (g, None-found) (rw new (opens_at key cells output total number octets r (find_in (slots_in r) is_free r.slots)))
