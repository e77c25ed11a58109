-- What taking may rely on: a sound record and an admitted part give it room, a series that is there joins to no more than the output holds,
-- and what reading gives fits.
use Rattle.std.specs.declared.result.Result.{Result}
use Rattle.std.specs.declared.result.Result.TheVariants.{Ok, Err}
use Rattle.types.specs.declared.Refusal.{Refusal}
use Rattle.std.specs.Prelude.{ℕ, zero, suc, ◌+◌, ◌-◌, ◌≤◌, ◌<◌, ◌≡◌, refl, Bool, true, false, not, cond, ◌&&◌, ◌||◌, List, length, get_or, eqb, ltb, leb}
use Rattle.std.proofs.Common.{sym, arith, Fits, ltb-true, ltb-false, le-ltb, leb-true, eqb-true}
use Rattle.std.proofs.Math.Option.{Option, some}
use Rattle.std.specs.Int.{w8}
use Rattle.std.proofs.Math.ListN.{get_or-eq_default}
use Rattle.std.proofs.lemmas.Bool.{not-false}
use Rattle.octets.specs.Tests.{both, neither}
use Rattle.types.specs.declared.Kind.{Kind}
use Rattle.packet.specs.Packets.{most_octets}
use Rattle.types.specs.declared.Key.{Key}
use Rattle.types.specs.declared.Arrival.{Arrival}
use Rattle.types.specs.declared.Arrival.TheVariants.{Single, Part}
use Rattle.arrival.specs.Arrivals.{told_arrival}
use Rattle.arrival.specs.Message.{most_parts, read_message}
use Rattle.arrival.specs.Page.{page_content, read_page}
use Rattle.arrival.specs.Keys.{of_pages, length_fits}
use Rattle.arrival.specs.Laws.{Admitted, page_part, page_single}
use Rattle.arrival.proofs.MessageLaws.{message_part, message_single}
use Rattle.types.specs.declared.Slot.{Slot}
use Rattle.types.specs.declared.Record.{Record}
use Rattle.slots.specs.declared.find.Seat.{Seat}
use Rattle.slots.specs.BelowLaws.{count_at_most}
use Rattle.slots.specs.Slots.{most_slots, slot_at, used, same_key, bears, find_in, slots_in}
use Rattle.slots.specs.Found.{seat_of, seat_inside}
use Rattle.formed.specs.Formed.{mark_at, size_at, part_formed, slots_formed, record_formed}
use Rattle.slots.specs.RankLaws.{pos_taken, rank_bound}
use Rattle.slots.specs.FrontLaws.{FoundIn, hit_in, miss_in, find_in?}
use Rattle.formed.specs.Laws.{UsedSlot, array_holds, formed_tells, slot_tells}
use Rattle.series.specs.PartLaws.{total_bounds}
use Rattle.cells.specs.Cells.{cell_octets, cells_size}
use Rattle.cells.specs.Handing.{series_piece, series_octets}
use Rattle.cells.specs.CellLaws.{piece_length, joined_none, joined_length, joined_pieces}
use Rattle.series.specs.Taking.{state, unfit}
use Rattle.series.specs.KeepLaws.{Sound, short}
use Rattle.series.specs.Deciding.{Room, Whole, Seated, Fitting}

-- ---- the lengths that a well-formed record allows
-- how many octets of its cell a part can fill: part 1 two fewer
abbrev most : ℕ → ℕ
most k = cell_octets - cond (eqb k 1) 2 0

most_cell : (k : ℕ) → most k ≤ cell_octets
most_cell k = omega arith

fits_most : (x : Key) (k n : ℕ) → length_fits x k n ≡ true → n ≤ most k
unfolding length_fits
fits_most x k n = go (of_pages x) (eqb x.width 16) (eqb k 1)
  where
    go : (p w f : Bool) → cond p (eqb n page_content) (leb n (cond w 133 134 - cond f 2 0)) ≡ true → n ≤ cell_octets - cond f 2 0
    go true w true e = omega (arith, eqb-true n page_content e)
    go true w false e = omega (arith, eqb-true n page_content e)
    go false true f e = omega (arith, leb-true n (133 - cond f 2 0) e)
    go false false f e = leb-true n (134 - cond f 2 0) e

part_most : (x : Slot) (i : ℕ) → part_formed x i ≡ true → size_at x i ≤ most (i + 1)
part_most x i = go (mark_at x i)
  where
    go : (b : Bool) → cond b (ltb i x.total && length_fits x.key (i + 1) (size_at x i)) (eqb (size_at x i) 0) ≡ true
        → size_at x i ≤ most (i + 1)
    go true e = fits_most x.key (i + 1) (size_at x i) (both (ltb i x.total) (length_fits x.key (i + 1) (size_at x i)) e).1
    go false e = omega (arith, eqb-true (size_at x i) 0 e)

module _ (x : Slot) (formed : (i : ℕ) → i < most_parts → part_formed x i ≡ true) where
  -- "Packet: at most 2,142 octets": with a part that fits its place, no more octets join
  pub joined_fits : (key : Key) (cells : List ℕ) (s number : ℕ) (part : List ℕ) (total : ℕ) → length_fits key number (length part) ≡ true
      → total ≤ most_parts → length (series_octets cells x.lengths total s number part) ≤ most_octets
  joined_fits key cells s number part zero fits l = rw (joined_none (series_piece cells x.lengths s number part)) (omega arith)
  joined_fits key cells s number part (suc n) fits l =
      omega (
        arith,
        joined_length (series_piece cells x.lengths s number part) cell_octets 2 n
            (omega (arith, each 1 (omega arith) (omega arith)))
            (λ k u v. omega (arith, each k u (omega arith), most_cell k)),
      )
    where
      each : (k : ℕ) → 0 < k → k ≤ most_parts → length (series_piece cells x.lengths s number part k) ≤ most k
      each k u v =
          piece_length cells x.lengths s number part k (most k)
          (λ e. rw e (fits_most key number (length part) fits))
          (let e : k - 1 + 1 ≡ k = omega arith in rw e at (part_most x (k - 1) (formed (k - 1) (omega arith))))

-- ---- a sound record
-- a slot that a search found passes its test
found_at : (n : ℕ) (p : Slot → Bool) (xs : List Slot) (i : ℕ) (o : Option ℕ) → FoundIn n p xs o → o ≡ some i → (i < n) × (p (slot_at xs i) ≡ true)
found_at n p xs i o (hit_in j l e f) q = let m : j ≡ i = cc in rw (← m) (l, e)
found_at n p xs i o (miss_in f) q = let z : ◌≡◌ {A = ℕ} 0 1 = cc in absurd (omega arith)

module _ (r : Record) (cells : List ℕ) (w : Sound r.count r cells) where
  -- its number is that of its slots
  pub own_number : slots_in r ≡ r.count
  own_number = rw (le-ltb most_slots r.count w.formed.high)

  enough : r.count ≤ length r.slots
  enough = array_holds r.count r.kind r.slots w.formed

  pub rest_free_lem : (j : ℕ) → slots_in r ≤ j → (slot_at r.slots j).rank ≡ 0
  rest_free_lem j l = go (ltb j most_slots) refl
    where
      go : (b : Bool) → ltb j most_slots ≡ b → (slot_at r.slots j).rank ≡ 0
      go true e = (w.formed.rest j (omega (arith, own_number)) (ltb-true j most_slots e)).1
      go false e =
          let past : length r.slots ≤ j = omega (arith, ltb-false j most_slots e, w.formed.array) in rw get_or-eq_default

  pub ranks_low : (j : ℕ) → (slot_at r.slots j).rank < 255
  ranks_low j = go (ltb j r.count) refl
    where
      go : (b : Bool) → ltb j r.count ≡ b → (slot_at r.slots j).rank < 255
      go true e =
          omega (
            arith,
            rank_bound r.count (λ i. (slot_at r.slots i).rank) w.formed.ranks j (ltb-true j r.count e),
            count_at_most r.count (λ i. used (slot_at r.slots i)),
            w.formed.high,
          )
      go false e = omega (arith, rest_free_lem j (omega (arith, ltb-false j r.count e, own_number)))

  -- the seat of a key is one of the slots
  pub seat_own : (key : Key) → (seat_of (slots_in r) r.slots key).slot < slots_in r
  seat_own key = seat_inside (slots_in r) r.slots key (omega (arith, own_number, w.formed.low)) (omega (arith, own_number, enough))

  pub seated : (key : Key) (o : Seat) → o ≡ seat_of (slots_in r) r.slots key → Seated r r.kind key o (slot_at r.slots o.slot)
  seated key o seat = record {
    seat = seat;
    holds = record { kind = refl; inside = rw seat (seat_own key); rest = rest_free_lem; entry = refl; ranks = ranks_low };
  }

  module _ (key : Key) (total number : ℕ) (octets : List ℕ) (adm : Admitted r.kind key total number octets) where
    pub room_at : (i : ℕ) → i < slots_in r → Room i number octets cells
    room_at i l = record {
      place = (omega (arith, own_number, w.formed.high), adm.low, omega (arith, adm.high, total_bounds key total adm.total_fits));
      short = short key number (length octets) adm.length_fits;
      size = omega (arith, own_number, w.size);
    }

    module _ (i : ℕ) (found : find_in (slots_in r) (bears key) r.slots ≡ some i) where
      there : (i < slots_in r) × (bears key (slot_at r.slots i) ≡ true)
      there = found_at (slots_in r) (bears key) r.slots i (find_in (slots_in r) (bears key) r.slots) (find_in? (slots_in r) (bears key) r.slots (omega (arith, own_number, enough))) found

      found_inside : i < r.count
      found_inside = omega (arith, there.0, own_number)

      was_used : UsedSlot r.kind (slot_at r.slots i)
      was_used =
          let x : Slot = slot_at r.slots i in
          slot_tells r.kind x (w.formed.slots i found_inside) (pos_taken x.rank (both (used x) (same_key x.key key) there.1).0)

      pub whole_at : (output : List ℕ) → length output ≡ most_octets → Whole (slot_at r.slots i) i number octets cells output
      whole_at output size =
          let x : Slot = slot_at r.slots i in
          let (least, most) = total_bounds x.key x.total was_used.total in record {
            lengths = was_used.lengths;
            some = omega arith;
            most = most;
            joined = rw (← joined_pieces cells x i number octets, size) (joined_fits x was_used.parts key cells i number octets x.total adm.length_fits most);
          }

-- what the tests before reading tell
pub fit : (r : Record) (cells output : List ℕ) → unfit r.count (state r cells output) ≡ false → Sound r.count r cells × (length output ≡ most_octets)
fit r cells output e =
    let c : Bool = not (eqb (length cells) (cells_size r.count)) in
    let o : Bool = not (eqb (length output) most_octets) in
    let (e₁, h₂) = neither (c || o) (not (record_formed r.count r)) e in
    let (h₀, h₁) = neither c o e₁ in (
      record {
        number = refl;
        formed = formed_tells r.count r.kind r.slots (both (eqb r.count r.count) (slots_formed r.count r.kind r.slots) (not-false (record_formed r.count r) h₂)).1;
        size = eqb-true (length cells) (cells_size r.count) (not-false (eqb (length cells) (cells_size r.count)) h₀);
      },
      eqb-true (length output) most_octets (not-false (eqb (length output) most_octets) h₁),
    )

-- ---- what reading gives
pub message_fitting : (k : Kind) (sender : ℕ) (ud : List ℕ) (z : Result Arrival Refusal) → told_arrival z ≡ read_message k sender ud → ((i : ℕ) → Fits w8 (get_or ud i 0))
    → Fitting k ud z
message_fitting k sender ud (Ok (Single start)) e b = omega (arith, message_single k sender ud start (sym e))
message_fitting k sender ud (Ok (Part key total number start)) e b = message_part k sender ud key total number start (sym e) (λ i. omega (arith, b i))
message_fitting k sender ud (Err q) e b = tt

pub page_fitting : (k : Kind) (page : List ℕ) (z : Result Arrival Refusal) → told_arrival z ≡ read_page k page → Fitting k page z
page_fitting k page (Ok (Single start)) e = omega (arith, page_single k page start (sym e))
page_fitting k page (Ok (Part key total number start)) e = page_part k page key total number start (sym e)
page_fitting k page (Err q) e = tt
