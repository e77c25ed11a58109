-- What the proofs of `cells` search: one law for each return, call and turn of a loop, over plain variables.
use Rattle.std.specs.declared.option.Option as option
use Rattle.std.specs.declared.option.Option.TheVariants.{Some}
use Prim.Native.Nat.{ℕ, zero, suc, ◌+◌, ◌-◌, ◌*◌, ◌≤◌, ◌<◌}
use mathlib.Core.Path.{◌≡◌, sym, ap, ◌∙◌}
use mathlib.Core.Bool.{Bool, true, false, not, ◌&&◌, and-false}
use mathlib.Core.List.{List, [], ◌++◌}
use mathlib.Core.Option.{Option, none}
use native.Mathlib.Omega.{arith}
use mir.Syntax.{w8}
use mir.Val.{Fits}
use lib.ListN.{length, get_or, take, drop, length-take, length-drop}
use lib.Seq.{take_all}
use lib.Dec.{eqb, ltb, leb}
use borrow.Author.Rules.{rules}
use borrow.Author.Tests.{lt-ltb, le-ltb, ltb-true, leb-true, eqb-true, lt-leb, not-true, not-false}
use Rattle.octets.specs.Tests.{both}
use Rattle.octets.specs.Octets.{placed, after_put, same_octets}
use Rattle.octets.specs.Laws.{put_fits, length_placed}
use Rattle.types.specs.declared.Kind.{Kind}
use Rattle.arrival.specs.Message.{most_parts}
use Rattle.joined.specs.declared.Front.{Front}
use Rattle.joined.specs.Fronts.{packet_in, front_of, most_counted, extended, size_by, told_size, length_in, output_with}
use Rattle.joined.specs.Laws.{front_more, extended_more, none_told, none_kept, packet_inside, packet_fits, packet_told, packet_written}
use Rattle.slots.specs.Slots.{most_slots}
use Rattle.cells.specs.Cells.{cell_octets, cells_size, cell_at, joined}
use Rattle.cells.specs.Handing.{Place, Reaches, reaches, has_cell, cell_start, after_store, series_piece, series_octets, joins, series_packet}
use Rattle.cells.specs.CellLaws.{piece_length, joined_none, joined_more, joined_length, packet_of_lem}
use Rattle.cells.proofs.Laws.{piece_new, piece_held, start_written, Written, written_none, written_more}

-- ---- a cell
pub slot_past : (size s : ℕ) → most_slots ≤ s → false ≡ reaches size s
slot_past size s l = rw (le-ltb s most_slots l)

pub slot_inside : (size s : ℕ) → s < most_slots → leb (cells_size (s + 1)) size ≡ reaches size s
slot_inside size s l = rw (lt-ltb s most_slots l)

pub cell_told : (size s k : ℕ) (b : Bool) → b ≡ reaches size s → (b && ltb 0 k && leb k most_parts) ≡ has_cell size s k
cell_told size s k b e = rw e

-- what the test tells
there : (cells : List ℕ) (s : ℕ) → reaches (length cells) s ≡ true → (s < most_slots) × Reaches s cells
there cells s e =
    let (a, b) = both (ltb s most_slots) (leb (cells_size (s + 1)) (length cells)) e in (ltb-true s most_slots a, leb-true (cells_size (s + 1)) (length cells) b)

module _ (cells : List ℕ) (s k : ℕ) (b : Bool) (told : b ≡ has_cell (length cells) s k) where
  module _ (e : b ≡ true) where
    split : (reaches (length cells) s ≡ true) × (ltb 0 k ≡ true) × (leb k most_parts ≡ true)
    split =
        let (a, c) = both (reaches (length cells) s && ltb 0 k) (leb k most_parts) (sym told ∙ e) in
        let (d, f) = both (reaches (length cells) s) (ltb 0 k) a in (d, f, c)

    pub cell_place : Place s k
    cell_place = ((there cells s split.0).0, ltb-true 0 k split.1, leb-true k most_parts split.2)

    pub cell_reached : Reaches s cells
    cell_reached = (there cells s split.0).1

    pub stored : (part e : List ℕ) (at : ℕ) → at ≡ cell_at s k → e ≡ after_put cells at part → e ≡ after_store cells s k part
    stored part f at is h = rw (← told, e, ← is) h

    pub same_as : (r : Bool) (a x : List ℕ) (n m : ℕ) → r ≡ same_octets a x → a ≡ cell_start cells s k m → m ≡ n
        → r ≡ (has_cell (length cells) s k && same_octets (cell_start cells s k n) x)
    same_as r a x n m h f is = rw (← told, e, ← is, ← f) h

  module _ (e : b ≡ false) where
    pub not_stored : (part : List ℕ) → cells ≡ after_store cells s k part
    not_stored part = rw (← told, e)

    pub not_same : (x : List ℕ) (n : ℕ) → false ≡ (has_cell (length cells) s k && same_octets (cell_start cells s k n) x)
    not_same x n = rw (← told, e)

pub cell_from : (cells r : List ℕ) (s k n at : ℕ) → at ≡ cell_at s k → r ≡ take n (take (length cells - at) (drop at cells)) → r ≡ cell_start cells s k n
cell_from cells r s k n at is h =
    rw (← is) (h ∙ ap (take n) (take_all (length cells - at) (drop at cells) (simp length-drop (omega arith))))

-- ---- the front
-- the parts of a series: none yet, one more, all of them
module _ (cells lengths : List ℕ) (s number : ℕ) (part : List ℕ) where
  abbrev piece : ℕ → List ℕ
  piece = series_piece cells lengths s number part

  pub front_none : (f : Front) → f ≡ front_of [] → f ≡ front_of (joined piece 0)
  front_none f e = e ∙ ap front_of (sym (joined_none piece))

  -- each length is an octet
  count_joined : (k : ℕ) → k ≤ most_parts → ((i : ℕ) → Fits w8 (get_or lengths i 0)) → length part ≤ cell_octets → length (joined piece k) ≤ 255 * most_parts
  count_joined k l octet size = go k l
    where
      each : (i : ℕ) → length (piece i) ≤ 255
      each i = piece_length cells lengths s number part i 255 (λ q. omega arith) (omega (arith, octet (i - 1)))

      go : (n : ℕ) → n ≤ most_parts → length (joined piece n) ≤ 255 * most_parts
      go zero h = rw (joined_none piece) (omega arith)
      go (suc n) h = omega (arith, joined_length piece 255 0 n (omega (arith, each 1)) (λ i a b. each i))

  pub front_next : (f r : Front) (k total : ℕ) (p : List ℕ) → p ≡ piece (k + 1) → r ≡ extended f p → f ≡ front_of (joined piece k) → k < total
      → (s < most_slots) × (total ≤ most_parts) → ((i : ℕ) → Fits w8 (get_or lengths i 0)) → (length part ≤ cell_octets) × Reaches s cells
      → r ≡ front_of (joined piece (k + 1))
  front_next f r k total p is more e l (u, v) octet (size, whole) =
      let few : length (joined piece k) ≤ most_counted = omega (arith, count_joined k (omega arith) octet size) in
      rw (more, e, is, extended_more (front_of (joined piece k)) (piece (k + 1)) few, front_more (joined piece k) (piece (k + 1)))
      (ap front_of (sym (joined_more piece k)))

  pub front_all : (f : Front) (k total : ℕ) → f ≡ front_of (joined piece k) → k ≤ total → total ≤ k → f ≡ front_of (joined piece total)
  front_all f k total e u v = let h : k ≡ total = omega arith in rw h at e

-- ---- writing
-- what is put up to the limit stands there, inside the buffer, which keeps its length
module _ (p q d e : List ℕ) (limit at : ℕ) (is : q ≡ take (limit - at) p) where
  pub put_past : at + length q ≡ at + length (take (limit - at) p)
  put_past = rw is

  pub put_inside : at ≤ limit → limit ≤ length d → e ≡ after_put d at q → e ≡ placed d at (take (limit - at) p)
  put_inside u v h =
      h ∙ put_fits d at q (omega (arith, ap length is, length-take (limit - at) p)) ∙ ap (placed d at) is

pub place_next : (p : List ℕ) (limit at r : ℕ) → at ≤ limit → r ≡ at + length (take (limit - at) p) → r ≤ limit
place_next p limit at r l e = omega (arith, length-take (limit - at) p)

pub length_next : (p d o o' : List ℕ) (limit at : ℕ) → o' ≡ placed o at (take (limit - at) p) → at ≤ limit → limit ≤ length d
    → length o ≡ length d → length o' ≡ length d
length_next p d o o' limit at e u v h =
    ap length e ∙ length_placed o at (take (limit - at) p) (omega (arith, length-take (limit - at) p)) ∙ h

module _ (cells lengths : List ℕ) (s number : ℕ) (part : List ℕ) (limit : ℕ) (d : List ℕ) where
  pub written_start : Written (piece cells lengths s number part) limit d 0 0 d
  written_start = written_none (piece cells lengths s number part) limit d

  pub written_next : (k at r : ℕ) (o o' p : List ℕ) → p ≡ piece cells lengths s number part (k + 1)
      → (r ≡ at + length (take (limit - at) p)) × (o' ≡ placed o at (take (limit - at) p))
      → Written (piece cells lengths s number part) limit d k at o → Written (piece cells lengths s number part) limit d (k + 1) r o'
  written_next k at r o o' p is (to, put) w = written_more (piece cells lengths s number part) limit d k at r o o' p w is to put

  pub written_whole : (k total at : ℕ) (o : List ℕ) → k ≤ total → total ≤ k
      → (limit ≤ length (joined (piece cells lengths s number part) total)) × (limit ≤ length d)
      → Written (piece cells lengths s number part) limit d k at o
      → o ≡ take limit (joined (piece cells lengths s number part) total) ++ drop limit d
  written_whole k total at o u v (l, m) w =
      let h : k ≡ total = omega arith in
      let w' = rw h at w in start_written (joined (piece cells lengths s number part) total) d o limit l w'.is

-- ---- handing out
pub joins_told : (size lengths total s part : ℕ) (b : Bool) → b ≡ reaches size s
    → (b && eqb lengths most_parts && leb total most_parts && leb part cell_octets) ≡ joins size lengths total s part
joins_told size lengths total s part b e = rw e

-- what the test tells
module _ (cells lengths : List ℕ) (n s : ℕ) (part : List ℕ) (b : Bool) (told : b ≡ joins (length cells) (length lengths) n s (length part))
    (e : not b ≡ false) where
  abbrev r : Bool
  r = reaches (length cells) s

  tests : (r ≡ true) × (eqb (length lengths) most_parts ≡ true) × (leb n most_parts ≡ true) × (leb (length part) cell_octets ≡ true)
  tests =
      let (a, z) = both (r && eqb (length lengths) most_parts && leb n most_parts) (leb (length part) cell_octets) (sym told ∙ not-false b e) in
      let (c, y) = both (r && eqb (length lengths) most_parts) (leb n most_parts) a in
      let (w, x) = both r (eqb (length lengths) most_parts) c in (w, x, y, z)

  pub series_slot : s < most_slots
  series_slot = (there cells s tests.0).0

  pub series_reached : Reaches s cells
  series_reached = (there cells s tests.0).1

  pub series_lengths : length lengths ≡ most_parts
  series_lengths = eqb-true (length lengths) most_parts tests.1

  pub series_total : n ≤ most_parts
  series_total = leb-true n most_parts tests.2

  pub series_part : length part ≤ cell_octets
  series_part = leb-true (length part) cell_octets tests.3

module _ (k : Kind) (paged : Bool) (cells lengths : List ℕ) (total s number : ℕ) (part d : List ℕ) where
  abbrev octets : List ℕ
  octets = series_octets cells lengths total s number part

  abbrev due : Option (List ℕ)
  due = series_packet k paged cells lengths total s number part (length d)

  -- no series
  module _ (b : Bool) (told : b ≡ joins (length cells) (length lengths) total s (length part)) where
    module _ (e : not b ≡ true) where
      pub unjoined_told : none ≡ length_in due
      unjoined_told = rw (← told, not-true b e)

      pub unjoined_kept : d ≡ output_with due d
      unjoined_kept = rw (← told, not-true b e)

    -- a series, and room for it
    module _ (e : not b ≡ false) (f : Front) (front : f ≡ front_of octets) (l : f.count ≤ length d) where
      whole : due ≡ packet_in k paged total octets
      whole =
          packet_of_lem k paged cells lengths total s number part (length d) (series_slot cells lengths total s part b told e)
          (series_reached cells lengths total s part b told e) (series_lengths cells lengths total s part b told e)
          (series_total cells lengths total s part b told e) (series_part cells lengths total s part b told e) (rw front at l)

      pub series_told : (z : option.Option ℕ) → told_size z ≡ length_in (packet_in k paged total octets) → told_size z ≡ length_in due
      series_told z h = rw whole h

      pub series_written : (x : List ℕ) → x ≡ output_with (packet_in k paged total octets) d → x ≡ output_with due d
      series_written x h = rw whole h

  -- out has not as many octets
  module _ (f : Front) (front : f ≡ front_of octets) (l : length d < f.count) where
    too_short : leb (length octets) (length d) ≡ false
    too_short = lt-leb (length octets) (length d) (rw front at l)

    pub short_told : none ≡ length_in due
    short_told = rw (too_short, and-false)

    pub short_kept : d ≡ output_with due d
    short_kept = rw (too_short, and-false)

-- the packet's octets are among those joined, and fit the output
module _ (k : Kind) (paged : Bool) (total : ℕ) (o d : List ℕ) (f : Front) (front : f ≡ front_of o) (z : option.Option ℕ) (sized : told_size z ≡ size_by k paged total f)
    (m : ℕ) (q : z ≡ Some m) where
  pub limit_inside : m ≤ length o
  limit_inside = packet_inside k paged total o f z front sized m q

  pub limit_fits : f.count ≤ length d → m ≤ length d
  limit_fits l = packet_fits k paged total o f z front sized m q d (rw front at l)

-- what the proofs over the cells, of the front, of writing and of handing out search
pub ruleset cell_steps = (
  rules,
  slot_past,
  slot_inside,
  cell_told,
  cell_place,
  cell_reached,
  cell_from,
  stored,
  same_as,
  not_stored,
  not_same,
  piece_new,
  piece_held,
)

pub ruleset front_steps = (
  rules,
  front_none,
  front_next,
  front_all,
)

pub ruleset join_steps = (
  rules,
  put_past,
  put_inside,
  place_next,
  length_next,
  written_start,
  written_next,
  written_whole,
)

pub ruleset packet_steps = (
  rules,
  none_told,
  none_kept,
  limit_inside,
  limit_fits,
  packet_told,
  packet_written,
)

pub ruleset hand_steps = (
  rules,
  joins_told,
  unjoined_told,
  unjoined_kept,
  series_slot,
  series_reached,
  series_lengths,
  series_total,
  series_part,
  short_told,
  short_kept,
  series_told,
  series_written,
)
