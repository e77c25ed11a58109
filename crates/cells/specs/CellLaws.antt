-- What writing one cell does to what is read of the cells, and what parts join to.
use Prim.Native.Nat.{ℕ, zero, suc, ◌+◌, ◌-◌, ◌*◌, ◌≤◌, ◌<◌}
use Rattle.std.specs.Prelude.{◌≡◌, refl, Bool, true, false, cond, ◌&&◌, ◌⊎◌, get_or, eqb, ltb}
use Rattle.std.proofs.Math.Path.{sym, ap}
use Rattle.std.proofs.Common.{◌∙◌, add-one, length-take, length-drop, ltb-true, ltb-false, lt-ltb, le-leb, eqb-true, eq-eqb, eq-or-lt_of_le, drop_at, length-take-le}
use Rattle.std.proofs.Math.Logic.{⊎_elim}
use mathlib.Core.List.{List, [], ◌++◌, append_assoc}
use native.Mathlib.Omega.{arith}
use Rattle.std.proofs.Math.Numerals.{unary_clauses}
use Rattle.std.proofs.Math.ListN.{length, take, drop, length-append, take-append-drop}
use Rattle.std.proofs.lemmas.List.{take-append-le, drop-append-le}
use Rattle.std.proofs.Math.Seq.{take_at, drop-drop, drop-append-add}
use Rattle.octets.specs.Octets.{placed, same_octets}
use Rattle.octets.specs.Laws.{put_fits, length_placed}
use Rattle.types.specs.declared.Kind.{Kind}
use Rattle.arrival.specs.Message.{most_parts}
use Rattle.types.specs.declared.Slot.{Slot}
use Rattle.joined.specs.Fronts.{packet_in}
use Rattle.slots.specs.Slots.{most_slots, length_at}
use Rattle.cells.specs.Cells.{cell_octets, cells_size, cell_at, cell_part, joined, joined_octets}
use Rattle.cells.specs.Handing.{Place, Reaches, has_cell, cell_start, after_store, series_piece, series_octets, series_packet}

-- ---- octets put at a place: there they are read, elsewhere what stood there
front_part : {A : Type 0} (t r : List A) (from size : ℕ) → from + size ≤ length t → take size (drop from (t ++ r)) ≡ take size (drop from t)
front_part t r from size l =
    rw (drop-append-le from t r (omega arith), take-append-le size (drop from t) r (simp length-drop (omega arith)))

module _ {A : Type 0} (d : List A) (at : ℕ) (p : List A) (fits : at + length p ≤ length d) where
  before : length (take at d) ≡ at
  before = length-take-le at d (omega arith)

  pub read_here : take (length p) (drop at (placed d at p)) ≡ p
  unfolding placed
  read_here = rw (drop_at (take at d) (p ++ drop (at + length p) d) at before, take_at p (drop (at + length p) d) (length p) refl)

  pub read_before : (from size : ℕ) → from + size ≤ at → take size (drop from (placed d at p)) ≡ take size (drop from d)
  unfolding placed
  read_before from size l =
      let whole : take at d ++ drop at d ≡ d = take-append-drop at d in
      front_part (take at d) (p ++ drop (at + length p) d) from size (omega (arith, before))
      ∙ sym (front_part (take at d) (drop at d) from size (omega (arith, before))) ∙ rw whole

  pub read_behind : (from size : ℕ) → at + length p ≤ from → take size (drop from (placed d at p)) ≡ take size (drop from d)
  unfolding placed
  read_behind from size l =
      let k : ℕ = from - (at + length p) in
      let head : length (take at d ++ p) ≡ at + length p = simp length-append (omega (arith, before)) in
      let split : from ≡ length (take at d ++ p) + k = omega (arith, head) in
      let sum : at + length p + k ≡ from = omega arith in
      ap (take size) (rw (← append_assoc (take at d) p (drop (at + length p) d), split, drop-append-add, drop-drop, ← split, sum))

-- ---- cells
-- of a slot only the length of the part is looked at
pub part_by_length : (cells : List ℕ) (x y : Slot) (s k : ℕ) → length_at x k ≡ length_at y k → cell_part cells x s k ≡ cell_part cells y s k
unfolding cell_part
part_by_length cells x y s k e = rw e

-- a cell is as long as the longest part, and ends within the cells
pub cell_inside : (n s k : ℕ) → s < n → 1 ≤ k → k ≤ most_parts → cell_at s k + cell_octets ≤ cells_size n
cell_inside n s k l low high = omega arith

module _ (n : ℕ) (cells : List ℕ) (size : length cells ≡ cells_size n) (s k : ℕ) (inside : s < n) (low : 1 ≤ k) (high : k ≤ most_parts)
    (o : List ℕ) (short : length o ≤ cell_octets) where
  fits : cell_at s k + length o ≤ length cells
  fits = omega (arith, cell_inside n s k inside low high)

  pub cells_size_lem : length (placed cells (cell_at s k) o) ≡ cells_size n
  cells_size_lem = length_placed cells (cell_at s k) o fits ∙ size

  -- the part that was written is read where the slot says its length
  pub cell_here : (x : Slot) → length_at x k ≡ length o → cell_part (placed cells (cell_at s k) o) x s k ≡ o
  unfolding cell_part
  cell_here x e = rw e (read_here cells (cell_at s k) o fits)

  -- every other cell is as it was
  pub cell_there : (x y : Slot) (j m : ℕ) → 1 ≤ m → m ≤ most_parts → length_at x m ≡ length_at y m → length_at y m ≤ cell_octets
      → ((j ≡ s → ⊥) ⊎ (m ≡ k → ⊥)) → cell_part (placed cells (cell_at s k) o) x j m ≡ cell_part cells y j m
  unfolding cell_part
  cell_there x y j m a b e l ne = rw e (go (ltb (most_parts * j + m) (most_parts * s + k)) refl)
    where
      apart : most_parts * j + m ≡ most_parts * s + k → ⊥
      apart q = ⊎_elim (λ (f : j ≡ s → ⊥). f (omega arith)) (λ (f : m ≡ k → ⊥). f (omega arith)) ne

      go : (t : Bool) → ltb (most_parts * j + m) (most_parts * s + k) ≡ t
          → take (length_at y m) (drop (cell_at j m) (placed cells (cell_at s k) o)) ≡ take (length_at y m) (drop (cell_at j m) cells)
      go true t = read_before cells (cell_at s k) o fits (cell_at j m) (length_at y m) (omega (arith, ltb-true (most_parts * j + m) (most_parts * s + k) t))
      go false t =
          let q : most_parts * s + k < most_parts * j + m = lt_of_le_of_ne (ltb-false (most_parts * j + m) (most_parts * s + k) t) in
          read_behind cells (cell_at s k) o fits (cell_at j m) (length_at y m) (omega arith)
        where
          lt_of_le_of_ne : most_parts * s + k ≤ most_parts * j + m → most_parts * s + k < most_parts * j + m
          lt_of_le_of_ne h = ⊎_elim (λ (q : most_parts * s + k ≡ most_parts * j + m). absurd (apart (sym q))) (λ (q : most_parts * s + k < most_parts * j + m). q) (eq-or-lt_of_le h)

-- ---- joining
pub joined_same : (f g : ℕ → List ℕ) (m : ℕ) → ((i : ℕ) → i < m → f (suc i) ≡ g (suc i)) → joined f m ≡ joined g m
unfolding joined
joined_same f g zero h = refl
joined_same f g (suc m) h = rw (joined_same f g m (λ i l. h i (omega arith)), h m (omega arith))

pub joined_none : (f : ℕ → List ℕ) → joined f 0 ≡ []
unfolding joined
joined_none f = refl

pub joined_more : (f : ℕ → List ℕ) (k : ℕ) → joined f (k + 1) ≡ joined f k ++ f (k + 1)
unfolding joined
joined_more f k = rw add-one

-- how long they are together, where none is longer than m and part 1 leaves d octets of that free
pub joined_length : (f : ℕ → List ℕ) (m d n : ℕ) → length (f 1) + d ≤ m
    → ((k : ℕ) → 0 < k → k ≤ suc n → length (f k) ≤ m) → length (joined f (suc n)) + d ≤ m * suc n
unfolding joined
joined_length f m d zero first short = omega (arith, first)
joined_length f m d (suc n) first short =
    let e : m * suc (suc n) ≡ m * suc n + m = simp unary_clauses in
    rw (length-append (joined f (suc n)) (f (suc (suc n))))
    (omega (arith, joined_length f m d n first (λ k u v. short k u (omega arith)), short (suc (suc n)) (omega arith) (omega arith)))

-- ---- the parts of a slot, by its lengths and its total
pub cell_part_lem : (cells : List ℕ) (x : Slot) (s k : ℕ) → cell_start cells s k (length_at x k) ≡ cell_part cells x s k
unfolding cell_part
cell_part_lem cells x s k = refl

pub joined_pieces : (cells : List ℕ) (x : Slot) (s number : ℕ) (part : List ℕ)
    → series_octets cells x.lengths x.total s number part ≡ joined_octets cells x s number part
unfolding joined_octets cell_part
joined_pieces cells x s number part = refl

-- a bound on the length of a part
pub piece_length : (cells lengths : List ℕ) (s number : ℕ) (part : List ℕ) (k m : ℕ) → (k ≡ number → length part ≤ m) → get_or lengths (k - 1) 0 ≤ m
    → length (series_piece cells lengths s number part k) ≤ m
piece_length cells lengths s number part k m u v = go (eqb k number) refl
  where
    go : (b : Bool) → eqb k number ≡ b → length (cond b part (cell_start cells s k (get_or lengths (k - 1) 0))) ≤ m
    go true e = u (eqb-true k number e)
    go false e = simp length-take (omega arith)

-- ---- what the calls come to if there is such a cell, and if parts make a series
module _ (s k : ℕ) (place : Place s k) (cells : List ℕ) (size : Reaches s cells) where
  pub cell_there? : has_cell (length cells) s k ≡ true
  cell_there? = rw (lt-ltb s most_slots place.0, le-leb (cells_size (s + 1)) (length cells) size, lt-ltb 0 k place.1, le-leb k most_parts place.2)

  pub store_in_lem : (part : List ℕ) → length part ≤ cell_octets → after_store cells s k part ≡ placed cells (cell_at s k) part
  store_in_lem part short = rw cell_there? (put_fits cells (cell_at s k) part (omega (arith, place.0, place.1, place.2)))

  pub same_in : (n : ℕ) (part : List ℕ)
      → (has_cell (length cells) s k && same_octets (cell_start cells s k n) part) ≡ same_octets (cell_start cells s k n) part
  same_in n part = rw cell_there?

pub packet_of_lem : (k : Kind) (paged : Bool) (cells lengths : List ℕ) (total s number : ℕ) (part : List ℕ) (size : ℕ) → s < most_slots → Reaches s cells
    → length lengths ≡ most_parts → total ≤ most_parts → length part ≤ cell_octets → length (series_octets cells lengths total s number part) ≤ size
    → series_packet k paged cells lengths total s number part size ≡ packet_in k paged total (series_octets cells lengths total s number part)
packet_of_lem k paged cells lengths total s number part size l r n t p fits =
    rw (
      lt-ltb s most_slots l,
      le-leb (cells_size (s + 1)) (length cells) r,
      eq-eqb (length lengths) most_parts n,
      le-leb total most_parts t,
      le-leb (length part) cell_octets p,
      le-leb (length (series_octets cells lengths total s number part)) size fits,
    )
