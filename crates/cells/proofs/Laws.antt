-- Laws of the part of a series, and of writing parts one behind the other.
use Prim.Native.Nat.{ℕ, zero, suc, ◌+◌, ◌-◌, ◌≤◌}
use mathlib.Core.Path.{◌≡◌}
use mathlib.Core.List.{List, [], ◌∷◌, ◌++◌}
use native.Mathlib.Omega.{arith}
use native.Mathlib.Nat.{zero-add}
use lib.ListN.{length, take, drop, get_or, length-append, length-take}
use lib.Seq.{length-take-le, take-nil}
use borrow.Author.Tests.{eq-eqb, ne_eqb}
use Rattle.octets.specs.Octets.{placed}
use Rattle.octets.specs.Laws.{placed_start, placed_next}
use Rattle.cells.specs.Cells.{joined}
use Rattle.cells.specs.Handing.{cell_start, series_piece}
use Rattle.cells.specs.CellLaws.{joined_more}

-- ---- a part
module _ (cells lengths : List ℕ) (s number : ℕ) (part : List ℕ) (k : ℕ) where
  -- the one that arrives, or the one that is held
  pub piece_new : k ≡ number → part ≡ series_piece cells lengths s number part k
  piece_new e = rw (eq-eqb k number e)

  pub piece_held : (x : List ℕ) (n : ℕ) → (k ≡ number → ⊥) → n ≡ get_or lengths (k - 1) 0 → x ≡ cell_start cells s k n
      → x ≡ series_piece cells lengths s number part k
  piece_held x n f e h = rw (ne_eqb k number f, ← e) h

-- ---- writing
take_append : {A : Type 0} (n : ℕ) (xs ys : List A) → take n (xs ++ ys) ≡ take n xs ++ take (n - length xs) ys
take_append zero xs ys = let e : 0 - length xs ≡ 0 = omega arith in rw e
take_append (suc n) [] ys = let e : suc n - 0 ≡ suc n = omega arith in rw e
take_append (suc n) (x ∷ xs) ys =
    let e : suc n - suc (length xs) ≡ n - length xs = omega arith in rw (e, take_append n xs ys)

-- `limit` octets of p stand at the start: the rest of the buffer is as it was
pub start_written : (p d e : List ℕ) (limit : ℕ) → limit ≤ length p → e ≡ placed d 0 (take limit p) → e ≡ take limit p ++ drop limit d
start_written p d e limit l h = rw (h, placed_start d (take limit p), length-take-le limit p l)

-- the first `limit` octets of parts 1 to k stand at the start of o, up to the place `at`, and else o is as d was
pub record Written (f : ℕ → List ℕ) (limit : ℕ) (d : List ℕ) (k at : ℕ) (o : List ℕ) : Type 0 where
  pub size : at ≡ length (take limit (joined f k))
  pub is : o ≡ placed d 0 (take limit (joined f k))

module _ (f : ℕ → List ℕ) (limit : ℕ) (d : List ℕ) where
  pub written_none : Written f limit d 0 0 d
  unfolding joined placed
  written_none = record { size = rw take-nil; is = rw take-nil }

  next : (t q : List ℕ) (n : ℕ) → n ≡ length t → placed (placed d 0 t) n q ≡ placed d 0 (t ++ q)
  next t q n e = rw e (rw zero-add at (placed_next d 0 t q (omega arith)))

  pub written_more : (k at r : ℕ) (o o' p : List ℕ) → Written f limit d k at o → p ≡ f (k + 1)
      → r ≡ at + length (take (limit - at) p) → o' ≡ placed o at (take (limit - at) p) → Written f limit d (k + 1) r o'
  written_more k at r o o' p w e h g =
      let t : List ℕ = take limit (joined f k) in
      let q : List ℕ = take (limit - at) p in
      let m : limit - length (joined f k) ≡ limit - at = omega (arith, w.size, length-take limit (joined f k)) in
      let whole : take limit (joined f (k + 1)) ≡ t ++ q = rw (joined_more f k, take_append limit (joined f k) (f (k + 1)), m, e) in
      record {
        size = rw (whole, length-append, ← w.size) h;
        is = rw (g, w.is, whole) (next t q at w.size);
      }
