-- Laws of what `Octets.antt` defines, which the crates above cite.
use Rattle.std.specs.Prelude.{ℕ, ◌+◌, ◌*◌, ◌/◌, ◌%◌, ◌≤◌, ◌<◌, ◌≡◌, refl, true, false, take, drop, eqb}
use Rattle.std.proofs.Common.{◌∙◌, subst, arith, zero-add, add_assoc, length-drop, eqb-true, eq-eqb, le-leb}
use mathlib.Core.List.{List, [], ◌∷◌, ◌++◌, append_assoc}
use Rattle.std.proofs.Math.ListN.{length, length-append, length-take}
use Rattle.std.proofs.Math.Seq.{take_at, drop_at, drop-drop}
use Rattle.octets.specs.Tests.{both, clash}
use Rattle.octets.specs.Octets.{number_of, pair_of, placed, after_put, same_octets}

-- ---- numbers
-- reading what was written gives the number
pub number_of_pair : (n : ℕ) → number_of (pair_of n).0 (pair_of n).1 ≡ n
number_of_pair n = omega arith

-- writing what was read gives the octets
pub pair_of_number : (high low : ℕ) → low < 256 → pair_of (number_of high low) ≡ (high, low)
pair_of_number high low l =
    let h : (high * 256 + low) / 256 ≡ high = omega arith in
    let m : (high * 256 + low) % 256 ≡ low = omega arith in
    λ i. (h i, m i)

-- every value fits: two octets are below 65,536, and the octets of such a number are below 256
pub number_fits : (high low : ℕ) → high < 256 → low < 256 → number_of high low < 65536
number_fits high low h l = omega arith

pub pair_fits : (n : ℕ) → n < 65536 → ((pair_of n).0 < 256) × ((pair_of n).1 < 256)
pair_fits n l = (omega arith, omega arith)

-- ---- what was put
module _ {A : Type 0} (d : List A) (at : ℕ) (p : List A) (fits : at + length p ≤ length d) where
  pub put_fits : after_put d at p ≡ placed d at p
  put_fits = rw (le-leb _ _ fits)

  -- the buffer is as long as it was; p stands at its place, and before and behind it what stood there
  pub length_placed : length (placed d at p) ≡ length d
  unfolding placed
  length_placed = simp (length-append, length-take, length-drop) (omega arith)

-- at the start
pub placed_start : {A : Type 0} (d p : List A) → placed d 0 p ≡ p ++ drop (length p) d
unfolding placed
placed_start d p = rw (zero-add (length p))

-- one run behind another is the two at once
module _ {A : Type 0} (d : List A) (at : ℕ) (p q : List A) (inside : at ≤ length d) where
  head_long : length (take at d ++ p) ≡ at + length p
  head_long = simp (length-append, length-take) (omega arith)

  pub placed_next : placed (placed d at p) (at + length p) q ≡ placed d at (p ++ q)
  unfolding placed
  placed_next =
      rw (← append_assoc (take at d) p (drop (at + length p) d), take_at (take at d ++ p) (drop (at + length p) d) (at + length p) head_long, ← drop-drop (length q) (at + length p), drop_at (take at d ++ p) (drop (at + length p) d) (at + length p) head_long)
      (simp (append_assoc, drop-drop, length-append, add_assoc))

-- a run behind what stands at the start, placed or put there, makes both stand there
module _ {A : Type 0} (d p q x y : List A) (at : ℕ) (e : x ≡ placed d 0 p) (n : at ≡ length p) where
  pub placed_behind : y ≡ placed x at q → y ≡ placed d 0 (p ++ q)
  placed_behind f = f ∙ rw (e, n) (rw zero-add at (placed_next d 0 p q (omega arith)))

  pub put_behind : length p + length q ≤ length d → y ≡ after_put x at q → y ≡ placed d 0 (p ++ q)
  put_behind l f =
      let m : length (placed d 0 p) ≡ length d = length_placed d 0 p (omega arith) in
      let k : at + length q ≤ length x = rw (e, m) (omega arith) in placed_behind (f ∙ put_fits x at q k)

-- ---- the comparison
pub same_self : (a : List ℕ) → same_octets a a ≡ true
unfolding same_octets
same_self [] = refl
same_self (x ∷ a) = rw (eq-eqb x x refl) (same_self a)

pub same_true : (a b : List ℕ) → same_octets a b ≡ true → a ≡ b
unfolding same_octets
same_true [] [] e = refl
same_true [] (y ∷ b) e = let z : ◌≡◌ {A = ℕ} 0 1 = cc in absurd (omega arith)
same_true (x ∷ a) [] e = let z : ◌≡◌ {A = ℕ} 0 1 = cc in absurd (omega arith)
same_true (x ∷ a) (y ∷ b) e =
    let (h, t) = both (eqb x y) (same_octets a b) e in
    let p : x ≡ y = eqb-true x y h in
    let q : a ≡ b = same_true a b t in cc

pub same_false : (a b : List ℕ) → same_octets a b ≡ false → a ≡ b → ⊥
same_false a b e p = clash (same_octets a b) (subst (λ (c : List ℕ). same_octets a c ≡ true) p (same_self a)) e
