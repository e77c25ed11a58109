-- What is written twice: octets at two places of a list, a slot that comes to the front again; and which parts of a slot are missing.
use Prim.Native.Nat.{ℕ, zero, suc, ◌+◌, ◌≤◌, ◌<◌}
use mathlib.Core.Path.{◌≡◌, refl, sym, ap, ◌∙◌}
use mathlib.Core.Bool.{Bool, true, false, ◌||◌}
use mathlib.Core.List.{List, [], ◌∷◌, map}
use native.Mathlib.Omega.{arith}
use lib.ListN.{length, set, take, drop, length-drop, take-append-drop}
use lib.Seq.{set-set, length-take-le, drop-drop}
use lib.Dec.{eqb}
use borrow.Author.Tests.{ne_eqb, eqb-false}
use Rattle.octets.specs.Octets.{placed}
use Rattle.octets.specs.Tests.{clash, neither}
use Rattle.types.specs.declared.Slot.{Slot}
use Rattle.slots.specs.Below.{all_below}
use Rattle.slots.specs.BelowLaws.{all_at, all_fails}
use Rattle.slots.specs.Slots.{slot_at, at_front, aged, aged_slot, to_front}
use Rattle.slots.specs.RankLaws.{Aged, free, moves, yields, stays}
use Rattle.slots.proofs.AgedLaws.{aged?}
use Rattle.slots.specs.FrontLaws.{front_here}
use Rattle.formed.specs.Formed.{mark_at}
use Rattle.series.specs.Taking.{completes}

-- ---- octets at two places apart, in either order; and those that stand there
placed_suc : (z : ℕ) (d : List ℕ) (p : ℕ) (a : List ℕ) → placed (z ∷ d) (suc p) a ≡ z ∷ placed d p a
unfolding placed
placed_suc z d p a = let e : suc p + length a ≡ suc (p + length a) = omega arith in rw e

placed_over : (z y : ℕ) (d a : List ℕ) → placed (z ∷ d) 0 (y ∷ a) ≡ y ∷ placed d 0 a
unfolding placed
placed_over z y d a = let e : 0 + suc (length a) ≡ suc (0 + length a) = omega arith in rw e

placed_none : (d : List ℕ) → placed d 0 [] ≡ d
unfolding placed
placed_none d = refl

pub placed_apart : (d : List ℕ) (p : ℕ) (a : List ℕ) (q : ℕ) (b : List ℕ) → p + length a ≤ q → q + length b ≤ length d
    → placed (placed d p a) q b ≡ placed (placed d q b) p a
placed_apart d zero [] q b l h = rw (placed_none d, placed_none (placed d q b))
placed_apart [] zero (y ∷ a) q b l h = absurd (omega arith)
placed_apart (z ∷ d) zero (y ∷ a) zero b l h = absurd (omega arith)
placed_apart (z ∷ d) zero (y ∷ a) (suc q) b l h =
    rw (placed_over z y d a, placed_suc y (placed d 0 a) q b, placed_suc z d q b, placed_over z y (placed d q b) a)
    (ap (λ (r : List ℕ). y ∷ r) (placed_apart d zero a q b (omega arith) (omega arith)))
placed_apart [] (suc p) a q b l h = absurd (omega arith)
placed_apart (z ∷ d) (suc p) a zero b l h = absurd (omega arith)
placed_apart (z ∷ d) (suc p) a (suc q) b l h =
    rw (placed_suc z d p a, placed_suc z (placed d p a) q b, placed_suc z d q b, placed_suc z (placed d q b) p a)
    (ap (λ (r : List ℕ). z ∷ r) (placed_apart d p a q b (omega arith) (omega arith)))

pub placed_there : (d : List ℕ) (at n : ℕ) → at + n ≤ length d → placed d at (take n (drop at d)) ≡ d
unfolding placed
placed_there d at n l =
    let e : length (take n (drop at d)) ≡ n = length-take-le n (drop at d) (simp length-drop (omega arith)) in
    rw (e, ← drop-drop n at d, take-append-drop n (drop at d)) (take-append-drop at d)

-- ---- a slot that comes to the front twice
aged_one : (q : ℕ) → aged 1 q ≡ q
aged_one q = go (aged? 1 q)
  where
    go : Aged 1 q → aged 1 q ≡ q
    go (free p e) = e ∙ sym p
    go (moves u z l e) = absurd (omega arith)
    go (yields u z e) = absurd (omega arith)
    go (stays u z l e) = e

all_still : (xs : List Slot) → map (aged_slot 1) xs ≡ xs
all_still [] = refl
all_still (x ∷ xs) = rw (aged_one x.rank, all_still xs)

front_again : (xs : List Slot) (i : ℕ) (z : Slot) → (slot_at xs i).rank ≡ 1 → to_front xs i z ≡ set xs i (at_front z)
unfolding to_front
front_again xs i z e = rw (e, all_still xs)

front_set : (xs : List Slot) (i : ℕ) (y z : Slot) → set (to_front xs i y) i (at_front z) ≡ to_front xs i z
unfolding to_front
front_set xs i y z = set-set (map (aged_slot (slot_at xs i).rank) xs) i (at_front y) (at_front z)

pub front_more : (xs : List Slot) (i : ℕ) (y z v : Slot) → i < length xs → at_front v ≡ at_front z → to_front (to_front xs i y) i v ≡ to_front xs i z
front_more xs i y z v l e =
    front_again (to_front xs i y) i v (ap (λ (x : Slot). x.rank) (front_here xs i y l)) ∙ ap (set (to_front xs i y) i) e ∙ front_set xs i y z

-- ---- parts that are missing
fails : (t : ℕ) (f : ℕ → Bool) (i : ℕ) → i < t → f i ≡ false → all_below t f ≡ false
fails t f i l e = go (all_below t f) refl
  where
    go : (b : Bool) → all_below t f ≡ b → b ≡ false
    go true q = absurd (clash (f i) (all_at t f q i l) e)
    go false q = refl

-- place i, of a part of another number than a, is empty
pub record Missing (x : Slot) (a : ℕ) : Type 0 where
  pub place : ℕ
  pub below : place < x.total
  pub empty : mark_at x place ≡ false
  pub apart : place + 1 ≡ a → ⊥

pub missing_told : (x : Slot) (a : ℕ) → completes x a ≡ false → Missing x a
missing_told x a e =
    let (i, l, f) = all_fails x.total (λ i. eqb (i + 1) a || mark_at x i) e in
    let (p, q) = neither (eqb (i + 1) a) (mark_at x i) f in
    record { place = i; below = l; empty = q; apart = eqb-false (i + 1) a p }

pub missing_open : (x : Slot) (a : ℕ) → Missing x a → completes x a ≡ false
missing_open x a m = fails x.total (λ i. eqb (i + 1) a || mark_at x i) m.place m.below (rw (ne_eqb (m.place + 1) a m.apart) m.empty)
