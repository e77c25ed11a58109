-- Ranks: what `aged` does to a rank, and that coming to the front keeps it so that each of 1 to m is a rank where m slots are used. Said of a
-- rank for each place, whatever the slots hold besides.
use Rattle.std.specs.Prelude.{ℕ, zero, suc, ◌+◌, ◌≤◌, ◌<◌, ◌≡◌, Bool, not, ltb}
use Rattle.std.proofs.Math.Path.{refl, ap}
use Rattle.std.proofs.Common.{sym, ◌∙◌, arith}
use Rattle.std.proofs.Math.Bool.{true, false}
use Rattle.std.proofs.Math.Dec.{eqb}
use borrow.Author.Tests.{ltb-true, ltb-false}
use Rattle.octets.specs.Tests.{Same, same, other, same?}
use Rattle.slots.specs.Below.{count_below}
use Rattle.slots.specs.BelowLaws.{all_hold, count_same, count_one}
use Rattle.slots.specs.Slots.{aged}
use Rattle.slots.specs.RankLaws.{has_rank, some_rank, Ranked, taken_pos, Aged, free, moves, yields, stays, place, found}

-- ---- what `aged` does to a rank
pub aged? : (r q : ℕ) → Aged r q
unfolding aged
aged? r q = go (same? q 0) (same? r 0) (ltb q r) refl
  where
    go : Same q 0 → Same r 0 → (b : Bool) → ltb q r ≡ b → Aged r q
    go (same e p) s b l = free p (rw e p)
    go (other e p) (same f z) b l = yields (omega arith) z (rw (e, f))
    go (other e p) (other f z) true l = moves (omega arith) z (ltb-true q r l) (rw (e, f, l))
    go (other e p) (other f z) false l = stays (omega arith) (omega arith) (ltb-false q r l) (rw (e, f, l))

pub aged_taken : (r q : ℕ) → not (eqb (aged r q) 0) ≡ not (eqb q 0)
aged_taken r q = go (aged? r q)
  where
    go : Aged r q → not (eqb (aged r q) 0) ≡ not (eqb q 0)
    go (free p e) = rw (e, p)
    go (moves u z l e) = taken_pos (aged r q) (omega arith) ∙ sym (taken_pos q u)
    go (yields u z e) = taken_pos (aged r q) (omega arith) ∙ sym (taken_pos q u)
    go (stays u z l e) = rw e

-- ---- coming to the front
module _ (n : ℕ) (rank : ℕ → ℕ) (w : Ranked n rank) (i : ℕ) (inside : i < n) (rank' : ℕ → ℕ) where
  pub front_ranked : rank' i ≡ 1 → ((j : ℕ) → j < n → (j ≡ i → ⊥) → rank' j ≡ aged (rank i) (rank j)) → Ranked n rank'
  front_ranked here there = all_hold (count_below n (has_rank rank')) (λ r. some_rank n rank' (r + 1)) each
    where
      same_taken : (j : ℕ) → j < n → (j ≡ i → ⊥) → has_rank rank' j ≡ has_rank rank j
      same_taken j l ne = rw (there j l ne) (aged_taken (rank i) (rank j))

      taken_here : has_rank rank' i ≡ true
      taken_here = rw here

      by_place : (j : ℕ) → j < n → Same j i → 0 < rank i → has_rank rank' j ≡ has_rank rank j
      by_place j l (same e p) u = ap (has_rank rank') p ∙ taken_here ∙ sym (ap (has_rank rank) p ∙ taken_pos (rank i) u)
      by_place j l (other e p) u = same_taken j l p

      -- how many are used now
      old_count : 0 < rank i → count_below n (has_rank rank') ≡ count_below n (has_rank rank)
      old_count u = count_same n (has_rank rank) (has_rank rank') (λ j l. by_place j l (same? j i) u)

      new_count : rank i ≡ 0 → count_below n (has_rank rank') ≡ suc (count_below n (has_rank rank))
      new_count z = count_one n (has_rank rank) (has_rank rank') i inside (rw z) taken_here same_taken

      -- the place of rank q before is that of rank r + 1 now
      now_at : (r q : ℕ) → (j : ℕ) × (j < n) × (rank j ≡ q) → (rank i ≡ q → ⊥) → aged (rank i) q ≡ r + 1 → some_rank n rank' (r + 1) ≡ true
      now_at r q (j, l, e) ne g = found n rank w i inside rank' r j l (there j l (λ p. ne (ap rank (sym p) ∙ e)) ∙ ap (aged (rank i)) e ∙ g)

      before : (q : ℕ) → q < count_below n (has_rank rank) → (j : ℕ) × (j < n) × (rank j ≡ suc q)
      before q l = let a = place n rank w i inside rank' q l in (a.0, a.1, omega (arith, a.2))

      next : (k : ℕ) → suc k < count_below n (has_rank rank') → Aged (rank i) (suc k) → Aged (rank i) (suc (suc k)) → some_rank n rank' (suc k + 1) ≡ true
      next k l (free p e) b = absurd (omega arith)
      next k l (moves u z m e) b = now_at (suc k) (suc k) (before k (omega (arith, old_count (omega arith)))) (λ q. omega arith) (omega arith)
      next k l (yields u z e) b = now_at (suc k) (suc k) (before k (omega (arith, new_count z))) (λ q. omega arith) (omega arith)
      next k l (stays u z m e) (stays u' z' m' e') = now_at (suc k) (suc (suc k)) (before (suc k) (omega (arith, old_count z))) (λ q. omega arith) (omega arith)
      next k l (stays u z m e) (free p e') = absurd (omega arith)
      next k l (stays u z m e) (moves u' z' m' e') = absurd (omega arith)
      next k l (stays u z m e) (yields u' z' e') = absurd (omega arith)

      each : (r : ℕ) → r < count_below n (has_rank rank') → some_rank n rank' (r + 1) ≡ true
      each zero l = found n rank w i inside rank' 0 i inside here
      each (suc k) l = next k l (aged? (rank i) (suc k)) (aged? (rank i) (suc (suc k)))

-- ---- ranks keep their order
pub aged_mono : (r p q : ℕ) → p ≤ q → aged r p ≤ aged r q
aged_mono r p q l = go (aged? r p) (aged? r q)
  where
    go : Aged r p → Aged r q → aged r p ≤ aged r q
    go (free a e) b = omega arith
    go (moves a z m e) (free b f) = omega arith
    go (moves a z m e) (moves b y h f) = omega arith
    go (moves a z m e) (yields b y f) = absurd (z y)
    go (moves a z m e) (stays b y h f) = omega arith
    go (yields a z e) (free b f) = omega arith
    go (yields a z e) (moves b y h f) = absurd (y z)
    go (yields a z e) (yields b y f) = omega arith
    go (yields a z e) (stays b y h f) = omega arith
    go (stays a z m e) (free b f) = omega arith
    go (stays a z m e) (moves b y h f) = omega arith
    go (stays a z m e) (yields b y f) = omega arith
    go (stays a z m e) (stays b y h f) = omega arith
