-- A used slot without one of its parts: with that part again it is the slot that it was, and without its only part it is a series just opened.
use Prim.Native.Nat.{ℕ, zero, suc, ◌+◌, ◌-◌, ◌≤◌, ◌<◌}
use mathlib.Core.Path.{◌≡◌, refl, sym, ap, ◌∙◌}
use mathlib.Core.Bool.{Bool, true, false, cond, ◌||◌}
use mathlib.Core.List.{List}
use native.Mathlib.Omega.{arith}
use lib.ListN.{length, get_or, set, length-set}
use lib.Seq.{get_or-set_same, get_or-set_other, ext_get_or}
use lib.Dec.{eqb, ltb}
use borrow.Author.Tests.{eqb-true, ne_eqb, ltb-true}
use Rattle.octets.specs.Tests.{clash, both, Same, same, other, same?, by_test}
use Rattle.types.specs.declared.Kind.{Kind}
use Rattle.types.specs.declared.Slot.{Slot}
use Rattle.arrival.specs.Message.{most_parts}
use Rattle.arrival.specs.Keys.{length_fits}
use Rattle.slots.specs.Below.{count_below}
use Rattle.slots.specs.BelowLaws.{all_at, count_one, count_less, count_mono, count_below_lem}
use Rattle.slots.specs.Slots.{opened, at_front, with_part}
use Rattle.formed.specs.Formed.{mark_at, size_at, part_formed, held_count}
use Rattle.formed.specs.Laws.{UsedSlot}
use Rattle.series.specs.Taking.{completes}
use Rattle.series.specs.PartLaws.{total_bounds}
use Rattle.formed.specs.SlotLaws.{same_slot, blank_lengths, blank_marks}

-- ---- counting
-- a test that counts none fails everywhere; one that counts some holds somewhere
pub none_holds : (n : ℕ) (f : ℕ → Bool) → count_below n f ≡ 0 → (i : ℕ) → i < n → f i ≡ false
none_holds n f z i l =
    by_test (f i) (λ t. absurd (omega (arith, count_less n (λ j. false) f (λ j m e. absurd (clash false e refl)) i l refl t))) (λ e. e)

pub some_holds : (n : ℕ) (f : ℕ → Bool) → 0 < count_below n f → (i : ℕ) × (i < n) × (f i ≡ true)
unfolding count_below
some_holds zero f l = absurd (omega arith)
some_holds (suc n) f l = go (some_holds n f) (f n) refl l
  where
    go : (0 < count_below n f → (i : ℕ) × (i < n) × (f i ≡ true)) → (b : Bool) → f n ≡ b → 0 < cond b (suc (count_below n f)) (count_below n f)
        → (i : ℕ) × (i < suc n) × (f i ≡ true)
    go ih true e m = (n, omega arith, e)
    go ih false e m = let (i, k, t) = ih m in (i, omega arith, t)

-- ---- without part p + 1
abbrev pub without : Slot → ℕ → Slot
without x p =
    record { rank = x.rank; beats = x.beats; key = x.key; total = x.total; lengths = set x.lengths p 0; held = set x.held p false }

module _ (k : Kind) (x : Slot) (w : UsedSlot k x) (p : ℕ) (l : p < most_parts) (held : mark_at x p ≡ true) where
  told : (ltb p x.total ≡ true) × (length_fits x.key (p + 1) (size_at x p) ≡ true)
  told = both (ltb p x.total) (length_fits x.key (p + 1) (size_at x p)) (simp held at (w.parts p l))

  pub below_total : p < x.total
  below_total = ltb-true p x.total told.0

  pub length_fits_lem : length_fits x.key (suc p) (size_at x p) ≡ true
  length_fits_lem = let e : suc p ≡ p + 1 = omega arith in rw e told.1

  pub mark_gone : mark_at (without x p) p ≡ false
  mark_gone = get_or-set_same x.held p false false (omega (arith, w.marks))

  mark_else : (i : ℕ) → (i ≡ p → ⊥) → mark_at (without x p) i ≡ mark_at x i
  mark_else i ne = get_or-set_other x.held p i false false ne

  pub one_less : held_count x ≡ suc (held_count (without x p))
  one_less = count_one most_parts (mark_at (without x p)) (mark_at x) p l mark_gone held (λ i m ne. sym (mark_else i ne))

  parts_without : (i : ℕ) → i < most_parts → Same i p → part_formed (without x p) i ≡ true
  parts_without i m (same e q) =
      let a : mark_at (without x p) i ≡ false = ap (mark_at (without x p)) q ∙ mark_gone in
      let b : size_at (without x p) i ≡ 0 = ap (size_at (without x p)) q ∙ get_or-set_same x.lengths p 0 0 (omega (arith, w.lengths)) in
      rw (a, b)
  parts_without i m (other e ne) = rw (mark_else i ne, get_or-set_other x.lengths p i 0 0 ne) (w.parts i m)

  -- with another part it stays well formed
  pub without_used : 1 < held_count x → UsedSlot k (without x p)
  without_used two = record {
    key = w.key;
    total = w.total;
    parts = λ i m. parts_without i m (same? i p);
    some = omega (arith, one_less);
    more = omega (arith, one_less, w.more);
    lengths = length-set x.lengths p 0 ∙ w.lengths;
    marks = length-set x.held p false ∙ w.marks;
  }

  -- the part brought again
  set_back : {A : Type 0} (d z : A) (xs : List A) → p < length xs → set (set xs p z) p (get_or xs p d) ≡ xs
  set_back d z xs m =
      ext_get_or d (set (set xs p z) p (get_or xs p d)) xs (length-set (set xs p z) p (get_or xs p d) ∙ length-set xs p z) (λ i h. go i (same? i p))
    where
      go : (i : ℕ) → Same i p → get_or (set (set xs p z) p (get_or xs p d)) i d ≡ get_or xs i d
      go i (same e q) =
          ap (λ (j : ℕ). get_or (set (set xs p z) p (get_or xs p d)) j d) q
          ∙ get_or-set_same (set xs p z) p (get_or xs p d) d (omega (arith, length-set xs p z)) ∙ ap (λ (j : ℕ). get_or xs j d) (sym q)
      go i (other e ne) = get_or-set_other (set xs p z) p i (get_or xs p d) d ne ∙ get_or-set_other xs p i z d ne

  pub with_again : with_part (without x p) (suc p) (size_at x p) ≡ x
  with_again =
      let e : suc p - 1 ≡ p = omega arith in
      same_slot (with_part (without x p) (suc p) (size_at x p)) x refl refl refl refl
      (rw e (set_back 0 0 x.lengths (omega (arith, w.lengths))))
      (rw e (ap (λ (b : Bool). set (set x.held p false) p b) (sym held) ∙ set_back false false x.held (omega (arith, w.marks))))

  -- its only part: what is left at the front is a series just opened
  pub only_part : held_count x ≡ 1 → at_front (without x p) ≡ at_front (opened x.key x.total)
  only_part one =
      let none = none_holds most_parts (mark_at (without x p)) (omega (arith, one_less)) in
      same_slot (at_front (without x p)) (at_front (opened x.key x.total)) refl refl refl refl
      (blank_lengths (without x p) (length-set x.lengths p 0 ∙ w.lengths)
      (λ i m. eqb-true (size_at (without x p) i) 0 (simp (none i m) at (parts_without i m (same? i p)))))
      (blank_marks (without x p) (length-set x.held p false ∙ w.marks) none)

  -- the part does not complete the series: it holds as many as its total then
  pub not_complete_lem : completes (without x p) (suc p) ≡ false
  not_complete_lem = by_test (completes (without x p) (suc p)) (λ t. absurd (full (all_at x.total (λ i. eqb (i + 1) (suc p) || mark_at (without x p) i) t))) (λ e. e)
    where
      full : ((i : ℕ) → i < x.total → eqb (i + 1) (suc p) || mark_at (without x p) i ≡ true) → ⊥
      full f =
          let most : x.total ≤ most_parts = (total_bounds x.key x.total w.total).1 in
          let all : count_below most_parts (λ i. ltb i x.total) ≤ held_count x =
          count_mono most_parts (λ i. ltb i x.total) (mark_at x) (λ i m t. go i (ltb-true i x.total t) (same? i p)) in
          omega (arith, count_below_lem most_parts x.total most, w.more)
        where
          go : (i : ℕ) → i < x.total → Same i p → mark_at x i ≡ true
          go i m (same e q) = ap (mark_at x) q ∙ held
          go i m (other e ne) =
              let n : eqb (i + 1) (suc p) ≡ false = ne_eqb (i + 1) (suc p) (λ q. ne (omega arith)) in
              sym (mark_else i ne) ∙ (simp n at (f i m))
