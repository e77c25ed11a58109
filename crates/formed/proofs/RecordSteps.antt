-- What the proofs on a record as a whole cite: the loop over its slots and over the pairs of each, its ranks, and that slots past its own, which are
-- free, change neither.
use Prim.Native.Nat.{ℕ, zero, suc, ◌+◌, ◌-◌, ◌*◌, ◌≤◌, ◌<◌}
use mathlib.Core.Path.{◌≡◌, refl, sym, ap, ◌∙◌}
use mathlib.Core.Bool.{Bool, true, false, not, cond, ◌&&◌, ◌||◌, and-true}
use mathlib.Core.List.{List}
use native.Mathlib.Omega.{arith}
use lib.ListN.{length}
use lib.Dec.{eqb, ltb}
use borrow.Author.Tests.{eq-eqb, ne_eqb, eqb-true, ltb-true, ltb-false, le-ltb}
use Rattle.octets.specs.Tests.{both, by_test, Same, same, other, same?}
use Rattle.types.specs.declared.Kind.{Kind}
use Rattle.types.specs.declared.Slot.{Slot}
use Rattle.types.specs.declared.Record.{Record}
use Rattle.slots.specs.Below.{all_below, any_below, count_below}
use Rattle.slots.specs.BelowLaws.{all_at, all_hold, all_same, all_more, all_through, all_up_to, count_more}
use Rattle.slots.specs.Slots.{most_slots, slot_at, used, is_free}
use Rattle.formed.specs.Formed.{slot_formed, used_count, is_rank, ranked, record_formed}
use Rattle.formed.specs.Laws.{number_tells}
use Rattle.formed.specs.Pieces.{slot_holds, slots_hold, pair_apart, pair_holds, apart_before, slots_apart, five_of, gapless}
use Rattle.formed.specs.TestLaws.{record_formed_told}
use Rattle.formed.proofs.Steps.{formed_steps}

-- ---- a free slot beside others
free_beside : (x y : Slot) → x.rank ≡ 0 → pair_apart x y ≡ true
free_beside x y f = rw (eq-eqb x.rank 0 f, le-ltb y.rank x.rank (omega arith)) (never (used y) (ltb x.beats y.beats))
  where
    never : (a b : Bool) → not (a && false && b) ≡ true
    never true b = refl
    never false b = refl

free_before : (xs : List Slot) (i j : ℕ) → (slot_at xs i).rank ≡ 0 → all_below j (pair_holds xs i) ≡ true
free_before xs i j e = all_hold j (pair_holds xs i) (λ k l. free_beside (slot_at xs i) (slot_at xs k) e)

-- ---- the loop over slots and pairs
module _ (n : ℕ) (k : Kind) (xs : List Slot) where
  -- the slots before i, the pairs of these, and those of slot i with each before j
  abbrev pub held_before : ℕ → ℕ → Bool
  held_before i j = all_below i (slot_holds n k xs) && (all_below i (apart_before xs) && all_below j (pair_holds xs i))

  pub hold_starts : true ≡ held_before 0 0
  unfolding all_below
  hold_starts = refl

  pub hold_pair : (i j : ℕ) (ok b : Bool) → ok ≡ held_before i j → b ≡ pair_holds xs i j → ok && b ≡ held_before i (j + 1)
  hold_pair i j ok b e f =
      ap (λ (t : Bool). t && b) e ∙ go (all_below i (slot_holds n k xs)) (all_below i (apart_before xs)) (all_more (pair_holds xs i) j (all_below j (pair_holds xs i)) b refl f)
    where
      go : (s t : Bool) → all_below j (pair_holds xs i) && b ≡ all_below (j + 1) (pair_holds xs i)
          → (s && (t && all_below j (pair_holds xs i))) && b ≡ s && (t && all_below (j + 1) (pair_holds xs i))
      go true true h = h
      go true false h = refl
      go false t h = refl

  -- with all its pairs looked at, or if it is free
  all_pairs : (i j : ℕ) → j ≤ i → (ltb j i && not (eqb (slot_at xs i).rank 0)) ≡ false → all_below j (pair_holds xs i) ≡ apart_before xs i
  all_pairs i j l e =
      by_test (eqb (slot_at xs i).rank 0)
      (λ t. let z = eqb-true (slot_at xs i).rank 0 t in free_before xs i j z ∙ sym (free_before xs i i z))
      (λ t. let m : i ≤ j = ltb-false j i (sym (and-true (ltb j i)) ∙ ap (λ (q : Bool). ltb j i && not q) (sym t) ∙ e) in let s : j ≡ i = omega arith in ap (λ (q : ℕ). all_below q (pair_holds xs i)) s)

  none_begun : (i : ℕ) → all_below i (apart_before xs) ≡ all_below i (apart_before xs) && all_below 0 (pair_holds xs i)
  unfolding all_below
  none_begun i = sym (and-true (all_below i (apart_before xs)))

  pub hold_slot : (i j m r : ℕ) (ok b : Bool) → ok ≡ held_before i j → j ≤ i → (ltb j i && not (eqb r 0)) ≡ false → r ≡ (slot_at xs i).rank → m ≡ n
      → b ≡ slot_formed k (slot_at xs i) → ok && (b && (ltb i m || eqb r 0)) ≡ held_before (i + 1) 0
  hold_slot i j m r ok b e l none q o f =
      let g : b && (ltb i m || eqb r 0) ≡ slot_holds n k xs i = rw (o, f, q) in
      let h : all_below j (pair_holds xs i) ≡ apart_before xs i = all_pairs i j l (rw q at none) in
      ap (λ (t : Bool). t && (b && (ltb i m || eqb r 0))) e ∙ ap (λ (t : Bool). held_before i j && t) g ∙ ap (λ (t : Bool). (all_below i (slot_holds n k xs) && (all_below i (apart_before xs) && t)) && slot_holds n k xs i) h
      ∙ turn (all_below i (slot_holds n k xs)) (all_below i (apart_before xs)) (apart_before xs i) (slot_holds n k xs i)
      ∙ ap (λ (t : Bool). t && (all_below i (apart_before xs) && apart_before xs i)) (all_more (slot_holds n k xs) i (all_below i (slot_holds n k xs)) (slot_holds n k xs i) refl refl)
      ∙ ap (λ (t : Bool). all_below (i + 1) (slot_holds n k xs) && t) (all_more (apart_before xs) i (all_below i (apart_before xs)) (apart_before xs i) refl refl ∙ none_begun (i + 1))
    where
      turn : (a b c d : Bool) → (a && (b && c)) && d ≡ (a && d) && (b && c)
      turn true true true true = refl
      turn true true true false = refl
      turn true true false true = refl
      turn true true false false = refl
      turn true false c true = refl
      turn true false c false = refl
      turn false b c d = refl

  pub hold_ends : (i j : ℕ) (ok : Bool) → ok ≡ held_before i j → i ≤ most_slots → most_slots ≤ i → j ≤ (most_slots - i) * 5
      → ok ≡ (slots_hold n k xs && slots_apart most_slots xs)
  unfolding all_below
  hold_ends i j ok e l h none =
      let s : i ≡ most_slots = omega arith in
      let z : j ≡ 0 = omega arith in
      e ∙ ap (λ (q : ℕ). held_before i q) z ∙ ap (λ (q : ℕ). held_before q 0) s ∙ ap (λ (t : Bool). slots_hold n k xs && t) (and-true (slots_apart most_slots xs))

-- a pair is left to look at
module _ (i j r : ℕ) (t : (ltb j i && not (eqb r 0)) ≡ true) where
  below : j < i
  below = ltb-true j i (both (ltb j i) (not (eqb r 0)) t).0

  pub pair_within : j + 1 ≤ i
  pair_within = omega (arith, below)

  pub pair_begun : i < most_slots → j + 1 ≤ (most_slots - i) * 5
  pair_begun l = omega (arith, below)

  pub pair_less : (most_slots - i) * 6 + (i - (j + 1)) < (most_slots - i) * 6 + (i - j)
  pair_less = omega (arith, below)

-- ---- ranks
module _ (a b c d e : ℕ) where
  abbrev five : ℕ → ℕ
  five = five_of a b c d e

  pub five_used : (p q r s t : ℕ) → p ≡ cond (not (eqb a 0)) 1 0 → q ≡ cond (not (eqb b 0)) 1 0 → r ≡ cond (not (eqb c 0)) 1 0 → s ≡ cond (not (eqb d 0)) 1 0
      → t ≡ cond (not (eqb e 0)) 1 0 → p + q + r + s + t ≡ count_below most_slots (λ i. not (eqb (five i) 0))
  unfolding count_below
  five_used p q r s t f g h i j =
      let one : p ≡ count_below 1 (λ i. not (eqb (five i) 0)) = f in
      let more : (i m n : ℕ) → m ≡ count_below i (λ i. not (eqb (five i) 0)) → n ≡ cond (not (eqb (five i) 0)) 1 0 → m + n ≡ count_below (i + 1) (λ i. not (eqb (five i) 0)) = count_more (λ i. not (eqb (five i) 0)) in
      more 4 _ t (more 3 _ s (more 2 _ r (more 1 p q one g) h) i) j

  pub five_more : (r : ℕ) (ok : Bool) → ok ≡ all_below r (λ r. any_below most_slots (λ i. eqb (five i) (r + 1)))
      → ok && (eqb a (r + 1) || eqb b (r + 1) || eqb c (r + 1) || eqb d (r + 1) || eqb e (r + 1)) ≡ all_below (r + 1) (λ r. any_below most_slots (λ i. eqb (five i) (r + 1)))
  unfolding any_below
  five_more r ok f = all_more (λ r. any_below most_slots (λ i. eqb (five i) (r + 1))) r ok _ f refl

  pub five_gapless : (m r : ℕ) (ok : Bool) → m ≡ count_below most_slots (λ i. not (eqb (five i) 0)) → ok ≡ all_below r (λ r. any_below most_slots (λ i. eqb (five i) (r + 1)))
      → r ≤ m → m ≤ r → ok ≡ gapless five
  five_gapless m r ok c f l h = rw (← c) (all_through (λ r. any_below most_slots (λ i. eqb (five i) (r + 1))) r m l h ok f)

pub five_ranked : (xs : List Slot) (a b c d e : ℕ) (g : Bool) → a ≡ (slot_at xs 0).rank → b ≡ (slot_at xs 1).rank → c ≡ (slot_at xs 2).rank → d ≡ (slot_at xs 3).rank
    → e ≡ (slot_at xs 4).rank → g ≡ gapless (five_of a b c d e) → g ≡ ranked most_slots xs
unfolding ranked any_below count_below
five_ranked xs a b c d e g p q r s t h = rw (p, q, r, s, t) at h

-- ---- slots past the record's own
module _ (n : ℕ) (f : ℕ → Bool) where
  count_rest : (m : ℕ) → n ≤ m → ((i : ℕ) → n ≤ i → i < m → f i ≡ false) → count_below m f ≡ count_below n f
  unfolding count_below
  count_rest zero l h = let z : n ≡ 0 = omega arith in rw z
  count_rest (suc m) l h = go (λ k. count_rest m k (λ i a b. h i a (omega arith))) (same? n (suc m))
    where
      go : (n ≤ m → count_below m f ≡ count_below n f) → Same n (suc m) → count_below (suc m) f ≡ count_below n f
      go ih (same p q) = ap (λ (k : ℕ). count_below k f) (sym q)
      go ih (other p q) = rw (h m (omega arith) (omega arith)) (ih (omega arith))

  any_rest : (m : ℕ) → n ≤ m → ((i : ℕ) → n ≤ i → i < m → f i ≡ false) → any_below m f ≡ any_below n f
  unfolding any_below
  any_rest zero l h = let z : n ≡ 0 = omega arith in rw z
  any_rest (suc m) l h = go (λ k. any_rest m k (λ i a b. h i a (omega arith))) (same? n (suc m))
    where
      or-false : (b : Bool) → b || false ≡ b
      or-false true = refl
      or-false false = refl

      go : (n ≤ m → any_below m f ≡ any_below n f) → Same n (suc m) → any_below (suc m) f ≡ any_below n f
      go ih (same p q) = ap (λ (k : ℕ). any_below k f) (sym q)
      go ih (other p q) = rw (h m (omega arith) (omega arith)) (or-false (any_below m f) ∙ ih (omega arith))

module _ (n : ℕ) (k : Kind) (xs : List Slot) (few : n ≤ most_slots) (hold : slots_hold n k xs ≡ true) where
  past_free : (i : ℕ) → n ≤ i → i < most_slots → (slot_at xs i).rank ≡ 0
  past_free i l m =
      let t : ltb i n || is_free (slot_at xs i) ≡ true = (both (slot_formed k (slot_at xs i)) (ltb i n || is_free (slot_at xs i)) (all_at most_slots (slot_holds n k xs) hold i m)).1 in
      eqb-true (slot_at xs i).rank 0 (sym (ap (λ (b : Bool). b || is_free (slot_at xs i)) (le-ltb i n l)) ∙ t)

  apart_own : slots_apart most_slots xs ≡ slots_apart n xs
  apart_own =
      all_same most_slots (apart_before xs) (λ i. not (ltb i n) || apart_before xs i)
      (λ i m. by_test (ltb i n) (λ t. rw t) (λ t. rw t (free_before xs i i (past_free i (ltb-false i n t) m))))
      ∙ all_up_to most_slots n (apart_before xs) few

  ranked_own : ranked most_slots xs ≡ ranked n xs
  unfolding ranked
  ranked_own =
      ap (λ (m : ℕ). all_below m (λ r. is_rank most_slots xs (r + 1))) (count_rest n (λ i. used (slot_at xs i)) most_slots few (λ i l m. rw (eq-eqb (slot_at xs i).rank 0 (past_free i l m))))
      ∙ all_same (used_count n xs) (λ r. is_rank most_slots xs (r + 1)) (λ r. is_rank n xs (r + 1))
      (λ r h. any_rest n (λ i. eqb (slot_at xs i).rank (r + 1)) most_slots few (λ i l m. other_rank (slot_at xs i).rank r (past_free i l m)))
    where
      other_rank : (q r : ℕ) → q ≡ 0 → eqb q (r + 1) ≡ false
      other_rank q r e = ne_eqb q (r + 1) (λ f. omega arith)

-- a record of 1 to 5 slots
pub whole_told : (r : Record) (a b : Bool) → (not (eqb r.count 0) && not (ltb most_slots r.count)) ≡ true → length r.slots ≡ most_slots
    → a ≡ (slots_hold r.count r.kind r.slots && slots_apart most_slots r.slots) → b ≡ ranked most_slots r.slots → a && b ≡ record_formed r.count r
whole_told r a b t l p q =
    rw (p, q)
    (by_test (slots_hold r.count r.kind r.slots)
    (λ h. let few = (number_tells r.count t).1 in rw (apart_own r.count r.kind r.slots few h, ranked_own r.count r.kind r.slots few h) own)
    (λ h. rw h (rw h at own)))
  where
    own : slots_hold r.count r.kind r.slots && slots_apart r.count r.slots && ranked r.count r.slots ≡ record_formed r.count r
    own = record_formed_told r _ _ _ t l refl refl refl

pub ruleset record_steps = (formed_steps, hold_starts, hold_pair, hold_slot, hold_ends, pair_within, pair_begun, pair_less, five_used, five_more, five_gapless, five_ranked, whole_told)
