-- What each test of a record comes to, told of what it reads: one law for each return, call and turn of a loop. What is read is a variable here, with
-- the equation that says what it is, so whoever reads a slot in another form tests it by the same laws.
use Rattle.std.specs.Prelude.{ℕ, ◌+◌, ◌-◌, ◌≤◌, ◌<◌, ◌≡◌, Bool, ◌&&◌, ◌||◌, List, length, ltb}
use Rattle.std.proofs.Math.Path.{refl, ap}
use Rattle.std.proofs.Common.{sym, ◌∙◌}
use Rattle.std.proofs.Math.Bool.{true, false, not, cond}
use Rattle.std.proofs.Math.Dec.{eqb, leb}
use native.Mathlib.Omega.{arith}
use borrow.Author.Tests.{eq-eqb, ne_eqb, eqb-true, ltb-true, ltb-false, leb-true, le-leb, lt-leb}
use Rattle.octets.specs.Tests.{both, by_test}
use Rattle.types.specs.declared.Kind.{Kind}
use Rattle.types.specs.declared.Key.{Key}
use Rattle.arrival.specs.Message.{most_parts}
use Rattle.arrival.specs.Page.{page_content}
use Rattle.arrival.specs.Keys.{of_pages, key_formed, total_fits, length_fits}
use Rattle.types.specs.declared.Slot.{Slot}
use Rattle.types.specs.declared.Record.{Record}
use Rattle.slots.specs.Below.{all_below}
use Rattle.slots.specs.BelowLaws.{all_same, all_both, fault_from, fault_more, fault_through, all_but_first, all_from, all_more, all_through, any_from, any_more, any_through, count_from, count_more, count_through}
use Rattle.slots.specs.Slots.{most_slots, slot_at, used, is_free, same_key}
use Rattle.formed.specs.Formed.{sixteen, mark_at, size_at, zero_key, zero_part, all_zero, part_formed, held_count, used_formed, slot_formed, most_beats, key_twice, keys_differ, count_ahead, in_step, counts_follow, used_count, is_rank, ranked, slots_formed, record_formed}
use Rattle.formed.specs.Laws.{number_tells}
use Rattle.formed.specs.Pieces.{fewest, most, part_within, slot_holds, slots_hold, pair_apart, apart_before, slots_apart}

-- ---- a part: a fault is what is not so
pub zero_wrong : (x : Slot) (i : ℕ) (h : Bool) (n : ℕ) → h ≡ mark_at x i → n ≡ size_at x i → (h || not (eqb n 0)) ≡ not (zero_part x i)
zero_wrong x i h n p q = rw (p, q) (go (mark_at x i) (eqb (size_at x i) 0))
  where
    go : (h z : Bool) → (h || not z) ≡ not (not h && z)
    go true z = refl
    go false z = refl

pub part_wrong : (x : Slot) (i low high total : ℕ) (h : Bool) (n : ℕ) (k : Key) → k ≡ x.key → low ≡ fewest k → high ≡ most k 2 → total ≡ x.total
    → h ≡ mark_at x i → n ≡ size_at x i
    → ((h && (leb total i || ltb n low || ltb high n)) || (not h && not (eqb n 0))) ≡ not (part_within x i)
part_wrong x i low high total h n k c e f t p q =
    rw (e, f, t, p, q, c) (go (mark_at x i) x.total (size_at x i) (fewest x.key) (most x.key 2))
  where
    turn : (a b c : Bool) → ((not a || b || c) || false) ≡ not (a && (not b && not c))
    turn true true c = refl
    turn true false true = refl
    turn true false false = refl
    turn false b c = refl

    outside : (a b : ℕ) → leb a b ≡ not (ltb b a)
    outside a b = by_test (ltb b a) (λ t. rw t (lt-leb a b (ltb-true b a t))) (λ t. rw t (le-leb a b (ltb-false b a t)))

    go : (h : Bool) (t n l m : ℕ) → ((h && (leb t i || ltb n l || ltb m n)) || (not h && not (eqb n 0))) ≡ not (cond h (ltb i t && (leb l n && leb n m)) (eqb n 0))
    go true t n l m = rw (outside t i, outside l n, outside n m) (turn (ltb i t) (ltb n l) (ltb m n))
    go false t n l m = refl

-- ---- the parts: the bounds of the later ones for all, and part 1 by itself
pub agree : (a b : Bool) → (a ≡ true → b ≡ true) → (b ≡ true → a ≡ true) → a ≡ b
agree true b f g = sym (f refl)
agree false true f g = g refl
agree false false f g = refl

-- a test e that tells two bounds of n
between : (t e : Bool) (n l m : ℕ) → (e ≡ true → (l ≤ n) × (n ≤ m)) → (l ≤ n → n ≤ m → e ≡ true) → t && e ≡ t && (leb l n && leb n m)
between true e n l m f g =
    agree e (leb l n && leb n m) (λ p. rw (le-leb l n (f p).0, le-leb n m (f p).1))
    (λ p. let (q, r) = both (leb l n) (leb n m) p in g (leb-true l n q) (leb-true n m r))
between false e n l m f g = refl

-- a test that follows from another beside it says nothing more
implied : (a b : Bool) → (a ≡ true → b ≡ true) → a ≡ a && b
implied true b h = sym (h refl)
implied false b h = refl

module _ (x : Slot) where
  abbrev key : Key
  key = x.key

  first_part : part_formed x 0 ≡ part_within x 0 && leb (size_at x 0) (most key 1)
  unfolding length_fits
  first_part = go (mark_at x 0) (of_pages key) (eqb key.width 16) (size_at x 0) (ltb 0 x.total)
    where
      go : (h p w : Bool) (n : ℕ) (t : Bool)
          → cond h (t && cond p (eqb n page_content) (leb n (cond w 133 134 - 2))) (eqb n 0)
          ≡ cond h (t && (leb (cond p page_content 0) n && leb n (cond p page_content (cond w 133 134 - 0)))) (eqb n 0) && leb n (cond p page_content (cond w 133 134 - 2))
      go true p w n false = refl
      go true true w n true =
          agree (eqb n page_content) ((leb page_content n && leb n page_content) && leb n page_content)
          (λ q. let e = eqb-true n page_content q in rw (le-leb page_content n (omega arith), le-leb n page_content (omega arith)))
          (λ q. let (a, b) = both (leb page_content n && leb n page_content) (leb n page_content) q in eq-eqb n page_content (omega (arith, leb-true page_content n (both (leb page_content n) (leb n page_content) a).0, leb-true n page_content b)))
      go true false true n true =
          agree (leb n 131) ((leb 0 n && leb n 133) && leb n 131)
          (λ q. let e = leb-true n 131 q in rw (le-leb 0 n (omega arith), le-leb n 133 (omega arith), q))
          (λ q. (both (leb 0 n && leb n 133) (leb n 131) q).1)
      go true false false n true =
          agree (leb n 132) ((leb 0 n && leb n 134) && leb n 132)
          (λ q. let e = leb-true n 132 q in rw (le-leb 0 n (omega arith), le-leb n 134 (omega arith), q))
          (λ q. (both (leb 0 n && leb n 134) (leb n 132) q).1)
      go false p w n t =
          implied (eqb n 0) (leb n (cond p page_content (cond w 133 134 - 2))) (λ q. let e = eqb-true n 0 q in le-leb n (cond p page_content (cond w 133 134 - 2)) (omega arith))

  later_part : (i : ℕ) → 0 < i → part_formed x i ≡ part_within x i
  unfolding length_fits
  later_part i l = rw (ne_eqb (i + 1) 1 (λ e. omega arith)) (go (mark_at x i) (of_pages key) (eqb key.width 16) (size_at x i) (ltb i x.total))
    where
      go : (h p w : Bool) (n : ℕ) (t : Bool)
          → cond h (t && cond p (eqb n page_content) (leb n (cond w 133 134 - 0))) (eqb n 0)
          ≡ cond h (t && (leb (cond p page_content 0) n && leb n (cond p page_content (cond w 133 134 - 0)))) (eqb n 0)
      go true true w n t = between t (eqb n page_content) n page_content page_content (λ p. let e = eqb-true n page_content p in (omega arith, omega arith)) (λ a b. eq-eqb n page_content (omega arith))
      go true false w n t = between t (leb n (cond w 133 134 - 0)) n 0 (cond w 133 134 - 0) (λ p. (omega arith, leb-true n (cond w 133 134 - 0) p)) (λ a b. le-leb n (cond w 133 134 - 0) b)
      go false p w n t = refl

  pub parts_told : (a : Bool) (m n : ℕ) (k : Key) → a ≡ all_below most_parts (part_within x) → k ≡ x.key → m ≡ most k 1 → n ≡ size_at x 0
      → a && leb n m ≡ all_below most_parts (part_formed x)
  parts_told a m n k e c f g = rw (e, f, g, c) (sym (all_but_first 15 (part_formed x) (part_within x) (leb (size_at x 0) (most key 1)) first_part later_part))

-- ---- slots
pub zero_told : (x : Slot) (a b : Bool) (t n : ℕ) (c : Key) → c ≡ x.key → a ≡ zero_key c → b ≡ all_below most_parts (zero_part x) → t ≡ x.total → n ≡ x.beats
    → a && eqb t 0 && eqb n 0 && b ≡ all_zero x
unfolding all_zero
zero_told x a b t n c o e f g h = rw (e, f, g, h, o)

module _ (k : Kind) (x : Slot) where
  pub used_told : (a b c : Bool) (m t n : ℕ) (o : Key) → o ≡ x.key → t ≡ x.total → n ≡ x.beats → a ≡ key_formed k o → b ≡ total_fits o t
      → c ≡ all_below most_parts (part_formed x) → m ≡ held_count x
      → a && b && c && ltb 0 m && ltb m t && leb n most_beats ≡ used_formed k x
  unfolding used_formed
  used_told a b c m t n o eo et en p q r s = rw (p, q, r, s, eo, et, en)

  module _ (b : Bool) (lengths : length x.lengths ≡ most_parts) (marks : length x.held ≡ most_parts) where
    sixteen_told : sixteen x ≡ true
    sixteen_told = rw (eq-eqb (length x.lengths) most_parts lengths, eq-eqb (length x.held) most_parts marks)

    pub slot_free : (r : ℕ) → eqb r 0 ≡ true → r ≡ x.rank → b ≡ all_zero x → b ≡ slot_formed k x
    unfolding slot_formed
    slot_free r z o e = rw (sixteen_told, ap (λ (q : ℕ). eqb q 0) (sym o) ∙ z) e

    pub slot_used : (r : ℕ) → eqb r 0 ≡ false → r ≡ x.rank → b ≡ used_formed k x → b ≡ slot_formed k x
    unfolding slot_formed
    slot_used r z o e = rw (sixteen_told, ap (λ (q : ℕ). eqb q 0) (sym o) ∙ z) e

-- ---- two slots
module _ (x y : Slot) (p q : ℕ) (e : p ≡ x.rank) (f : q ≡ y.rank) where
  pub twice_told : (a b : Key) (same : Bool) → a ≡ x.key → b ≡ y.key → same ≡ same_key a b
      → not (eqb p 0) && not (eqb q 0) && same ≡ used x && used y && same_key x.key y.key
  twice_told a b same g h o = rw (e, f, o, g, h)

  pub ahead_told : (m n : ℕ) → m ≡ x.beats → n ≡ y.beats → not (eqb p 0) && ltb p q && ltb n m ≡ count_ahead x y
  ahead_told m n g h = rw (e, f, g, h)

pub pair_told : (x y : Slot) (a b c : Bool) → a ≡ (used x && used y && same_key x.key y.key) → b ≡ count_ahead x y → c ≡ count_ahead y x
    → not a && (not b && not c) ≡ pair_apart x y
pair_told x y a b c e f g = rw (e, f, g)

-- ---- the record
module _ (xs : List Slot) where
  -- two tests of each pair at once
  both_apart : (n : ℕ) → slots_apart n xs ≡ keys_differ n xs && counts_follow n xs
  unfolding keys_differ counts_follow
  both_apart n =
      all_same n (apart_before xs) (λ i. all_below i (λ j. not (key_twice xs i j)) && all_below i (in_step xs i)) (λ i l. all_both i (λ j. not (key_twice xs i j)) (in_step xs i))
      ∙ all_both n (λ i. all_below i (λ j. not (key_twice xs i j))) (λ i. all_below i (in_step xs i))

  pub ranked_told : (n m r : ℕ) (ok : Bool) → m ≡ used_count n xs → ok ≡ all_below r (λ r. is_rank n xs (r + 1)) → r ≤ m → m ≤ r
      → ok ≡ ranked n xs
  unfolding ranked
  ranked_told n m r ok c e l h = rw (← c) (all_through (λ r. is_rank n xs (r + 1)) r m l h ok e)

  pub slot_more : (n m i r : ℕ) (k : Kind) (ok b : Bool) → m ≡ n → ok ≡ all_below i (slot_holds n k xs) → b ≡ slot_formed k (slot_at xs i) → r ≡ (slot_at xs i).rank
      → ok && (b && (ltb i m || eqb r 0)) ≡ all_below (i + 1) (slot_holds n k xs)
  slot_more n m i r k ok b o e f g = all_more (slot_holds n k xs) i ok _ e (rw (o, f, g))

pub record_formed_told : (r : Record) (a b c : Bool) → (not (eqb r.count 0) && not (ltb most_slots r.count)) ≡ true → length r.slots ≡ most_slots
    → a ≡ slots_hold r.count r.kind r.slots → b ≡ slots_apart r.count r.slots → c ≡ ranked r.count r.slots
    → a && b && c ≡ record_formed r.count r
unfolding slots_formed
record_formed_told r a b c t l p q s =
    let each : ℕ → Bool = λ i. slot_formed r.kind (slot_at r.slots i) in
    let free : ℕ → Bool = λ i. ltb i r.count || is_free (slot_at r.slots i) in
    rw (eq-eqb r.count r.count refl, t, eq-eqb (length r.slots) most_slots l, p, q, s, all_both most_slots each free, both_apart r.slots r.count)
    (turn (all_below most_slots each && all_below most_slots free) (keys_differ r.count r.slots) (counts_follow r.count r.slots) (ranked r.count r.slots))
  where
    turn : (a k f d : Bool) → a && (k && f) && d ≡ a && k && d && f
    turn true true true true = refl
    turn true true true false = refl
    turn true true false true = refl
    turn true true false false = refl
    turn true false f d = refl
    turn false k f d = refl

pub number_inside : (n : ℕ) → (not (eqb n 0) && not (ltb most_slots n)) ≡ true → n ≤ most_slots
number_inside n t = (number_tells n t).1

pub not_formed : (r : Record) → (not (eqb r.count 0) && not (ltb most_slots r.count)) ≡ false → false ≡ record_formed r.count r
unfolding slots_formed
not_formed r t = rw (eq-eqb r.count r.count refl, t)

pub ruleset test_laws = (
  all_from,
  all_more,
  all_through,
  any_from,
  any_more,
  any_through,
  count_from,
  count_more,
  count_through,
  fault_from,
  fault_more,
  fault_through,
  zero_wrong,
  part_wrong,
  parts_told,
  zero_told,
  used_told,
  slot_free,
  slot_used,
  twice_told,
  ahead_told,
  pair_told,
  slot_more,
  not_formed,
  number_inside,
  ranked_told,
  record_formed_told,
)
