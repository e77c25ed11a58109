-- A log that is the same as a well-formed record passes the test of logs, and has at most 15 entries for each slot: 75 with five.
use Rattle.std.specs.Prelude.{ℕ, zero, suc, ◌+◌, ◌-◌, ◌*◌, ◌≤◌, ◌<◌, ◌≡◌, refl, Bool, true, false, not, cond, ◌&&◌, ◌||◌, List, [], ◌∷◌, length, eqb, ltb}
use Rattle.std.proofs.Common.{sym, ap, ◌∙◌, arith, suc-mul, eqb-true, eq-eqb, ne_eqb, lt-ltb, ltb-true, le-leb}
use Rattle.std.proofs.Math.Option.{some}
use Rattle.octets.specs.Tests as tests
use Rattle.octets.specs.Tests.{clash, both, same?}
use Rattle.types.specs.declared.Kind.{Kind}
use Rattle.types.specs.declared.Slot.{Slot}
use Rattle.arrival.specs.Message.{most_parts}
use Rattle.arrival.specs.Keys.{length_fits}
use Rattle.slots.specs.Below.{all_below, count_below}
use Rattle.slots.specs.BelowLaws.{all_at, any_at, count_mono, count_below_lem, count_at_most, count_one, count_same}
use Rattle.slots.specs.RankLaws.{rank_bound, ranks_differ, has_rank, some_rank}
use Rattle.slots.specs.FrontLaws.{same_key_lem, key_same}
use Rattle.slots.specs.Slots.{slot_at, held_at, same_key}
use Rattle.formed.specs.Formed.{most_beats, mark_at, size_at, held_count}
use Rattle.formed.specs.Laws.{Formed, UsedSlot, slot_count, number_told}
use Rattle.series.specs.PartLaws.{total_bounds}
use Rattle.plain.specs.Entries.{Entry}
use Rattle.plain.specs.Log as log
use Rattle.plain.specs.Log.{first_entry, is_some, has_entry, is_part, of_slot, without}
use Rattle.plain.specs.Engine.{entry_fits, against, rank_fits, lacks_one, entry_formed, all_of, none_twice, log_formed}
use Rattle.plain.specs.Same.{All, nil, cons, Once, once_none, once_more, Fits, SameLog}
use Rattle.plain.specs.Walks.{has_none, all_weaker, all_only}
use Rattle.plain.specs.Copies.{used_at, has_part, has_rank_lem, not_of}

all_of_lem : (P : Entry → Type 0) (p : Entry → Bool) (l : List Entry) → All P l → ((e : Entry) → P e → p e ≡ true) → all_of p l ≡ true
unfolding all_of
all_of_lem P p [] nil f = refl
all_of_lem P p (x ∷ l) (cons h t) f = rw (f x h, all_of_lem P p l t f)

none_twice_lem : (l : List Entry) → Once l → none_twice l ≡ true
unfolding none_twice
none_twice_lem [] once_none = refl
none_twice_lem (x ∷ l) (once_more h t) = rw (h, none_twice_lem l t)

module _ (n : ℕ) (k : Kind) (xs : List Slot) (cells : List ℕ) (l : List Entry) (w : Formed n k xs) (h : SameLog n xs cells l) where
  abbrev rank_of : ℕ → ℕ
  rank_of j = (slot_at xs j).rank

  -- ---- each entry passes
  module _ (e : Entry) (f : Fits n xs cells e) where
    abbrev x : Slot
    x = slot_at xs e.slot

    pub series_of : UsedSlot k x
    series_of = used_at n k xs cells l w h e.slot f.inside (omega (arith, f.rank, f.used))

    most : e.total ≤ most_parts
    most = (total_bounds e.key e.total (rw (f.key, f.total) at series_of.total)).1

    mark : ltb (e.number - 1) x.total && length_fits x.key (e.number - 1 + 1) (size_at x (e.number - 1)) ≡ true
    mark = simp f.held at (series_of.parts (e.number - 1) (omega (arith, f.low, f.high)))

    entry_fits_lem : entry_fits n k e ≡ true
    entry_fits_lem =
        let (a, b) = both (ltb (e.number - 1) x.total) (length_fits x.key (e.number - 1 + 1) (size_at x (e.number - 1))) mark in
        let m : e.number - 1 + 1 ≡ e.number = omega (arith, f.low) in
        let b₁ : length_fits x.key e.number (size_at x (e.number - 1)) ≡ true = rw m at b in
        let b' : length_fits e.key e.number e.size ≡ true = rw (← f.key, ← f.size) b₁ in
        let r : e.rank ≤ n = omega (arith, f.rank, rank_bound n rank_of w.ranks e.slot f.inside, count_at_most n (has_rank rank_of)) in
        let c : e.beats ≤ most_beats = omega (arith, f.beats, slot_count k x (w.slots e.slot f.inside) (omega (arith, f.rank, f.used))) in
        rw (
          lt-ltb e.slot n f.inside,
          lt-ltb 0 e.rank f.used,
          le-leb e.rank n r,
          le-leb e.beats most_beats c,
          rw f.key at series_of.key,
          rw (f.key, f.total) at series_of.total,
          lt-ltb 0 e.number f.low,
          le-leb e.number e.total (omega (arith, ltb-true (e.number - 1) x.total a, f.total)),
          b',
        )

    alone : has_entry (against e) l ≡ false
    alone = has_none (Fits n xs cells) (against e) l h.each (λ y g t. go y g (same? y.slot e.slot) t)
      where
        go : (y : Entry) → Fits n xs cells y → tests.Same y.slot e.slot → against e y ≡ true → ⊥
        go y g (tests.same q p) t =
            let a : y.key ≡ e.key = sym g.key ∙ ap (λ (j : ℕ). (slot_at xs j).key) p ∙ f.key in
            let b : y.total ≡ e.total = sym g.total ∙ ap (λ (j : ℕ). (slot_at xs j).total) p ∙ f.total in
            let c : y.rank ≡ e.rank = sym g.rank ∙ ap (λ (j : ℕ). (slot_at xs j).rank) p ∙ f.rank in
            let d : y.beats ≡ e.beats = sym g.beats ∙ ap (λ (j : ℕ). (slot_at xs j).beats) p ∙ f.beats in
            clash (against e y) t (rw (q, eq-eqb y.rank e.rank c, eq-eqb y.beats e.beats d, key_same y.key e.key a, eq-eqb y.total e.total b))
        go y g (tests.other q p) t = by (same_key y.key e.key) refl (eqb y.rank e.rank) refl (ltb y.rank e.rank && ltb e.beats y.beats) refl (simp q at t)
          where
            by : (a : Bool) → same_key y.key e.key ≡ a → (b : Bool) → eqb y.rank e.rank ≡ b → (c : Bool) → ltb y.rank e.rank && ltb e.beats y.beats ≡ c → a || b || c ≡ true → ⊥
            by true a b c d v z =
                p (w.keys y.slot e.slot g.inside f.inside (omega (arith, g.rank, g.used)) (omega (arith, f.rank, f.used)) (g.key ∙ same_key_lem y.key e.key a ∙ sym f.key))
            by false a true c d v z =
                p (ranks_differ n rank_of w.ranks y.slot e.slot g.inside f.inside (omega (arith, f.rank, f.used)) (g.rank ∙ eqb-true y.rank e.rank c ∙ sym f.rank))
            by false a false c true v z =
                let (m, o) = both (ltb y.rank e.rank) (ltb e.beats y.beats) v in
                let m' : y.rank < e.rank = ltb-true y.rank e.rank m in
                let o' : e.beats < y.beats = ltb-true e.beats y.beats o in
                let s = w.counts y.slot e.slot g.inside f.inside (omega (arith, g.rank, g.used)) (omega (arith, g.rank, f.rank)) in
                omega (arith, g.beats, f.beats)
            by false a false c false v z = clash false z refl

    rank_fits_lem : rank_fits l e ≡ true
    rank_fits_lem = go (same? e.rank 1)
      where
        go : tests.Same e.rank 1 → rank_fits l e ≡ true
        go (tests.same q p) = rw q
        go (tests.other q p) =
            let b = rank_bound n rank_of w.ranks e.slot f.inside in
            let (j, m, z) = any_at n (λ j. eqb (rank_of j) (e.rank - 2 + 1))
            (all_at (count_below n (has_rank rank_of)) (λ r. some_rank n rank_of (r + 1)) w.ranks (e.rank - 2) (omega (arith, f.rank, f.used))) in
            rw (q, has_rank_lem n k xs cells l w h j (e.rank - 1) m (omega (arith, f.used)) (eqb-true (rank_of j) (e.rank - 2 + 1) z ∙ omega (arith, f.used)))

    lacks_one_lem : lacks_one l e ≡ true
    lacks_one_lem = go (all_below e.total (λ j. has_entry (is_part e.slot (j + 1)) l)) refl
      where
        go : (b : Bool) → all_below e.total (λ j. has_entry (is_part e.slot (j + 1)) l) ≡ b → not b ≡ true
        go false q = refl
        go true q =
            let m = count_mono most_parts (λ i. ltb i e.total) (mark_at x) (λ i o z.
            let v : i + 1 - 1 ≡ i = omega arith in
            let y : held_at x (i + 1) ≡ true = sym (has_part n k xs cells l w h e.slot (i + 1) f.inside (omega arith) (omega arith)) ∙ all_at e.total (λ j. has_entry (is_part e.slot (j + 1)) l) q i (ltb-true i e.total z) in
            rw v at y) in
            absurd (omega (arith, m, count_below_lem most_parts e.total most, series_of.more, f.total))

    entry_formed_lem : entry_formed n k l e ≡ true
    entry_formed_lem = rw (entry_fits_lem, alone, rank_fits_lem, lacks_one_lem)

  pub log_formed_lem : log_formed n k l ≡ true
  unfolding log_formed
  log_formed_lem = rw (number_told n w.low w.high, all_of_lem (Fits n xs cells) (entry_formed n k l) l h.each entry_formed_lem, none_twice_lem l h.once)

-- ---- how many entries
-- those of slot i, and the others
unfoldable pub count_slot : ℕ → List Entry → ℕ
count_slot i [] = 0
count_slot i (e ∷ l) = cond (of_slot i e) (suc (count_slot i l)) (count_slot i l)

split_off : (i : ℕ) (l : List Entry) → length l ≡ length (without i l) + count_slot i l
unfolding log.only count_slot
split_off i [] = refl
split_off i (e ∷ l) = go (of_slot i e) (split_off i l)
  where
    go : (b : Bool) → length l ≡ length (without i l) + count_slot i l
        → suc (length l) ≡ length (cond (not b) (e ∷ without i l) (without i l)) + cond b (suc (count_slot i l)) (count_slot i l)
    go true ih = omega arith
    go false ih = omega arith

fewer : (i j : ℕ) (l : List Entry) → count_slot i (without j l) ≤ count_slot i l
unfolding log.only count_slot
fewer i j [] = omega arith
fewer i j (e ∷ l) = go (not (of_slot j e)) (of_slot i e) refl (fewer i j l)
  where
    go : (b c : Bool) → of_slot i e ≡ c → count_slot i (without j l) ≤ count_slot i l → count_slot i (cond b (e ∷ without j l) (without j l)) ≤ cond c (suc (count_slot i l)) (count_slot i l)
    go true true q ih = rw q (omega arith)
    go true false q ih = rw q ih
    go false true q ih = omega arith
    go false false q ih = ih

pub none_of : (i : ℕ) (l : List Entry) → All (λ e. e.slot ≡ i → ⊥) l → count_slot i l ≡ 0
unfolding count_slot
none_of i [] nil = refl
none_of i (x ∷ l) (cons h t) = rw (ne_eqb x.slot i h) (none_of i l t)

pub by_slots : (m b : ℕ) (l : List Entry) → All (λ e. e.slot < m) l → ((i : ℕ) → i < m → count_slot i l ≤ b) → length l ≤ m * b
by_slots zero b [] nil f = omega arith
by_slots zero b (x ∷ l) (cons h t) f = absurd (omega arith)
by_slots (suc m) b l a f =
    let ih = by_slots m b (without m l)
    (all_weaker (λ e. (e.slot < suc m) × (not (of_slot m e) ≡ true)) (λ e. e.slot < m) (without m l) (all_only (λ e. e.slot < suc m) (λ e. not (of_slot m e)) l a) (λ e p. below e p.0 (not_of m e p.1)))
    (λ i o. le_trans (fewer i m l) (f i (omega arith))) in
    step (length l) (length (without m l)) (count_slot m l) (split_off m l) ih (f m (omega arith))
  where
    below : (e : Entry) → e.slot < suc m → (e.slot ≡ m → ⊥) → e.slot < m
    below e p q = omega arith

    le_trans : {a b c : ℕ} → a ≤ b → b ≤ c → a ≤ c
    le_trans p q = omega arith

    step : (x y z : ℕ) → x ≡ y + z → y ≤ m * b → z ≤ b → x ≤ suc m * b
    step x y z p q r = rw (suc-mul m b) (omega arith)

-- the entries of a slot are no more than its parts
pub by_numbers : (i : ℕ) (l : List Entry) → All (λ e. (1 ≤ e.number) × (e.number ≤ most_parts)) l → Once l → count_slot i l ≤ count_below most_parts (λ j. has_entry (is_part i (j + 1)) l)
unfolding first_entry count_slot
by_numbers i [] nil once_none = omega arith
by_numbers i (e ∷ l) (cons (a, b) t) (once_more h o) = go (same? e.slot i) (by_numbers i l t o)
  where
    go : tests.Same e.slot i → count_slot i l ≤ count_below most_parts (λ j. has_entry (is_part i (j + 1)) l)
        → cond (of_slot i e) (suc (count_slot i l)) (count_slot i l) ≤ count_below most_parts (λ j. is_some (cond (of_slot i e && eqb e.number (j + 1)) (some e) (first_entry (is_part i (j + 1)) l)))
    go (tests.other q p) ih = simp q ih
    go (tests.same q p) ih =
        let v : e.number - 1 + 1 ≡ e.number = omega arith in
        let c : count_below most_parts (λ j. is_some (cond (eqb e.number (j + 1)) (some e) (first_entry (is_part i (j + 1)) l))) ≡ suc (count_below most_parts (λ j. has_entry (is_part i (j + 1)) l)) =
        count_one most_parts (λ j. has_entry (is_part i (j + 1)) l) (λ j. is_some (cond (eqb e.number (j + 1)) (some e) (first_entry (is_part i (j + 1)) l))) (e.number - 1) (omega arith)
        (rw (v, ← p) h) (rw (eq-eqb e.number (e.number - 1 + 1) (omega arith))) (λ j l ne. rw (ne_eqb e.number (j + 1) (λ z. ne (omega arith)))) in
        simp q (omega arith)

module _ (n : ℕ) (k : Kind) (xs : List Slot) (cells : List ℕ) (l : List Entry) (w : Formed n k xs) (h : SameLog n xs cells l) where
  few : (i : ℕ) → i < n → count_slot i l ≤ 15
  few i inside = go (same? (slot_at xs i).rank 0)
    where
      marks : count_below most_parts (λ j. has_entry (is_part i (j + 1)) l) ≡ held_count (slot_at xs i)
      marks =
          count_same most_parts (mark_at (slot_at xs i)) (λ j. has_entry (is_part i (j + 1)) l)
          (λ j m. let v : j + 1 - 1 ≡ j = omega arith in has_part n k xs cells l w h i (j + 1) inside (omega arith) (omega arith) ∙ rw v)

      at_most : count_slot i l ≤ held_count (slot_at xs i)
      at_most =
          let b = by_numbers i l (all_weaker (Fits n xs cells) (λ e. (1 ≤ e.number) × (e.number ≤ most_parts)) l h.each (λ e f. (f.low, f.high))) h.once in omega (arith, b, marks)

      go : tests.Same (slot_at xs i).rank 0 → count_slot i l ≤ 15
      go (tests.same q p) =
          omega (arith, none_of i l (all_weaker (Fits n xs cells) (λ e. e.slot ≡ i → ⊥) l h.each (λ e f z. omega (arith, f.rank, f.used, ap (λ (j : ℕ). (slot_at xs j).rank) z))))
      go (tests.other q p) =
          let u = used_at n k xs cells l w h i inside (omega arith) in
          omega (arith, at_most, u.more, (total_bounds (slot_at xs i).key (slot_at xs i).total u.total).1)

  pub entry_room : length l ≤ n * 15
  entry_room = by_slots n 15 l (all_weaker (Fits n xs cells) (λ e. e.slot < n) l h.each (λ e f. f.inside)) few
