-- A well-formed record, clause by clause; and that coming to the front, keeping a part and freeing leave it well formed.
use Rattle.std.specs.Prelude.{ℕ, ◌≤◌, ◌<◌, ◌≡◌, refl, Bool, true, false, not, cond, ◌&&◌, ◌||◌, List, length, eqb, ltb, leb}
use Rattle.std.proofs.Common.{sym, ap, ◌∙◌, arith, eqb-true, eq-eqb, ne_eqb, ltb-true, ltb-false, lt-ltb, le-ltb, leb-true, le-leb}
use Rattle.std.proofs.lemmas.List.{length-replicate, get_or-replicate}
use Rattle.std.proofs.lemmas.Bool.{not-true, not-false}
use Rattle.octets.specs.Tests.{clash, both, Same, same, other, same?}
use Rattle.types.specs.declared.Kind.{Kind}
use Rattle.arrival.specs.Message.{most_parts}
use Rattle.arrival.specs.Keys.{key_formed, total_fits}
use Rattle.types.specs.declared.Slot.{Slot}
use Rattle.slots.specs.Below.{all_below, count_below}
use Rattle.slots.specs.BelowLaws.{all_at, all_hold, count_zero}
use Rattle.slots.specs.Slots.{most_slots, is_slot_number, slot_at, free_slot, used, is_free, same_key, at_rank, at_front, aged, closed, to_front, freed, fresh_record}
use Rattle.formed.specs.Formed as rule
use Rattle.formed.specs.Formed.{most_beats, part_formed, held_count, used_formed, all_zero, slot_formed, keys_differ, ranked, count_ahead, in_step, counts_follow, slots_formed}
use Rattle.slots.specs.RankLaws.{Ranked, pos_taken, closed_taken, closed_mono, free_ranked}
use Rattle.slots.proofs.AgedLaws.{aged_taken, aged_mono, front_ranked}
use Rattle.slots.specs.FrontLaws.{front_here, front_there, front_length, freed_here, freed_there, freed_length, same_key_lem, key_same}

used_pos : (x : Slot) → 0 < x.rank → used x ≡ true
used_pos x l = rw (ne_eqb x.rank 0 (λ e. omega arith))

-- ---- a used slot
pub record UsedSlot (k : Kind) (x : Slot) : Type 0 where
  pub key : key_formed k x.key ≡ true
  pub total : total_fits x.key x.total ≡ true
  pub parts : (i : ℕ) → i < most_parts → part_formed x i ≡ true
  pub some : 0 < held_count x
  pub more : held_count x < x.total
  pub lengths : length x.lengths ≡ most_parts
  pub marks : length x.held ≡ most_parts

-- its count of beats
used_counted : (k : Kind) (x : Slot) → used_formed k x ≡ true
    → ((key_formed k x.key && total_fits x.key x.total && all_below most_parts (part_formed x) && ltb 0 (held_count x) && ltb (held_count x) x.total) ≡ true) × (x.beats ≤ most_beats)
unfolding used_formed
used_counted k x e =
    let (f, c) = both (key_formed k x.key && total_fits x.key x.total && all_below most_parts (part_formed x) && ltb 0 (held_count x) && ltb (held_count x) x.total) (leb x.beats most_beats) e in
    (f, leb-true x.beats most_beats c)

pub slot_count : (k : Kind) (x : Slot) → slot_formed k x ≡ true → 0 < x.rank → x.beats ≤ most_beats
unfolding slot_formed
slot_count k x e u = (used_counted k x (simp (used_pos x u) at (both (rule.sixteen x) (cond (used x) (used_formed k x) (all_zero x)) e).1)).1

pub slot_tells : (k : Kind) (x : Slot) → slot_formed k x ≡ true → 0 < x.rank → UsedSlot k x
unfolding slot_formed used_formed
slot_tells k x e u =
    let (s, f) = both (rule.sixteen x) (cond (used x) (used_formed k x) (all_zero x)) e in
    let (l, m) = both (eqb (length x.lengths) most_parts) (eqb (length x.held) most_parts) s in
    let g : used_formed k x ≡ true = simp (used_pos x u) at f in
    let (e₃, h₄) = both (key_formed k x.key && total_fits x.key x.total && all_below most_parts (part_formed x) && ltb 0 (held_count x)) (ltb (held_count x) x.total) (used_counted k x g).0 in
    let (e₂, h₃) = both (key_formed k x.key && total_fits x.key x.total && all_below most_parts (part_formed x)) (ltb 0 (held_count x)) e₃ in
    let (e₁, h₂) = both (key_formed k x.key && total_fits x.key x.total) (all_below most_parts (part_formed x)) e₂ in
    let (h₀, h₁) = both (key_formed k x.key) (total_fits x.key x.total) e₁ in
    record {
      key = h₀;
      total = h₁;
      parts = all_at most_parts (part_formed x) h₂;
      some = ltb-true 0 (held_count x) h₃;
      more = ltb-true (held_count x) x.total h₄;
      lengths = eqb-true (length x.lengths) most_parts l;
      marks = eqb-true (length x.held) most_parts m;
    }

pub slot_told : (k : Kind) (x : Slot) → 0 < x.rank → x.beats ≤ most_beats → UsedSlot k x → slot_formed k x ≡ true
unfolding slot_formed used_formed
slot_told k x u c w =
    rw (le-leb x.beats most_beats c, eq-eqb (length x.lengths) most_parts w.lengths, eq-eqb (length x.held) most_parts w.marks, used_pos x u, w.key, w.total, all_hold most_parts (part_formed x) w.parts, lt-ltb 0 (held_count x) w.some, lt-ltb (held_count x) x.total w.more)

-- at the front, whatever its rank and its count were
pub slot_front : (k : Kind) (x : Slot) → UsedSlot k x → slot_formed k (at_front x) ≡ true
slot_front k x w =
    slot_told k (at_front x) (omega arith) (omega arith)
    (record { key = w.key; total = w.total; parts = w.parts; some = w.some; more = w.more; lengths = w.lengths; marks = w.marks })

-- ---- the record
-- that it has 1 to 5 slots, of an array of five; the first n; and those past them
pub record Formed (n : ℕ) (k : Kind) (xs : List Slot) : Type 0 where
  pub low : 1 ≤ n
  pub high : n ≤ most_slots
  pub array : length xs ≡ most_slots
  pub slots : (i : ℕ) → i < n → slot_formed k (slot_at xs i) ≡ true
  pub keys : (i j : ℕ) → i < n → j < n → 0 < (slot_at xs i).rank → 0 < (slot_at xs j).rank → (slot_at xs i).key ≡ (slot_at xs j).key → i ≡ j
  pub ranks : Ranked n (λ i. (slot_at xs i).rank)
  pub counts : (i j : ℕ) → i < n → j < n → 0 < (slot_at xs i).rank → (slot_at xs i).rank < (slot_at xs j).rank → (slot_at xs i).beats ≤ (slot_at xs j).beats
  pub rest : (i : ℕ) → n ≤ i → i < most_slots → (slot_formed k (slot_at xs i) ≡ true) × ((slot_at xs i).rank ≡ 0)

-- a slot of the record is one of the array
pub array_holds : (n : ℕ) (k : Kind) (xs : List Slot) → Formed n k xs → n ≤ length xs
array_holds n k xs w = omega (arith, w.high, w.array)

pub number_tells : (n : ℕ) → is_slot_number n ≡ true → (1 ≤ n) × (n ≤ most_slots)
number_tells n e =
    let (a, b) = both (not (eqb n 0)) (not (ltb most_slots n)) e in (pos_taken n a, ltb-false most_slots n (not-true (ltb most_slots n) b))

pub number_told : (n : ℕ) → 1 ≤ n → n ≤ most_slots → is_slot_number n ≡ true
number_told n l h = rw (ne_eqb n 0 (λ e. omega arith), le-ltb most_slots n h)

pub formed_tells : (n : ℕ) (k : Kind) (xs : List Slot) → slots_formed n k xs ≡ true → Formed n k xs
unfolding slots_formed keys_differ ranked counts_follow
formed_tells n k xs e =
    let each : ℕ → Bool = λ i. slot_formed k (slot_at xs i) in
    let (e₅, h₆) = both (is_slot_number n && eqb (length xs) most_slots && all_below most_slots each && rule.rest_free n xs && keys_differ n xs && ranked n xs) (counts_follow n xs) e in
    let (e₄, h₅) = both (is_slot_number n && eqb (length xs) most_slots && all_below most_slots each && rule.rest_free n xs && keys_differ n xs) (ranked n xs) e₅ in
    let (e₃, h₄) = both (is_slot_number n && eqb (length xs) most_slots && all_below most_slots each && rule.rest_free n xs) (keys_differ n xs) e₄ in
    let (e₂, h₃) = both (is_slot_number n && eqb (length xs) most_slots && all_below most_slots each) (rule.rest_free n xs) e₃ in
    let (e₁, h₂) = both (is_slot_number n && eqb (length xs) most_slots) (all_below most_slots each) e₂ in
    let (h₀, h₁) = both (is_slot_number n) (eqb (length xs) most_slots) e₁ in
    let (low, high) = number_tells n h₀ in
    record {
      low = low;
      high = high;
      array = eqb-true (length xs) most_slots h₁;
      slots = λ i l. all_at most_slots each h₂ i (omega arith);
      keys = λ i j l m u v q. go h₄ i j l m u v q (ltb j i) refl (ltb i j) refl;
      ranks = h₅;
      counts = λ i j l m u v. behind h₆ i j l m u v (ltb j i) refl;
      rest = λ i l m. (all_at most_slots each h₂ i m, past i l (all_at most_slots (λ i. ltb i n || is_free (slot_at xs i)) h₃ i m));
    }
  where
    past : (i : ℕ) → n ≤ i → (ltb i n || is_free (slot_at xs i)) ≡ true → (slot_at xs i).rank ≡ 0
    past i l h = eqb-true (slot_at xs i).rank 0 (simp (le-ltb i n l) at h)

    -- a slot whose count is not ahead of another's
    not_ahead : (x y : Slot) → 0 < x.rank → x.rank < y.rank → not (count_ahead x y) ≡ true → x.beats ≤ y.beats
    not_ahead x y u v h = ltb-false y.beats x.beats (simp (used_pos x u, lt-ltb x.rank y.rank v) at (not-true (count_ahead x y) h))

    behind : counts_follow n xs ≡ true → (i j : ℕ) → i < n → j < n → 0 < (slot_at xs i).rank → (slot_at xs i).rank < (slot_at xs j).rank → (b : Bool) → ltb j i ≡ b
        → (slot_at xs i).beats ≤ (slot_at xs j).beats
    behind h i j l m u v true e =
        let a = all_at i (in_step xs i) (all_at n (λ i. all_below i (in_step xs i)) h i l) j (ltb-true j i e) in
        not_ahead (slot_at xs i) (slot_at xs j) u v (both (not (count_ahead (slot_at xs i) (slot_at xs j))) (not (count_ahead (slot_at xs j) (slot_at xs i))) a).0
    behind h i j l m u v false e = go' (same? i j)
      where
        go' : Same i j → (slot_at xs i).beats ≤ (slot_at xs j).beats
        go' (same f p) = absurd (omega (arith, ap (λ (o : ℕ). (slot_at xs o).rank) p))
        go' (other f p) =
            let a = all_at j (in_step xs j) (all_at n (λ i. all_below i (in_step xs i)) h j m) i (omega (arith, ltb-false j i e)) in
            not_ahead (slot_at xs i) (slot_at xs j) u v (both (not (count_ahead (slot_at xs j) (slot_at xs i))) (not (count_ahead (slot_at xs i) (slot_at xs j))) a).1

    -- a later slot with the key of an earlier one
    apart : keys_differ n xs ≡ true → (i j : ℕ) → i < n → j < i → 0 < (slot_at xs i).rank → 0 < (slot_at xs j).rank → (slot_at xs i).key ≡ (slot_at xs j).key → ⊥
    apart h i j l m u v q =
        let a : not (rule.key_twice xs i j) ≡ true = all_at i (λ j. not (rule.key_twice xs i j)) (all_at n (λ i. all_below i (λ j. not (rule.key_twice xs i j))) h i l) j m in
        clash (rule.key_twice xs i j) (rw (used_pos (slot_at xs i) u, used_pos (slot_at xs j) v, key_same (slot_at xs i).key (slot_at xs j).key q)) (not-true (rule.key_twice xs i j) a)

    go : keys_differ n xs ≡ true → (i j : ℕ) → i < n → j < n → 0 < (slot_at xs i).rank → 0 < (slot_at xs j).rank → (slot_at xs i).key ≡ (slot_at xs j).key
        → (a : Bool) → ltb j i ≡ a → (b : Bool) → ltb i j ≡ b → i ≡ j
    go h i j l m u v q true p b r = absurd (apart h i j l (ltb-true j i p) u v q)
    go h i j l m u v q false p true r = absurd (apart h j i m (ltb-true i j r) v u (sym q))
    go h i j l m u v q false p false r = omega (arith, ltb-false j i p, ltb-false i j r)

pub formed_told : (n : ℕ) (k : Kind) (xs : List Slot) → Formed n k xs → slots_formed n k xs ≡ true
unfolding slots_formed keys_differ ranked counts_follow
formed_told n k xs w =
    rw (
      number_told n w.low w.high,
      eq-eqb (length xs) most_slots w.array,
      all_hold most_slots (λ i. slot_formed k (slot_at xs i)) (λ i l. each i l (ltb i n) refl),
      all_hold most_slots (λ i. ltb i n || is_free (slot_at xs i)) (λ i l. past i l (ltb i n) refl),
      all_hold n (λ i. all_below i (λ j. not (rule.key_twice xs i j))) (λ i l. all_hold i (λ j. not (rule.key_twice xs i j)) (λ j m. differ i j l m (rule.key_twice xs i j) refl)),
      w.ranks,
    ) (all_hold n (λ i. all_below i (in_step xs i)) (λ i l. all_hold i (in_step xs i) (λ j m. in_step_lem i j l (omega arith))))
  where
    each : (i : ℕ) → i < most_slots → (b : Bool) → ltb i n ≡ b → slot_formed k (slot_at xs i) ≡ true
    each i l true e = w.slots i (ltb-true i n e)
    each i l false e = (w.rest i (ltb-false i n e) l).0

    past : (i : ℕ) → i < most_slots → (b : Bool) → ltb i n ≡ b → (b || is_free (slot_at xs i)) ≡ true
    past i l true e = refl
    past i l false e = eq-eqb (slot_at xs i).rank 0 (w.rest i (ltb-false i n e) l).1

    behind : (i j : ℕ) → i < n → j < n → (b : Bool) → count_ahead (slot_at xs i) (slot_at xs j) ≡ b → not b ≡ true
    behind i j l m false e = refl
    behind i j l m true e =
        let (a, c) = both (used (slot_at xs i) && ltb (slot_at xs i).rank (slot_at xs j).rank) (ltb (slot_at xs j).beats (slot_at xs i).beats) e in
        let (u, v) = both (used (slot_at xs i)) (ltb (slot_at xs i).rank (slot_at xs j).rank) a in
        let h = w.counts i j l m (pos_taken (slot_at xs i).rank u) (ltb-true (slot_at xs i).rank (slot_at xs j).rank v) in
        absurd (omega (arith, ltb-true (slot_at xs j).beats (slot_at xs i).beats c))

    in_step_lem : (i j : ℕ) → i < n → j < n → in_step xs i j ≡ true
    in_step_lem i j l m = rw (behind i j l m (count_ahead (slot_at xs i) (slot_at xs j)) refl, behind j i m l (count_ahead (slot_at xs j) (slot_at xs i)) refl)

    differ : (i j : ℕ) → i < n → j < i → (b : Bool) → rule.key_twice xs i j ≡ b → not b ≡ true
    differ i j l m false e = refl
    differ i j l m true e =
        let (u, q) = both (used (slot_at xs i) && used (slot_at xs j)) (same_key (slot_at xs i).key (slot_at xs j).key) e in
        let (a, b) = both (used (slot_at xs i)) (used (slot_at xs j)) u in
        let z : i ≡ j = w.keys i j l (omega arith) (pos_taken (slot_at xs i).rank a) (pos_taken (slot_at xs j).rank b) (same_key_lem (slot_at xs i).key (slot_at xs j).key q) in
        absurd (omega arith)

-- ---- a free slot, and a fresh record
pub free_slot_formed : (k : Kind) → slot_formed k free_slot ≡ true
unfolding slot_formed all_zero all_below
free_slot_formed k = refl

pub fresh_slot : (n : ℕ) (k : Kind) (i : ℕ) → i < most_slots → slot_at (fresh_record n k).slots i ≡ free_slot
fresh_slot n k i l = get_or-replicate most_slots i free_slot _ l

pub fresh_formed : (n : ℕ) (k : Kind) → 1 ≤ n → n ≤ most_slots → Formed n k (fresh_record n k).slots
fresh_formed n k low high = record {
  low = low;
  high = high;
  array = length-replicate most_slots free_slot;
  slots = λ i l. formed_there i (omega arith);
  keys = λ i j l m u v q. absurd (omega (arith, free i (omega arith)));
  ranks = all_hold (count_below n (λ i. used (slot_at (fresh_record n k).slots i))) _ (λ r l. absurd (omega (arith, none)));
  counts = λ i j l m u v. absurd (omega (arith, free i (omega arith)));
  rest = λ i l m. (formed_there i m, free i m);
}
  where
    free : (i : ℕ) → i < most_slots → (slot_at (fresh_record n k).slots i).rank ≡ 0
    free i l = ap (λ (x : Slot). x.rank) (fresh_slot n k i l)

    formed_there : (i : ℕ) → i < most_slots → slot_formed k (slot_at (fresh_record n k).slots i) ≡ true
    formed_there i l = rw (fresh_slot n k i l) (free_slot_formed k)

    none : count_below n (λ i. used (slot_at (fresh_record n k).slots i)) ≡ 0
    none = count_zero n (λ i. used (slot_at (fresh_record n k).slots i)) (λ i l. rw (fresh_slot n k i (omega arith)))

-- ---- another rank
pub rank_formed : (k : Kind) (x : Slot) (q : ℕ) → not (eqb q 0) ≡ used x → slot_formed k (at_rank q x) ≡ slot_formed k x
unfolding slot_formed used_formed all_zero
rank_formed k x q e = rw e

free_still : (p q : ℕ) → not (eqb p 0) ≡ not (eqb q 0) → q ≡ 0 → eqb p 0 ≡ true
free_still p q e z = not-false (eqb p 0) (e ∙ rw (eq-eqb q 0 z))

-- Slot i is another, and each other slot keeps all but its rank: the record stays well formed where slot i is, its key is nobody else's, and
-- the ranks have no gap.
module _ (n : ℕ) (k : Kind) (xs : List Slot) (w : Formed n k xs) (i : ℕ) (inside : i < n) where
  module _ (ys : List Slot) (size : length ys ≡ length xs) (g : ℕ → ℕ) (same-used : (q : ℕ) → not (eqb (g q) 0) ≡ not (eqb q 0)) (mono : (p q : ℕ) → p ≤ q → g p ≤ g q)
      (there : (j : ℕ) → (j ≡ i → ⊥) → slot_at ys j ≡ at_rank (g (slot_at xs j).rank) (slot_at xs j)) where
    slot_there : slot_formed k (slot_at ys i) ≡ true → (j : ℕ) → j < n → Same j i → slot_formed k (slot_at ys j) ≡ true
    slot_there ok j l (same e p) = rw p ok
    slot_there ok j l (other e p) = rw (there j p) (rank_formed k (slot_at xs j) (g (slot_at xs j).rank) (same-used (slot_at xs j).rank) ∙ w.slots j l)

    was_used : (j : ℕ) → (j ≡ i → ⊥) → 0 < (slot_at ys j).rank → 0 < (slot_at xs j).rank
    was_used j ne u =
        pos_taken (slot_at xs j).rank (sym (same-used (slot_at xs j).rank) ∙ ap (λ (y : Slot). used y) (sym (there j ne)) ∙ used_pos (slot_at ys j) u)

    key_was : (j : ℕ) → (j ≡ i → ⊥) → (slot_at ys j).key ≡ (slot_at xs j).key
    key_was j ne = ap (λ (y : Slot). y.key) (there j ne)

    moved_formed : slot_formed k (slot_at ys i) ≡ true
        → ((j : ℕ) → j < n → (j ≡ i → ⊥) → 0 < (slot_at ys i).rank → 0 < (slot_at xs j).rank → (slot_at xs j).key ≡ (slot_at ys i).key → ⊥)
        → (slot_at ys i).rank ≤ 1 → (slot_at ys i).beats ≡ 0 → Ranked n (λ j. (slot_at ys j).rank) → Formed n k ys
    moved_formed ok alone ahead touched ranks = record {
      low = w.low;
      high = w.high;
      array = size ∙ w.array;
      slots = λ j l. slot_there ok j l (same? j i);
      keys = λ j m l l' u v q. go j m l l' u v q (same? j i) (same? m i);
      ranks = ranks;
      counts = λ j m l l' u v. count_there j m l l' u v (same? j i) (same? m i);
      rest = λ j l m. past_there j l (w.rest j l m);
    }
      where
        -- a free slot keeps its rank
        past_there : (j : ℕ) → n ≤ j → (slot_formed k (slot_at xs j) ≡ true) × ((slot_at xs j).rank ≡ 0) → (slot_formed k (slot_at ys j) ≡ true) × ((slot_at ys j).rank ≡ 0)
        past_there j l (f, z) =
            let ne : j ≡ i → ⊥ = λ e. omega arith in
            let stays : g (slot_at xs j).rank ≡ 0 = eqb-true (g (slot_at xs j).rank) 0 (free_still (g (slot_at xs j).rank) (slot_at xs j).rank (same-used (slot_at xs j).rank) z) in
            (rw (there j ne) (rank_formed k (slot_at xs j) (g (slot_at xs j).rank) (same-used (slot_at xs j).rank) ∙ f), ap (λ (y : Slot). y.rank) (there j ne) ∙ stays)

        -- slot i is the most recent and was just touched, or it is free; the others keep their order and their counts
        count_there : (j m : ℕ) → j < n → m < n → 0 < (slot_at ys j).rank → (slot_at ys j).rank < (slot_at ys m).rank → Same j i → Same m i → (slot_at ys j).beats ≤ (slot_at ys m).beats
        count_there j m l l' u v (same e p) b = omega (arith, ap (λ (o : ℕ). (slot_at ys o).beats) p, touched)
        count_there j m l l' u v (other e p) (same f q) = absurd (omega (arith, ap (λ (o : ℕ). (slot_at ys o).rank) q, ahead))
        count_there j m l l' u v (other e p) (other f q) =
            let before : (slot_at xs j).beats ≤ (slot_at xs m).beats = w.counts j m l l' (was_used j p u) (less (ltb (slot_at xs j).rank (slot_at xs m).rank) refl) in
            omega (arith, before, ap (λ (y : Slot). y.beats) (there j p), ap (λ (y : Slot). y.beats) (there m q))
          where
            less : (b : Bool) → ltb (slot_at xs j).rank (slot_at xs m).rank ≡ b → (slot_at xs j).rank < (slot_at xs m).rank
            less true e = ltb-true (slot_at xs j).rank (slot_at xs m).rank e
            less false e =
                absurd (omega (arith, mono (slot_at xs m).rank (slot_at xs j).rank (ltb-false (slot_at xs j).rank (slot_at xs m).rank e), ap (λ (y : Slot). y.rank) (there j p), ap (λ (y : Slot). y.rank) (there m q)))

        not_here : (j m : ℕ) → j < n → 0 < (slot_at ys j).rank → 0 < (slot_at ys m).rank → (slot_at ys j).key ≡ (slot_at ys m).key → (j ≡ i → ⊥) → m ≡ i → ⊥
        not_here j m l u v q ne p =
            alone j l ne (omega (arith, ap (λ (o : ℕ). (slot_at ys o).rank) p)) (was_used j ne u) (sym (key_was j ne) ∙ q ∙ ap (λ (o : ℕ). (slot_at ys o).key) p)

        go : (j m : ℕ) → j < n → m < n → 0 < (slot_at ys j).rank → 0 < (slot_at ys m).rank → (slot_at ys j).key ≡ (slot_at ys m).key → Same j i → Same m i → j ≡ m
        go j m l l' u v q (same e p) (same f g) = p ∙ sym g
        go j m l l' u v q (same e p) (other f g) = absurd (not_here m j l' v u (sym q) g p)
        go j m l l' u v q (other e p) (same f g) = absurd (not_here j m l u v q p g)
        go j m l l' u v q (other e p) (other f g) = w.keys j m l l' (was_used j p u) (was_used m g v) (sym (key_was j p) ∙ q ∙ key_was m g)

  -- slot i comes to the front as x, whose key no other slot has
  pub front_formed : (x : Slot) → slot_formed k (at_front x) ≡ true
      → ((j : ℕ) → j < n → (j ≡ i → ⊥) → 0 < (slot_at xs j).rank → (slot_at xs j).key ≡ x.key → ⊥) → Formed n k (to_front xs i x)
  front_formed x ok alone =
      let here : slot_at (to_front xs i x) i ≡ at_front x = front_here xs i x (omega (arith, array_holds n k xs w)) in
      moved_formed (to_front xs i x) (front_length xs i x) (aged (slot_at xs i).rank) (aged_taken (slot_at xs i).rank) (aged_mono (slot_at xs i).rank) (front_there xs i x)
      (rw here ok)
      (λ j l ne u v q. alone j l ne v (q ∙ ap (λ (y : Slot). y.key) here))
      (omega (arith, ap (λ (y : Slot). y.rank) here)) (ap (λ (y : Slot). y.beats) here)
      (front_ranked n (λ j. (slot_at xs j).rank) w.ranks i inside (λ j. (slot_at (to_front xs i x) j).rank) (ap (λ (y : Slot). y.rank) here)
      (λ j l ne. ap (λ (y : Slot). y.rank) (front_there xs i x j ne)))

  -- slot i is freed
  pub free_formed : 0 < (slot_at xs i).rank → Formed n k (freed xs i)
  free_formed taken =
      let here : slot_at (freed xs i) i ≡ free_slot = freed_here xs i (omega (arith, array_holds n k xs w)) in
      let gone : (slot_at (freed xs i) i).rank ≡ 0 = ap (λ (y : Slot). y.rank) here in
      moved_formed (freed xs i) (freed_length xs i) (closed (slot_at xs i).rank) (λ q. closed_taken (slot_at xs i).rank q taken) (closed_mono (slot_at xs i).rank) (freed_there xs i)
      (rw here (free_slot_formed k))
      (λ j l ne u v q. omega arith)
      (omega (arith, gone)) (ap (λ (y : Slot). y.beats) here)
      (free_ranked n (λ j. (slot_at xs j).rank) w.ranks i inside (λ j. (slot_at (freed xs i) j).rank) taken gone
      (λ j l ne. ap (λ (y : Slot). y.rank) (freed_there xs i j ne)))
