-- A slot with one part more is well formed, whether its series was there or is opened by the part.
use Rattle.std.specs.Prelude.{ℕ, ◌+◌, ◌-◌, ◌≤◌, ◌<◌, ◌≡◌, refl, Bool, true, false, cond, ◌||◌, length, eqb, ltb, leb}
use Rattle.std.proofs.Common.{ap, ◌∙◌, arith, length-set, get_or-set_same, get_or-set_other, lt-ltb, leb-true}
use Rattle.std.proofs.lemmas.List.{length-replicate, get_or-replicate}
use Rattle.std.proofs.lemmas.Bool.{eqb-false}
use Rattle.octets.specs.Tests.{both, neither, Same, same, other, same?}
use Rattle.types.specs.declared.Kind.{Kind}
use Rattle.types.specs.declared.Key.{Key}
use Rattle.arrival.specs.Message.{most_parts}
use Rattle.arrival.specs.Keys.{of_pages, key_formed, total_fits, length_fits}
use Rattle.types.specs.declared.Slot.{Slot}
use Rattle.slots.specs.Below.{count_below}
use Rattle.slots.specs.BelowLaws.{all_fails, count_one, count_less, count_below_lem}
use Rattle.slots.specs.Slots.{opened, held_at, with_part}
use Rattle.formed.specs.Formed.{mark_at, size_at, part_formed, held_count}
use Rattle.formed.specs.Laws.{UsedSlot}
use Rattle.series.specs.Taking.{completes}

pub total_bounds : (key : Key) (t : ℕ) → total_fits key t ≡ true → (2 ≤ t) × (t ≤ most_parts)
total_bounds key t e =
    let (a, b) = both (leb 2 t) (leb t (cond (of_pages key) 15 most_parts)) e in (leb-true 2 t a, go (of_pages key) b)
  where
    go : (p : Bool) → leb t (cond p 15 most_parts) ≡ true → t ≤ most_parts
    go true h = omega (arith, leb-true t 15 h)
    go false h = leb-true t most_parts h

-- what is known of a slot before the part, and a place that stays empty
pub record Ready (k : Kind) (x : Slot) (number : ℕ) : Type 0 where
  pub key : key_formed k x.key ≡ true
  pub total : total_fits x.key x.total ≡ true
  pub parts : (i : ℕ) → i < most_parts → part_formed x i ≡ true
  pub lengths : length x.lengths ≡ most_parts
  pub marks : length x.held ≡ most_parts
  pub new : held_at x number ≡ false
  pub missing : (i : ℕ) × (i < x.total) × (mark_at x i ≡ false) × (i + 1 ≡ number → ⊥)

module _ (k : Kind) (x : Slot) (number size : ℕ) (r : Ready k x number) (low : 1 ≤ number) (high : number ≤ x.total)
    (fits : length_fits x.key number size ≡ true) where
  most : x.total ≤ most_parts
  most = (total_bounds x.key x.total r.total).1

  mark_here : mark_at (with_part x number size) (number - 1) ≡ true
  mark_here = get_or-set_same x.held (number - 1) true false (omega (arith, r.marks, most))

  mark_there : (i : ℕ) → (i ≡ number - 1 → ⊥) → mark_at (with_part x number size) i ≡ mark_at x i
  mark_there i ne = get_or-set_other x.held (number - 1) i true false ne

  parts_after : (i : ℕ) → i < most_parts → Same i (number - 1) → part_formed (with_part x number size) i ≡ true
  parts_after i l (same e p) =
      let here : mark_at (with_part x number size) i ≡ true = ap (mark_at (with_part x number size)) p ∙ mark_here in
      let long : size_at (with_part x number size) i ≡ size =
      ap (size_at (with_part x number size)) p ∙ get_or-set_same x.lengths (number - 1) size 0 (omega (arith, r.lengths, most)) in
      let is : i + 1 ≡ number = omega arith in
      rw (here, long, is, lt-ltb i x.total (omega arith)) fits
  parts_after i l (other e p) = rw (mark_there i p, get_or-set_other x.lengths (number - 1) i size 0 p) (r.parts i l)

  -- a mark lies below the total
  mark_below : (i : ℕ) → i < most_parts → mark_at (with_part x number size) i ≡ true → ltb i x.total ≡ true
  mark_below i l m =
      (both (ltb i x.total) (length_fits x.key (i + 1) (size_at (with_part x number size) i))
      (simp m at (parts_after i l (same? i (number - 1))))).0

  not_all : held_count (with_part x number size) < x.total
  not_all =
      let (i, l, e, ne) = r.missing in
      let less : held_count (with_part x number size) < count_below most_parts (λ i. ltb i x.total) =
      count_less most_parts (mark_at (with_part x number size)) (λ i. ltb i x.total) mark_below i (omega (arith, most))
      (mark_there i (λ q. ne (omega arith)) ∙ e) (lt-ltb i x.total l) in
      omega (arith, count_below_lem most_parts x.total most)

  pub part_more : UsedSlot k (with_part x number size)
  part_more = record {
    key = r.key;
    total = r.total;
    parts = λ i l. parts_after i l (same? i (number - 1));
    some = omega (arith, count_one most_parts (mark_at x) (mark_at (with_part x number size)) (number - 1) (omega (arith, most)) r.new mark_here (λ i l. mark_there i));
    more = not_all;
    lengths = length-set x.lengths (number - 1) size ∙ r.lengths;
    marks = length-set x.held (number - 1) true ∙ r.marks;
  }

-- a series that is there, which the part does not complete
pub ready_held : (k : Kind) (x : Slot) (number : ℕ) → UsedSlot k x → held_at x number ≡ false → completes x number ≡ false → Ready k x number
ready_held k x number w new unfinished =
    let (i, l, e) = all_fails x.total (λ i. eqb (i + 1) number || mark_at x i) unfinished in
    let (a, b) = neither (eqb (i + 1) number) (mark_at x i) e in record {
      key = w.key;
      total = w.total;
      parts = w.parts;
      lengths = w.lengths;
      marks = w.marks;
      new = new;
      missing = (i, l, b, eqb-false (i + 1) number a);
    }

-- a series that the part opens
pub ready_opened : (k : Kind) (key : Key) (total number : ℕ) → key_formed k key ≡ true → total_fits key total ≡ true → 1 ≤ number → number ≤ total
    → Ready k (opened key total) number
ready_opened k key total number a b low high =
    let (two, sixteen) = total_bounds key total b in record {
      key = a;
      total = b;
      parts = λ i l. rw (get_or-replicate most_parts i false false l, get_or-replicate {A = ℕ} most_parts i 0 0 l);
      lengths = length-replicate {A = ℕ} most_parts 0;
      marks = length-replicate most_parts false;
      new = get_or-replicate most_parts (number - 1) false false (omega arith);
      missing = go two sixteen (same? number 1);
    }
  where
    go : 2 ≤ total → total ≤ most_parts → Same number 1 → (i : ℕ) × (i < total) × (mark_at (opened key total) i ≡ false) × (i + 1 ≡ number → ⊥)
    go two high' (same e p) = (1, omega arith, refl, (λ q. omega arith))
    go two high' (other e p) = (0, omega arith, refl, (λ q. omega arith))
