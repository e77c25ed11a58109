-- Slots that are equal: field by field, and a free one, of which there is only one that is well formed.
use Rattle.std.specs.Prelude.{ℕ, ◌<◌, ◌≡◌, true, false, not, cond, ◌&&◌, length, replicate, eqb}
use Rattle.std.proofs.Common.{sym, ◌∙◌, arith, ext_get_or, eqb-true}
use Rattle.std.proofs.lemmas.List.{get_or-replicate, length-replicate}
use Rattle.std.proofs.lemmas.Bool.{not-true}
use Rattle.octets.specs.Tests.{both}
use Rattle.types.specs.declared.Kind.{Kind}
use Rattle.types.specs.declared.Slot.{Slot}
use Rattle.arrival.specs.Message.{most_parts}
use Rattle.slots.specs.Below.{all_below}
use Rattle.slots.specs.BelowLaws.{all_at}
use Rattle.slots.specs.FrontLaws.{same_key_lem}
use Rattle.slots.specs.Slots.{no_key, free_slot, used}
use Rattle.formed.specs.Formed.{sixteen, mark_at, size_at, zero_key, zero_part, all_zero, slot_formed, used_formed}

-- two slots that say the same, field by field
pub same_slot : (x y : Slot) → x.rank ≡ y.rank → x.beats ≡ y.beats → x.key ≡ y.key → x.total ≡ y.total → x.lengths ≡ y.lengths → x.held ≡ y.held
    → x ≡ y
same_slot x y a b c d e f = λ i. record { rank = a i; beats = b i; key = c i; total = d i; lengths = e i; held = f i }

-- sixteen lengths of zero, sixteen marks that are not set
pub blank_lengths : (x : Slot) → length x.lengths ≡ most_parts → ((i : ℕ) → i < most_parts → size_at x i ≡ 0) → x.lengths ≡ replicate most_parts 0
blank_lengths x size zeros =
    ext_get_or 0 x.lengths (replicate most_parts 0) (size ∙ sym (length-replicate {A = ℕ} most_parts 0))
    (λ i l. zeros i (omega (arith, size)) ∙ sym (get_or-replicate {A = ℕ} most_parts i 0 0 (omega (arith, size))))

pub blank_marks : (x : Slot) → length x.held ≡ most_parts → ((i : ℕ) → i < most_parts → mark_at x i ≡ false) → x.held ≡ replicate most_parts false
blank_marks x size unset =
    ext_get_or false x.held (replicate most_parts false) (size ∙ sym (length-replicate most_parts false))
    (λ i l. unset i (omega (arith, size)) ∙ sym (get_or-replicate most_parts i false false (omega (arith, size))))

-- a free slot that is well formed is the free slot
pub free_is : (k : Kind) (x : Slot) → slot_formed k x ≡ true → x.rank ≡ 0 → x ≡ free_slot
unfolding slot_formed all_zero
free_is k x e z =
    let (s, f) = both (sixteen x) (cond (used x) (used_formed k x) (all_zero x)) e in
    let (l, m) = both (eqb (length x.lengths) most_parts) (eqb (length x.held) most_parts) s in
    let g : all_zero x ≡ true = simp z at f in
    let (g₂, ps) = both (zero_key x.key && eqb x.total 0 && eqb x.beats 0) (all_below most_parts (zero_part x)) g in
    let (g₁, b) = both (zero_key x.key && eqb x.total 0) (eqb x.beats 0) g₂ in
    let (ks, t) = both (zero_key x.key) (eqb x.total 0) g₁ in
    let parts = all_at most_parts (zero_part x) ps in
    same_slot x free_slot z (eqb-true x.beats 0 b) (same_key_lem x.key no_key ks) (eqb-true x.total 0 t)
    (blank_lengths x (eqb-true (length x.lengths) most_parts l) (λ i h. eqb-true (size_at x i) 0 (both (not (mark_at x i)) (eqb (size_at x i) 0) (parts i h)).1))
    (blank_marks x (eqb-true (length x.held) most_parts m) (λ i h. not-true (mark_at x i) (both (not (mark_at x i)) (eqb (size_at x i) 0) (parts i h)).0))
