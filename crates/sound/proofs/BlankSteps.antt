-- A slot whose octets behind the rank are all zero is one whose fields are: number by number, and part by part.
use Prim.Native.Nat.{ℕ, zero, suc, ◌+◌, ◌-◌, ◌<◌, ◌≤◌}
use mathlib.Core.Path.{◌≡◌, refl, sym, ap, ◌∙◌}
use mathlib.Core.Bool.{Bool, true, false, not, ◌&&◌}
use mathlib.Core.List.{List}
use native.Mathlib.Omega.{arith}
use lib.ListN.{get_or}
use lib.Dec.{eqb, ltb}
use borrow.Author.Tests.{eqb-true, eq-eqb, ltb-true, ltb-false, not-true, not-false}
use Rattle.octets.specs.Octets.{number_of}
use Rattle.octets.specs.Tests.{both}
use Rattle.types.specs.declared.Key.{Key}
use Rattle.types.specs.declared.Slot.{Slot}
use Rattle.arrival.specs.Message.{most_parts}
use Rattle.slots.specs.Below.{all_below}
use Rattle.slots.specs.BelowLaws.{all_at, all_hold}
use Rattle.formed.specs.Formed.{mark_at, size_at, zero_key, zero_part, all_zero}
use Rattle.formed.specs.TestLaws.{agree}
use Rattle.layout.specs.Layout.{slot_block, wide_number, blank_at, blank}
use Rattle.layout.specs.Changes.{state_slot}
use Rattle.layout.specs.Laws.{beats_read, total_read, key_read, length_read, mark_read}

module _ (s : List ℕ) (i : ℕ) where
  abbrev octet : ℕ → ℕ
  octet p = get_or (slot_block i s) p 0

  abbrev x : Slot
  x = state_slot s i

  -- ---- its fields by their octets
  key_is : record { sender = wide_number (number_of (octet 2) (octet 3)) (number_of (octet 4) (octet 5)); width = octet 6; reference = number_of (octet 7) (octet 8); serial = record { 0 = number_of (octet 9) (octet 10) }; identifier = record { 0 = number_of (octet 11) (octet 12) } } ≡ x.key
  key_is = key_read s i (wide_number (number_of (octet 2) (octet 3)) (number_of (octet 4) (octet 5))) (number_of (octet 2) (octet 3)) (number_of (octet 4) (octet 5)) (octet 6) (number_of (octet 7) (octet 8)) (number_of (octet 9) (octet 10)) (number_of (octet 11) (octet 12)) refl refl refl refl refl refl refl

  sender_is : wide_number (number_of (octet 2) (octet 3)) (number_of (octet 4) (octet 5)) ≡ x.key.sender
  sender_is = ap (λ (k : Key). k.sender) key_is

  width_is : octet 6 ≡ x.key.width
  width_is = ap (λ (k : Key). k.width) key_is

  reference_is : number_of (octet 7) (octet 8) ≡ x.key.reference
  reference_is = ap (λ (k : Key). k.reference) key_is

  serial_is : number_of (octet 9) (octet 10) ≡ x.key.serial.0
  serial_is = ap (λ (k : Key). k.serial.0) key_is

  identifier_is : number_of (octet 11) (octet 12) ≡ x.key.identifier.0
  identifier_is = ap (λ (k : Key). k.identifier.0) key_is

  beats_is : octet 1 ≡ x.beats
  beats_is = beats_read s i (octet 1) refl

  total_is : octet 13 ≡ x.total
  total_is = total_read s i (octet 13) refl

  size_is : (k : ℕ) → k < most_parts → octet (14 + k) ≡ size_at x k
  size_is k l = length_read s i k (octet (14 + k)) l refl

  mark_is : (k : ℕ) → k < most_parts → not (eqb (octet (30 + k)) 0) ≡ mark_at x k
  mark_is k l = mark_read s i k (octet (30 + k)) l refl

  -- ---- from the octets to the fields
  module _ (z : (p : ℕ) → p < 45 → octet (p + 1) ≡ 0) where
    at : (p q : ℕ) → p < 45 → q ≡ p + 1 → octet q ≡ 0
    at p q l e = ap octet e ∙ z p l

    part_zero : (k : ℕ) → k < most_parts → zero_part x k ≡ true
    part_zero k l =
        let n : size_at x k ≡ 0 = sym (size_is k l) ∙ at (13 + k) (14 + k) (omega arith) (omega arith) in
        let m : mark_at x k ≡ false = sym (mark_is k l) ∙ ap (λ (q : ℕ). not (eqb q 0)) (at (29 + k) (30 + k) (omega arith) (omega arith)) in
        rw (m, n)

    fields_zero_lem : all_zero x ≡ true
    unfolding all_zero
    fields_zero_lem =
        let a : x.key.sender ≡ 0 = omega (arith, sender_is, at 1 2 (omega arith) refl, at 2 3 (omega arith) refl, at 3 4 (omega arith) refl, at 4 5 (omega arith) refl) in
        let b : x.key.width ≡ 0 = sym width_is ∙ at 5 6 (omega arith) refl in
        let c : x.key.reference ≡ 0 = omega (arith, reference_is, at 6 7 (omega arith) refl, at 7 8 (omega arith) refl) in
        let d : x.key.serial.0 ≡ 0 = omega (arith, serial_is, at 8 9 (omega arith) refl, at 9 10 (omega arith) refl) in
        let e : x.key.identifier.0 ≡ 0 = omega (arith, identifier_is, at 10 11 (omega arith) refl, at 11 12 (omega arith) refl) in
        let f : x.total ≡ 0 = sym total_is ∙ at 12 13 (omega arith) refl in
        let g : x.beats ≡ 0 = sym beats_is ∙ at 0 1 (omega arith) refl in
        rw (a, b, c, d, e, f, g, all_hold most_parts (zero_part x) part_zero)

  -- ---- and back
  record Zero : Type 0 where
    sender : x.key.sender ≡ 0
    width : x.key.width ≡ 0
    reference : x.key.reference ≡ 0
    serial : x.key.serial.0 ≡ 0
    identifier : x.key.identifier.0 ≡ 0
    total : x.total ≡ 0
    beats : x.beats ≡ 0
    parts : (k : ℕ) → k < most_parts → zero_part x k ≡ true

  zero_tells : all_zero x ≡ true → Zero
  unfolding all_zero
  zero_tells h =
      let (h₁, parts) = both (zero_key x.key && eqb x.total 0 && eqb x.beats 0) (all_below most_parts (zero_part x)) h in
      let (h₂, beats) = both (zero_key x.key && eqb x.total 0) (eqb x.beats 0) h₁ in
      let (h₃, total) = both (zero_key x.key) (eqb x.total 0) h₂ in
      let (h₄, identifier) = both (eqb x.key.sender 0 && eqb x.key.width 0 && eqb x.key.reference 0 && eqb x.key.serial.0 0) (eqb x.key.identifier.0 0) h₃ in
      let (h₅, serial) = both (eqb x.key.sender 0 && eqb x.key.width 0 && eqb x.key.reference 0) (eqb x.key.serial.0 0) h₄ in
      let (h₆, reference) = both (eqb x.key.sender 0 && eqb x.key.width 0) (eqb x.key.reference 0) h₅ in
      let (sender, width) = both (eqb x.key.sender 0) (eqb x.key.width 0) h₆ in
      record {
        sender = eqb-true x.key.sender 0 sender;
        width = eqb-true x.key.width 0 width;
        reference = eqb-true x.key.reference 0 reference;
        serial = eqb-true x.key.serial.0 0 serial;
        identifier = eqb-true x.key.identifier.0 0 identifier;
        total = eqb-true x.total 0 total;
        beats = eqb-true x.beats 0 beats;
        parts = all_at most_parts (zero_part x) parts;
      }

  module _ (w : Zero) where
    size_zero : (k : ℕ) → k < most_parts → octet (14 + k) ≡ 0
    size_zero k l = size_is k l ∙ eqb-true (size_at x k) 0 (both (not (mark_at x k)) (eqb (size_at x k) 0) (w.parts k l)).1

    mark_zero : (k : ℕ) → k < most_parts → octet (30 + k) ≡ 0
    mark_zero k l =
        let m : mark_at x k ≡ false = not-true (mark_at x k) (both (not (mark_at x k)) (eqb (size_at x k) 0) (w.parts k l)).0 in
        eqb-true (octet (30 + k)) 0 (not-false (eqb (octet (30 + k)) 0) (mark_is k l ∙ m))

    head_zero : (p : ℕ) → p < 13 → octet (p + 1) ≡ 0
    head_zero zero l = beats_is ∙ w.beats
    head_zero (suc zero) l = let e : octet 2 ≡ 0 = omega (arith, sender_is, w.sender) in e
    head_zero (suc (suc zero)) l = let e : octet 3 ≡ 0 = omega (arith, sender_is, w.sender) in e
    head_zero (suc (suc (suc zero))) l = let e : octet 4 ≡ 0 = omega (arith, sender_is, w.sender) in e
    head_zero (suc (suc (suc (suc zero)))) l = let e : octet 5 ≡ 0 = omega (arith, sender_is, w.sender) in e
    head_zero (suc (suc (suc (suc (suc zero))))) l = width_is ∙ w.width
    head_zero (suc (suc (suc (suc (suc (suc zero)))))) l = let e : octet 7 ≡ 0 = omega (arith, reference_is, w.reference) in e
    head_zero (suc (suc (suc (suc (suc (suc (suc zero))))))) l = let e : octet 8 ≡ 0 = omega (arith, reference_is, w.reference) in e
    head_zero (suc (suc (suc (suc (suc (suc (suc (suc zero)))))))) l = let e : octet 9 ≡ 0 = omega (arith, serial_is, w.serial) in e
    head_zero (suc (suc (suc (suc (suc (suc (suc (suc (suc zero))))))))) l = let e : octet 10 ≡ 0 = omega (arith, serial_is, w.serial) in e
    head_zero (suc (suc (suc (suc (suc (suc (suc (suc (suc (suc zero)))))))))) l = let e : octet 11 ≡ 0 = omega (arith, identifier_is, w.identifier) in e
    head_zero (suc (suc (suc (suc (suc (suc (suc (suc (suc (suc (suc zero))))))))))) l = let e : octet 12 ≡ 0 = omega (arith, identifier_is, w.identifier) in e
    head_zero (suc (suc (suc (suc (suc (suc (suc (suc (suc (suc (suc (suc zero)))))))))))) l = total_is ∙ w.total
    head_zero (suc (suc (suc (suc (suc (suc (suc (suc (suc (suc (suc (suc (suc k))))))))))))) l = absurd (omega arith)

    octets_zero : (p : ℕ) → p < 45 → octet (p + 1) ≡ 0
    octets_zero p l = by_bounds (ltb p 13) refl (ltb p 29) refl
      where
        by_bounds : (a : Bool) → ltb p 13 ≡ a → (b : Bool) → ltb p 29 ≡ b → octet (p + 1) ≡ 0
        by_bounds true e b f = head_zero p (ltb-true p 13 e)
        by_bounds false e true f =
            let n : 13 ≤ p = ltb-false p 13 e in
            let m : p < 29 = ltb-true p 29 f in
            let g : p + 1 ≡ 14 + (p - 13) = omega arith in
            ap octet g ∙ size_zero (p - 13) (omega arith)
        by_bounds false e false f =
            let n : 29 ≤ p = ltb-false p 29 f in
            let g : p + 1 ≡ 30 + (p - 29) = omega arith in
            ap octet g ∙ mark_zero (p - 29) (omega arith)

  pub blank_told : (b : Bool) → b ≡ blank (slot_block i s) → b ≡ all_zero x
  blank_told b e =
      e ∙ agree (blank (slot_block i s)) (all_zero x)
      (λ h. fields_zero_lem (λ p l. eqb-true (octet (p + 1)) 0 (all_at 45 (blank_at (slot_block i s)) h p l)))
      (λ h. all_hold 45 (blank_at (slot_block i s)) (λ p l. eq-eqb (octet (p + 1)) 0 (octets_zero (zero_tells h) p l)))
