-- What coming to the front and freeing do to each slot, and what a search tells.
use Prim.Native.Nat.{ℕ, zero, suc, ◌≤◌, ◌<◌}
use Rattle.std.specs.Prelude.{◌≡◌, refl, Bool, true, false, cond, ◌&&◌, List, [], ◌∷◌, map, length, take, eqb}
use Rattle.std.proofs.Common.{sym, ◌∙◌, arith, le_of_suc-le-suc, length-set, length-take-le, eqb-true, eq-eqb}
use Rattle.std.proofs.Math.Path.{ap}
use Rattle.std.proofs.Math.Option.{Option, none, some}
use Rattle.std.proofs.Math.ListN.{get_or, length-map, get_or-map}
use Rattle.std.proofs.Math.Seq.{get_or-set_same, get_or-set_other}
use Rattle.octets.specs.Tests.{both}
use Rattle.types.specs.declared.Key.{Key}
use Rattle.types.specs.declared.Slot.{Slot}
use Rattle.slots.specs.Slots.{no_key, slot_at, free_slot, same_key, at_rank, at_front, aged, aged_slot, closed_slot, to_front, freed, later, find, find_in}
use Rattle.slots.specs.RankLaws.{closed_near}

-- the slot that stands past the end of a list
abbrev pub past : Slot
past = record { rank = 0; beats = 0; key = no_key; total = 0; lengths = []; held = [] }

module _ (xs : List Slot) (i : ℕ) where
  pub front_here : (x : Slot) → i < length xs → slot_at (to_front xs i x) i ≡ at_front x
  unfolding to_front
  front_here x l = get_or-set_same (map (aged_slot (slot_at xs i).rank) xs) i (at_front x) past (simp length-map l)

  pub front_there : (x : Slot) (j : ℕ) → (j ≡ i → ⊥) → slot_at (to_front xs i x) j ≡ aged_slot (slot_at xs i).rank (slot_at xs j)
  unfolding to_front aged
  front_there x j ne =
      get_or-set_other (map (aged_slot (slot_at xs i).rank) xs) i j (at_front x) past ne ∙ get_or-map (aged_slot (slot_at xs i).rank) xs j past

  pub front_length : (x : Slot) → length (to_front xs i x) ≡ length xs
  unfolding to_front
  front_length x = simp (length-set, length-map)

  pub freed_here : i < length xs → slot_at (freed xs i) i ≡ free_slot
  unfolding freed
  freed_here l = get_or-set_same (map (closed_slot (slot_at xs i).rank) xs) i free_slot past (simp length-map l)

  closed_past : (r : ℕ) → past ≡ closed_slot r past
  closed_past r = ap (λ (q : ℕ). at_rank q past) (sym (closed_near r 0 (omega arith)))

  pub freed_there : (j : ℕ) → (j ≡ i → ⊥) → slot_at (freed xs i) j ≡ closed_slot (slot_at xs i).rank (slot_at xs j)
  unfolding freed
  freed_there j ne =
      let r : ℕ = (slot_at xs i).rank in
      get_or-set_other (map (closed_slot r) xs) i j free_slot past ne ∙ ap (λ (d : Slot). get_or (map (closed_slot r) xs) j d) (closed_past r)
      ∙ get_or-map (closed_slot r) xs j past

  pub freed_length : length (freed xs i) ≡ length xs
  unfolding freed
  freed_length = simp (length-set, length-map)

-- ---- keys
pub same_key_lem : (a b : Key) → same_key a b ≡ true → a ≡ b
same_key_lem a b e =
    let (e₄, h₅) = both (eqb a.sender b.sender && eqb a.width b.width && eqb a.reference b.reference && eqb a.serial.0 b.serial.0) (eqb a.identifier.0 b.identifier.0) e in
    let (e₃, h₄) = both (eqb a.sender b.sender && eqb a.width b.width && eqb a.reference b.reference) (eqb a.serial.0 b.serial.0) e₄ in
    let (e₂, h₃) = both (eqb a.sender b.sender && eqb a.width b.width) (eqb a.reference b.reference) e₃ in
    let (h₁, h₂) = both (eqb a.sender b.sender) (eqb a.width b.width) e₂ in
    let p₁ = eqb-true a.sender b.sender h₁ in
    let p₂ = eqb-true a.width b.width h₂ in
    let p₃ = eqb-true a.reference b.reference h₃ in
    let p₄ = eqb-true a.serial.0 b.serial.0 h₄ in
    let p₅ = eqb-true a.identifier.0 b.identifier.0 h₅ in
    λ i. record { sender = p₁ i; width = p₂ i; reference = p₃ i; serial = record { 0 = p₄ i }; identifier = record { 0 = p₅ i } }

pub key_same : (a b : Key) → a ≡ b → same_key a b ≡ true
key_same a b e =
    rw (e, eq-eqb b.sender b.sender refl, eq-eqb b.width b.width refl, eq-eqb b.reference b.reference refl, eq-eqb b.serial.0 b.serial.0 refl, eq-eqb b.identifier.0 b.identifier.0 refl)

-- ---- a search
pub data Found (p : Slot → Bool) (xs : List Slot) : Option ℕ → Type 0 where
  hit : (i : ℕ) → i < length xs → p (slot_at xs i) ≡ true → ((j : ℕ) → j < i → p (slot_at xs j) ≡ false) → Found p xs (some i)
  miss : ((j : ℕ) → j < length xs → p (slot_at xs j) ≡ false) → Found p xs none

pub find? : (p : Slot → Bool) (xs : List Slot) → Found p xs (find p xs)
unfolding find
find? p [] = miss (λ j l. absurd (omega arith))
find? p (x ∷ xs) = go (p x) refl (find p xs) (find? p xs)
  where
    earlier : (m : ℕ) → p x ≡ false → ((j : ℕ) → j < m → p (slot_at xs j) ≡ false) → (j : ℕ) → j < suc m → p (slot_at (x ∷ xs) j) ≡ false
    earlier m q f zero l = q
    earlier m q f (suc j) l = f j (le_of_suc-le-suc l)

    go : (b : Bool) → p x ≡ b → (r : Option ℕ) → Found p xs r → Found p (x ∷ xs) (cond b (some 0) (later r))
    go true q r f = hit 0 (omega arith) q (λ j l. absurd (omega arith))
    go false q r (hit i l t f) = hit (suc i) (omega arith) t (earlier i q f)
    go false q r (miss f) = miss (earlier (length xs) q f)

-- of a record's own slots, where it has n of them
pub data FoundIn (n : ℕ) (p : Slot → Bool) (xs : List Slot) : Option ℕ → Type 0 where
  hit_in : (i : ℕ) → i < n → p (slot_at xs i) ≡ true → ((j : ℕ) → j < i → p (slot_at xs j) ≡ false) → FoundIn n p xs (some i)
  miss_in : ((j : ℕ) → j < n → p (slot_at xs j) ≡ false) → FoundIn n p xs none

-- the first n are those of the list
pub slot_in_lem : (n : ℕ) (xs : List Slot) (i : ℕ) → i < n → slot_at (take n xs) i ≡ slot_at xs i
slot_in_lem zero xs i l = absurd (omega arith)
slot_in_lem (suc n) [] i l = refl
slot_in_lem (suc n) (x ∷ xs) zero l = refl
slot_in_lem (suc n) (x ∷ xs) (suc i) l = slot_in_lem n xs i (le_of_suc-le-suc l)

pub find_in? : (n : ℕ) (p : Slot → Bool) (xs : List Slot) → n ≤ length xs → FoundIn n p xs (find_in n p xs)
find_in? n p xs enough = go (find p (take n xs)) (find? p (take n xs))
  where
    size : length (take n xs) ≡ n
    size = length-take-le n xs enough

    was : (j : ℕ) → j < n → p (slot_at (take n xs) j) ≡ p (slot_at xs j)
    was j l = ap p (slot_in_lem n xs j l)

    go : (r : Option ℕ) → Found p (take n xs) r → FoundIn n p xs r
    go r (hit i l t f) = hit_in i (omega (arith, size)) (sym (was i (omega (arith, size))) ∙ t) (λ j m. sym (was j (omega (arith, size))) ∙ f j m)
    go r (miss f) = miss_in (λ j l. sym (was j l) ∙ f j (omega (arith, size)))
