-- What the proofs of changing a slot cite.
use Prim.Native.Nat.{ℕ, zero, suc, ◌+◌, ◌≤◌}
use mathlib.Core.Path.{◌≡◌, refl, ap, ◌∙◌}
use mathlib.Core.List.{List, [], ◌∷◌}
use native.Mathlib.Omega.{arith}
use native.Mathlib.Numerals.{add-one}
use lib.ListN.{replicate, length, set}
use borrow.Author.Rules.{rules}
use Rattle.slots.specs.Below.{all_below}
use Rattle.slots.specs.Slots.{free_slot}
use Rattle.layout.specs.Blocks.{slot_size}
use Rattle.layout.specs.Layout.{slot_block, slot_fields, slot_in, marks_fit}
use Rattle.layout.specs.Changes.{with_slot, Stored, Became}
use Rattle.layout.specs.Laws.{own_size, stored_own, stored_more, stored_sender, stored_numbers, stored_became, none_became, rank_set, beats_set, total_set, part_zero, part_past, part_set, key_set, became_front, became_opened}

-- ---- octets that are cleared one after the other
-- the first p are zero
unfoldable pub first_zero : ℕ → List ℕ → List ℕ
first_zero zero x = x
first_zero (suc p) [] = []
first_zero (suc p) (a ∷ x) = 0 ∷ first_zero p x

pub zero_more : (p : ℕ) (x : List ℕ) → set (first_zero p x) p 0 ≡ first_zero (suc p) x
unfolding first_zero
zero_more zero [] = refl
zero_more zero (a ∷ x) = refl
zero_more (suc p) [] = refl
zero_more (suc p) (a ∷ x) = ap (λ (r : List ℕ). 0 ∷ r) (zero_more p x)

pub zero_all : (p : ℕ) (x : List ℕ) → length x ≤ p → first_zero p x ≡ replicate (length x) 0
unfolding first_zero
zero_all zero [] l = refl
zero_all zero (a ∷ x) l = absurd (omega arith)
zero_all (suc p) [] l = refl
zero_all (suc p) (a ∷ x) l = ap (λ (r : List ℕ). 0 ∷ r) (zero_all p x (omega arith))

module _ (s : List ℕ) (i : ℕ) where
  pub clear_starts : Stored s s i (first_zero 0 (slot_block i s))
  unfolding first_zero
  clear_starts = stored_own s i

  pub clear_goes_on : (t u : List ℕ) (p : ℕ) → Stored s t i (first_zero p (slot_block i s)) → Stored t u i (set (slot_block i t) p 0)
      → Stored s u i (first_zero (p + 1) (slot_block i s))
  clear_goes_on t u p g h = rw (add-one, ← zero_more p (slot_block i s)) (stored_more s i t u (first_zero p (slot_block i s)) p 0 g h)

  pub clear_ends : (t : List ℕ) (p : ℕ) → slot_size ≤ p → Stored s t i (first_zero p (slot_block i s)) → Became s t (with_slot s i free_slot)
  unfolding slot_in slot_fields marks_fit all_below
  clear_ends t p m h =
      stored_became s t i (first_zero p (slot_block i s)) h free_slot
      (λ k l.
      let e : first_zero p (slot_block i s) ≡ replicate slot_size 0 =
      zero_all p (slot_block i s) (omega (arith, own_size s k i l)) ∙ ap (λ (n : ℕ). replicate n 0) (own_size s k i l) in
      (rw e refl, rw e refl))

pub ruleset write_steps = (
  rules,
  stored_more,
  stored_sender,
  stored_numbers,
  none_became,
  rank_set,
  beats_set,
  total_set,
  part_zero,
  part_past,
  part_set,
  key_set,
  became_front,
  became_opened,
  clear_starts,
  clear_goes_on,
  clear_ends,
)
