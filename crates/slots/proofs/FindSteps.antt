-- What the proofs over the slots cite: one law for each return, call and turn of a loop, over plain variables.
use Prim.Native.Nat.{ℕ, zero, suc, ◌≤◌}
use mathlib.Core.Path.{◌≡◌, refl}
use mathlib.Core.Bool.{Bool, true, false, cond, ◌&&◌}
use mathlib.Core.List.{List, [], ◌∷◌}
use mathlib.Core.Option.{Option, none, some}
use native.Mathlib.Omega.{arith}
use lib.ListN.{length}
use lib.Dec.{ltb}
use borrow.Author.Rules.{rules}
use borrow.Author.Tests.{ltb-false}
use Rattle.octets.specs.Tests.{by_test}
use Rattle.types.specs.declared.Slot.{Slot}
use Rattle.types.specs.declared.Record.{Record}
use Rattle.slots.specs.Slots.{most_slots, slot_at, find, find_in, later, slots_in}

-- ---- a search that reads the slots one by one
abbrev first_of : Bool → Bool → Bool → Bool → Bool → Option ℕ
first_of a b c d e = cond a (some 0) (cond b (some 1) (cond c (some 2) (cond d (some 3) (cond e (some 4) none))))

in_turn : (a b c d e : Bool)
    → cond a (some 0) (later (cond b (some 0) (later (cond c (some 0) (later (cond d (some 0) (later (cond e (some 0) none))))))))
    ≡ first_of a b c d e
in_turn true b c d e = refl
in_turn false true c d e = refl
in_turn false false true d e = refl
in_turn false false false true e = refl
in_turn false false false false true = refl
in_turn false false false false false = refl

-- slot k is one of the first m, and passes
abbrev flag : (Slot → Bool) → ℕ → List Slot → ℕ → Bool
flag p m xs k = ltb k m && p (slot_at xs k)

search_in_turn : (p : Slot → Bool) (m : ℕ) (xs : List Slot) → length xs ≡ most_slots → m ≤ most_slots
    → find_in m p xs ≡ first_of (flag p m xs 0) (flag p m xs 1) (flag p m xs 2) (flag p m xs 3) (flag p m xs 4)
unfolding find
search_in_turn p m [] e l = absurd (omega arith)
search_in_turn p m (v ∷ []) e l = absurd (omega arith)
search_in_turn p m (v ∷ w ∷ []) e l = absurd (omega arith)
search_in_turn p m (v ∷ w ∷ x ∷ []) e l = absurd (omega arith)
search_in_turn p m (v ∷ w ∷ x ∷ y ∷ []) e l = absurd (omega arith)
search_in_turn p m (v ∷ w ∷ x ∷ y ∷ z ∷ u ∷ us) e l = absurd (omega arith)
search_in_turn p zero (v ∷ w ∷ x ∷ y ∷ z ∷ []) e l = refl
search_in_turn p (suc zero) (v ∷ w ∷ x ∷ y ∷ z ∷ []) e l = in_turn (p v) false false false false
search_in_turn p (suc (suc zero)) (v ∷ w ∷ x ∷ y ∷ z ∷ []) e l = in_turn (p v) (p w) false false false
search_in_turn p (suc (suc (suc zero))) (v ∷ w ∷ x ∷ y ∷ z ∷ []) e l = in_turn (p v) (p w) (p x) false false
search_in_turn p (suc (suc (suc (suc zero)))) (v ∷ w ∷ x ∷ y ∷ z ∷ []) e l = in_turn (p v) (p w) (p x) (p y) false
search_in_turn p (suc (suc (suc (suc (suc zero))))) (v ∷ w ∷ x ∷ y ∷ z ∷ []) e l = in_turn (p v) (p w) (p x) (p y) (p z)
search_in_turn p (suc (suc (suc (suc (suc (suc m)))))) (v ∷ w ∷ x ∷ y ∷ z ∷ []) e l = absurd (omega arith)

module _ (p : Slot → Bool) (r : Record) (len : length r.slots ≡ most_slots) where
  abbrev here : ℕ → Bool
  here k = flag p (slots_in r) r.slots k

  few : slots_in r ≤ most_slots
  few = by_test (ltb most_slots r.count) (λ t. rw t (omega arith)) (λ t. rw t (ltb-false most_slots r.count t))

  found : find_in (slots_in r) p r.slots ≡ first_of (here 0) (here 1) (here 2) (here 3) (here 4)
  found = search_in_turn p (slots_in r) r.slots len few

  module _ (a : Bool) (ea : a ≡ here 0) where
    pub at_first : a ≡ true → some 0 ≡ find_in (slots_in r) p r.slots
    at_first f = rw (found, ← ea, f)

    module _ (na : a ≡ false) (b : Bool) (eb : b ≡ here 1) where
      pub at_second : b ≡ true → some 1 ≡ find_in (slots_in r) p r.slots
      at_second f = rw (found, ← ea, ← eb, na, f)

      module _ (nb : b ≡ false) (c : Bool) (ec : c ≡ here 2) where
        pub at_third : c ≡ true → some 2 ≡ find_in (slots_in r) p r.slots
        at_third f = rw (found, ← ea, ← eb, ← ec, na, nb, f)

        module _ (nc : c ≡ false) (d : Bool) (ed : d ≡ here 3) where
          pub at_fourth : d ≡ true → some 3 ≡ find_in (slots_in r) p r.slots
          at_fourth f = rw (found, ← ea, ← eb, ← ec, ← ed, na, nb, nc, f)

          module _ (nd : d ≡ false) (e : Bool) (ee : e ≡ here 4) where
            pub at_fifth : e ≡ true → some 4 ≡ find_in (slots_in r) p r.slots
            at_fifth f = rw (found, ← ea, ← eb, ← ec, ← ed, ← ee, na, nb, nc, nd, f)

            pub at_none : e ≡ false → none ≡ find_in (slots_in r) p r.slots
            at_none f = rw (found, ← ea, ← eb, ← ec, ← ed, ← ee, na, nb, nc, nd, f)

pub ruleset find_steps = (
  rules,
  at_first,
  at_second,
  at_third,
  at_fourth,
  at_fifth,
  at_none,
)
