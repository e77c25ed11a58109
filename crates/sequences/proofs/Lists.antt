-- Numbers and keys put into lists, and that n different keys do not fit into a list that is shorter.
use Prim.Native.Nat.{ℕ, zero, suc, ◌+◌, ◌≤◌, ◌<◌}
use mathlib.Core.Path.{◌≡◌, refl, sym, ap, ◌∙◌}
use mathlib.Core.Bool.{Bool, true, false, cond, ◌||◌, or-true}
use mathlib.Core.List.{List, [], ◌∷◌, ◌++◌, append_assoc, append-nil}
use native.Mathlib.Omega.{arith}
use lib.ListN.{length, get_or, take}
use lib.Seq.{take-suc, take-length}
use lib.Dec.{eqb}
use borrow.Author.Tests.{eq-eqb}
use Rattle.octets.specs.Tests.{clash, Same, same, other, same?}
use Rattle.types.specs.declared.Key.{Key}
use Rattle.slots.specs.Below.{all_below}
use Rattle.slots.specs.BelowLaws.{all_at, all_same}
use Rattle.slots.specs.FrontLaws.{same_key_lem, key_same}
use Rattle.types.specs.declared.Slot.{Slot}
use Rattle.slots.specs.Slots.{slot_at, same_key}
use Rattle.cells.specs.Cells.{joined}
use Rattle.series.specs.Taking.{Answer}
use Rattle.series.specs.CaseLaws.{Lacks}
use Rattle.sequences.specs.Lists.{concat, elem, elem_key, add, add_key, complete, drop_key}
use Rattle.sequences.specs.Wake.{first_slot}

-- ---- two keys, the same or not
pub data Alike (a b : Key) : Type 0 where
  alike : same_key a b ≡ true → a ≡ b → Alike a b
  unlike : same_key a b ≡ false → (a ≡ b → ⊥) → Alike a b

pub alike? : (a b : Key) → Alike a b
alike? a b = go (same_key a b) refl
  where
    go : (t : Bool) → same_key a b ≡ t → Alike a b
    go true e = alike e (same_key_lem a b e)
    go false e = unlike e (λ p. clash (same_key a b) (key_same a b p) e)

-- ---- numbers that have come
pub elem_add : (k j : ℕ) (l : List ℕ) → elem j (add k l) ≡ eqb j k || elem j l
elem_add k j l = go (elem k l) refl (same? j k)
  where
    go : (b : Bool) → elem k l ≡ b → Same j k → elem j (cond b l (k ∷ l)) ≡ eqb j k || elem j l
    go true e (same p q) = rw (p, q) e
    go true e (other p q) = rw p
    go false e s = refl

pub elem_still : (k j : ℕ) (l : List ℕ) → elem j l ≡ true → elem j (add k l) ≡ true
elem_still k j l e = elem_add k j l ∙ rw (e, or-true (eqb j k))

pub add_old : (k : ℕ) (l : List ℕ) → elem k l ≡ true → add k l ≡ l
add_old k l e = rw e

pub add_not_nil : (k : ℕ) (l : List ℕ) → add k l ≡ [] → ⊥
add_not_nil k l e = clash (elem k (add k l)) (elem_add k k l ∙ rw (eq-eqb k k refl)) (ap (elem k) e)

-- behind the first part the slot stays
pub first_known : (got : List ℕ) (answer : Answer) (was : ℕ) → (got ≡ [] → ⊥) → first_slot got answer was ≡ was
first_known [] answer was begun = absurd (begun refl)
first_known (m ∷ got) answer was begun = refl

-- with number k too, none is missing
pub complete_add : (t k : ℕ) (got : List ℕ) → complete t (add k got) ≡ all_below t (λ i. eqb (i + 1) k || elem (i + 1) got)
complete_add t k got = all_same t (λ i. elem (i + 1) (add k got)) (λ i. eqb (i + 1) k || elem (i + 1) got) (λ i l. elem_add k (i + 1) got)

-- one number alone is not all of two or more
pub one_short : (t k : ℕ) → 2 ≤ t → complete t (add k []) ≡ false
one_short t k two = go (complete t (add k [])) refl
  where
    go : (b : Bool) → complete t (add k []) ≡ b → b ≡ false
    go false e = refl
    go true e =
        let a : elem 1 (k ∷ []) ≡ true = all_at t (λ i. elem (i + 1) (k ∷ [])) e 0 (omega arith) in
        let b : elem 2 (k ∷ []) ≡ true = all_at t (λ i. elem (i + 1) (k ∷ [])) e 1 (omega arith) in
        let p : 1 ≡ k = only 1 a in
        let q : 2 ≡ k = only 2 b in
        absurd (omega arith)
      where
        only : (j : ℕ) → elem j (k ∷ []) ≡ true → j ≡ k
        only j h = is (same? j k)
          where
            is : Same j k → j ≡ k
            is (same f g) = g
            is (other f g) = absurd (clash false (simp f at h) refl)

-- ---- keys
pub elem_key_add : (X Y : Key) (l : List Key) → elem_key Y l ≡ true → elem_key Y (add_key X l) ≡ true
elem_key_add X Y l h = go (elem_key X l) (same_key Y X)
  where
    go : (b c : Bool) → elem_key Y (cond b l (X ∷ l)) ≡ true
    go true c = h
    go false c = later (same_key Y X)
      where
        later : (c : Bool) → c || elem_key Y l ≡ true
        later true = refl
        later false = h

pub elem_key_self : (X : Key) (l : List Key) → elem_key X (add_key X l) ≡ true
elem_key_self X l = go (elem_key X l) refl
  where
    go : (b : Bool) → elem_key X l ≡ b → elem_key X (cond b l (X ∷ l)) ≡ true
    go true e = e
    go false e = rw (key_same X X refl)

pub length_add_key : (X : Key) (l : List Key) → length l ≤ length (add_key X l)
length_add_key X l = go (elem_key X l)
  where
    go : (b : Bool) → length l ≤ length (cond b l (X ∷ l))
    go true = omega arith
    go false = omega arith

pub elem_dropped : (X Y : Key) (l : List Key) → (Y ≡ X → ⊥) → elem_key Y l ≡ true → elem_key Y (drop_key X l) ≡ true
elem_dropped X Y [] ne h = h
elem_dropped X Y (Z ∷ l) ne h = go (elem_dropped X Y l ne) (alike? X Z) (alike? Y Z)
  where
    go : (elem_key Y l ≡ true → elem_key Y (drop_key X l) ≡ true) → Alike X Z → Alike Y Z → elem_key Y (drop_key X (Z ∷ l)) ≡ true
    go ih (alike e p) (alike f q) = absurd (ne (q ∙ sym p))
    go ih (alike e p) (unlike f q) = simp e (simp f at h)
    go ih (unlike e p) (alike f q) = simp (e, f)
    go ih (unlike e p) (unlike f q) = simp (e, f) (ih (simp f at h))

length_dropped : (X : Key) (l : List Key) → elem_key X l ≡ true → suc (length (drop_key X l)) ≡ length l
length_dropped X [] h = absurd (clash false h refl)
length_dropped X (Z ∷ l) h = go (length_dropped X l) (alike? X Z)
  where
    go : (elem_key X l ≡ true → suc (length (drop_key X l)) ≡ length l) → Alike X Z → suc (length (drop_key X (Z ∷ l))) ≡ suc (length l)
    go ih (alike e p) = simp e
    go ih (unlike e p) = simp e (ap suc (ih (simp e at h)))

-- n different keys that are all in a list: it has n at least
pub pigeon : (n : ℕ) (f : ℕ → Key) (l : List Key) → ((j : ℕ) → j < n → elem_key (f j) l ≡ true)
    → ((i j : ℕ) → i < n → j < n → f i ≡ f j → i ≡ j) → n ≤ length l
pigeon zero f l all apart = omega arith
pigeon (suc n) f l all apart =
    let fewer : n ≤ length (drop_key (f n) l) =
    pigeon n f (drop_key (f n) l) (λ j h. elem_dropped (f n) (f j) l (λ e. differ j h e) (all j (omega arith))) (λ i j h g. apart i j (omega arith) (omega arith)) in
    omega (arith, length_dropped (f n) l (all n (omega arith)))
  where
    differ : (j : ℕ) → j < n → f j ≡ f n → ⊥
    differ j h e = let q : j ≡ n = apart j n (omega arith) (omega arith) e in omega arith

-- The keys of the slots, all used, and a key that they lack in the place i of one of them or behind them: all m are different.
pub keys_apart : (n m i : ℕ) (xs : List Slot) (X : Key) → ((j : ℕ) → j < m → (j ≡ i → ⊥) → j < n) → ((j : ℕ) → j < n → 0 < (slot_at xs j).rank)
    → ((j l : ℕ) → j < n → l < n → 0 < (slot_at xs j).rank → 0 < (slot_at xs l).rank → (slot_at xs j).key ≡ (slot_at xs l).key → j ≡ l) → Lacks n xs X
    → (j l : ℕ) → j < m → l < m → cond (eqb j i) X (slot_at xs j).key ≡ cond (eqb l i) X (slot_at xs l).key → j ≡ l
keys_apart n m i xs X inside all keys lacks j l a b q = go (same? j i) (same? l i)
  where
    go : Same j i → Same l i → j ≡ l
    go (same e p) (same f g) = p ∙ sym g
    go (same e p) (other f g) = absurd (lacks l (inside l b g) (all l (inside l b g)) (sym (simp (e, f) at q)))
    go (other e p) (same f g) = absurd (lacks j (inside j a p) (all j (inside j a p)) (simp (e, f) at q))
    go (other e p) (other f g) = keys j l (inside j a p) (inside l b g) (all j (inside j a p)) (all l (inside l b g)) (simp (e, f) at q)

-- ---- parts that join to the packet
pub concat_last : (ps : List (List ℕ)) (p : List ℕ) → concat (ps ++ (p ∷ [])) ≡ concat ps ++ p
concat_last [] p = append-nil p
concat_last (q ∷ ps) p = rw (concat_last ps p, append_assoc)

joined_first : (ps : List (List ℕ)) (f : ℕ → List ℕ) (m : ℕ) → m ≤ length ps → ((q : ℕ) → q < length ps → f (suc q) ≡ get_or ps q []) → joined f m ≡ concat (take m ps)
unfolding joined
joined_first ps f zero l h = refl
joined_first ps f (suc m) l h =
    rw (joined_first ps f m (omega arith) h, h m (omega arith), take-suc ps m [] (omega arith)) (sym (concat_last (take m ps) (get_or ps m [])))

pub joined_parts : (ps : List (List ℕ)) (f : ℕ → List ℕ) → ((q : ℕ) → q < length ps → f (suc q) ≡ get_or ps q []) → joined f (length ps) ≡ concat ps
joined_parts ps f h = joined_first ps f (length ps) (omega arith) h ∙ ap concat (take-length ps)
