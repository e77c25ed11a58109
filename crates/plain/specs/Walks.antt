-- Laws of walks and copies: what a walk finds, what passes and what does not, and which parts a copy has.
use Rattle.std.specs.Prelude.{ℕ, zero, suc, ◌+◌, ◌≤◌, ◌<◌, ◌≡◌, Bool, cond, eqb}
use Rattle.std.proofs.Math.Path.{refl}
use Rattle.std.proofs.Common.{sym, ◌∙◌, arith, eqb-true, eq-eqb}
use Rattle.std.proofs.Math.Bool.{true, false}
use mathlib.Core.List.{List, [], ◌∷◌, ◌++◌, map}
use Rattle.std.proofs.Math.Option.{Option, none, some}
use Rattle.octets.specs.Tests.{clash, both, both_hold, Same, same, other, same?}
use Rattle.plain.specs.Entries.{Entry}
use Rattle.plain.specs.Log.{first_entry, is_some, has_entry, is_part, of_slot, only, noted_as, free_from}
use Rattle.plain.specs.Same.{All, nil, cons, Once, once_none, once_more}

-- ---- a test
pub is_part_lem : (i number : ℕ) (e : Entry) → is_part i number e ≡ true → (e.slot ≡ i) × (e.number ≡ number)
is_part_lem i number e t = let (a, b) = both (eqb e.slot i) (eqb e.number number) t in (eqb-true e.slot i a, eqb-true e.number number b)

pub part_is : (i number : ℕ) (e : Entry) → e.slot ≡ i → e.number ≡ number → is_part i number e ≡ true
part_is i number e a b = both_hold (eqb e.slot i) (eqb e.number number) (eq-eqb e.slot i a) (eq-eqb e.number number b)

-- ---- walks
-- what a walk finds is in the log, and passes
pub first_tells : (P : Entry → Type 0) (p : Entry → Bool) (log : List Entry) → All P log → (e : Entry) → first_entry p log ≡ some e → P e × (p e ≡ true)
unfolding first_entry
first_tells P p [] nil e q = let z : ◌≡◌ {A = ℕ} 0 1 = cc in absurd (omega arith)
first_tells P p (x ∷ log) (cons h t) e q = go (p x) refl q (first_tells P p log t e)
  where
    go : (b : Bool) → p x ≡ b → cond b (some x) (first_entry p log) ≡ some e → (first_entry p log ≡ some e → P e × (p e ≡ true)) → P e × (p e ≡ true)
    go true a r ih = let s : x ≡ e = cc in let m : P x × (p x ≡ true) = (h, a) in rw s at m
    go false a r ih = ih r

-- by what it finds
pub data Finds (p : Entry → Bool) (log : List Entry) : Option Entry → Type 0 where
  finds_one : (e : Entry) → first_entry p log ≡ some e → Finds p log (some e)
  finds_none : has_entry p log ≡ false → Finds p log none

pub finds? : (p : Entry → Bool) (log : List Entry) → Finds p log (first_entry p log)
finds? p log = go (first_entry p log) refl
  where
    go : (r : Option Entry) → first_entry p log ≡ r → Finds p log r
    go none e = finds_none (rw e)
    go (some x) e = finds_one x e

-- an entry that passes a walk's test
pub has_tells : (P : Entry → Type 0) (p : Entry → Bool) (log : List Entry) → All P log → has_entry p log ≡ true → (e : Entry) × P e × (p e ≡ true)
has_tells P p log a h = go (first_entry p log) (finds? p log) h
  where
    go : (r : Option Entry) → Finds p log r → is_some r ≡ true → (e : Entry) × P e × (p e ≡ true)
    go r (finds_one e q) z = let (b, t) = first_tells P p log a e q in (e, b, t)
    go r (finds_none q) z = absurd (clash false z refl)

-- what passes one test and so another is found by that one too
pub has_more : (P : Entry → Type 0) (p q : Entry → Bool) (log : List Entry) → All P log → ((e : Entry) → P e → p e ≡ true → q e ≡ true)
    → has_entry p log ≡ true → has_entry q log ≡ true
unfolding first_entry
has_more P p q [] nil f h = h
has_more P p q (x ∷ log) (cons a t) f h = go (p x) refl (q x) refl h (has_more P p q log t f)
  where
    go : (b : Bool) → p x ≡ b → (c : Bool) → q x ≡ c → is_some (cond b (some x) (first_entry p log)) ≡ true → (has_entry p log ≡ true → has_entry q log ≡ true)
        → is_some (cond c (some x) (first_entry q log)) ≡ true
    go b d true g h ih = refl
    go true d false g h ih = absurd (clash (q x) (f x a d) g)
    go false d false g h ih = ih h

-- nothing passes
pub has_none : (P : Entry → Type 0) (p : Entry → Bool) (log : List Entry) → All P log → ((e : Entry) → P e → p e ≡ true → ⊥) → has_entry p log ≡ false
has_none P p log a f = go (first_entry p log) (finds? p log)
  where
    go : (r : Option Entry) → Finds p log r → is_some r ≡ false
    go r (finds_one e q) = let (h, t) = first_tells P p log a e q in absurd (f e h t)
    go r (finds_none q) = refl

-- none passes, so each fails
pub none_all : (p : Entry → Bool) (log : List Entry) → has_entry p log ≡ false → All (λ e. p e ≡ false) log
unfolding first_entry
none_all p [] h = nil
none_all p (e ∷ log) h = go (p e) refl h (none_all p log)
  where
    go : (b : Bool) → p e ≡ b → is_some (cond b (some e) (first_entry p log)) ≡ false → (has_entry p log ≡ false → All (λ e. p e ≡ false) log) → All (λ e. p e ≡ false) (e ∷ log)
    go true q h ih = absurd (clash true refl h)
    go false q h ih = cons q (ih h)

-- ---- the lowest free slot
pub free_hit : (log : List Entry) (m b i : ℕ) → b ≤ i → i < b + m → has_entry (of_slot i) log ≡ false → ((j : ℕ) → b ≤ j → j < i → has_entry (of_slot j) log ≡ true)
    → free_from log b m ≡ some i
unfolding free_from
free_hit log zero b i l h gap below = absurd (omega arith)
free_hit log (suc m) b i l h gap below = go (same? b i) (free_hit log m (suc b) i)
  where
    go : Same b i → (suc b ≤ i → i < suc b + m → has_entry (of_slot i) log ≡ false → ((j : ℕ) → suc b ≤ j → j < i → has_entry (of_slot j) log ≡ true) → free_from log (suc b) m ≡ some i)
        → cond (has_entry (of_slot b) log) (free_from log (suc b) m) (some b) ≡ some i
    go (same e p) ih = rw (p, gap)
    go (other e p) ih = rw (below b (omega arith) (omega arith)) (ih (omega arith) (omega arith) gap (λ j a c. below j (omega arith) c))

pub free_miss : (log : List Entry) (m b : ℕ) → ((j : ℕ) → b ≤ j → j < b + m → has_entry (of_slot j) log ≡ true) → free_from log b m ≡ none
unfolding free_from
free_miss log zero b all = refl
free_miss log (suc m) b all = rw (all b (omega arith) (omega arith)) (free_miss log m (suc b) (λ j a c. all j (omega arith) (omega arith)))

-- ---- claims about each entry
pub all_weaker : (P Q : Entry → Type 0) (log : List Entry) → All P log → ((e : Entry) → P e → Q e) → All Q log
all_weaker P Q [] nil f = nil
all_weaker P Q (x ∷ log) (cons h t) f = cons (f x h) (all_weaker P Q log t f)

pub all_and : (P Q : Entry → Type 0) (log : List Entry) → All P log → All Q log → All (λ e. P e × Q e) log
all_and P Q [] nil nil = nil
all_and P Q (e ∷ log) (cons a s) (cons b t) = cons (a, b) (all_and P Q log s t)

pub all_map : (P Q : Entry → Type 0) (f : Entry → Entry) (log : List Entry) → All P log → ((e : Entry) → P e → Q (f e)) → All Q (map f log)
all_map P Q f [] nil g = nil
all_map P Q f (x ∷ log) (cons h t) g = cons (g x h) (all_map P Q f log t g)

pub all_only : (P : Entry → Type 0) (p : Entry → Bool) (log : List Entry) → All P log → All (λ e. P e × (p e ≡ true)) (only p log)
unfolding only
all_only P p [] nil = nil
all_only P p (x ∷ log) (cons h t) = go (p x) refl (all_only P p log t)
  where
    go : (b : Bool) → p x ≡ b → All (λ e. P e × (p e ≡ true)) (only p log) → All (λ e. P e × (p e ≡ true)) (cond b (x ∷ only p log) (only p log))
    go true e ih = cons (h, e) ih
    go false e ih = ih

pub all_snoc : (P : Entry → Type 0) (log : List Entry) (e : Entry) → All P log → P e → All P (log ++ e ∷ [])
all_snoc P [] e nil h = cons h nil
all_snoc P (x ∷ log) e (cons a t) h = cons a (all_snoc P log e t h)

-- ---- a copy that alters ranks and counts alone has the same parts
module _ (f g : Entry → ℕ) where
  pub part_noted : (j number : ℕ) (log : List Entry) → has_entry (is_part j number) (map (λ e. noted_as (f e) (g e) e) log) ≡ has_entry (is_part j number) log
  unfolding first_entry
  part_noted j number [] = refl
  part_noted j number (x ∷ log) = go (is_part j number x) (part_noted j number log)
    where
      go : (b : Bool) → has_entry (is_part j number) (map (λ e. noted_as (f e) (g e) e) log) ≡ has_entry (is_part j number) log
          → is_some (cond b (some (noted_as (f x) (g x) x)) (first_entry (is_part j number) (map (λ e. noted_as (f e) (g e) e) log))) ≡ is_some (cond b (some x) (first_entry (is_part j number) log))
      go true ih = refl
      go false ih = ih

  pub once_noted : (log : List Entry) → Once log → Once (map (λ e. noted_as (f e) (g e) e) log)
  once_noted [] once_none = once_none
  once_noted (x ∷ log) (once_more h t) = once_more (part_noted x.slot x.number log ∙ h) (once_noted log t)

-- ---- a copy of some entries
-- has the parts of a slot whose entries are all copied
pub part_only : (P : Entry → Type 0) (p : Entry → Bool) (j number : ℕ) (log : List Entry) → All P log → ((e : Entry) → P e → e.slot ≡ j → p e ≡ true)
    → has_entry (is_part j number) (only p log) ≡ has_entry (is_part j number) log
unfolding first_entry only
part_only P p j number [] nil f = refl
part_only P p j number (x ∷ log) (cons h t) f = go (p x) refl (is_part j number x) refl (part_only P p j number log t f)
  where
    go : (b : Bool) → p x ≡ b → (c : Bool) → is_part j number x ≡ c → has_entry (is_part j number) (only p log) ≡ has_entry (is_part j number) log
        → is_some (first_entry (is_part j number) (cond b (x ∷ only p log) (only p log))) ≡ is_some (cond c (some x) (first_entry (is_part j number) log))
    go true e true q ih = rw q
    go true e false q ih = rw q ih
    go false e true q ih = absurd (clash (p x) (f x h (is_part_lem j number x q).0) e)
    go false e false q ih = ih

-- and nothing that the log has not
pub none_only : (p q : Entry → Bool) (log : List Entry) → has_entry q log ≡ false → has_entry q (only p log) ≡ false
unfolding first_entry only
none_only p q [] h = h
none_only p q (x ∷ log) h = go (p x) (q x) refl h (none_only p q log)
  where
    go : (b c : Bool) → q x ≡ c → is_some (cond c (some x) (first_entry q log)) ≡ false → (has_entry q log ≡ false → has_entry q (only p log) ≡ false)
        → is_some (first_entry q (cond b (x ∷ only p log) (only p log))) ≡ false
    go b true e h ih = absurd (clash true refl h)
    go true false e h ih = rw e (ih h)
    go false false e h ih = ih h

pub once_only : (p : Entry → Bool) (log : List Entry) → Once log → Once (only p log)
unfolding only
once_only p [] once_none = once_none
once_only p (x ∷ log) (once_more h t) = go (p x) (once_only p log t)
  where
    go : (b : Bool) → Once (only p log) → Once (cond b (x ∷ only p log) (only p log))
    go true ih = once_more (none_only p (is_part x.slot x.number) log h) ih
    go false ih = ih

-- ---- an entry more, at the end
pub snoc_old : (p : Entry → Bool) (log : List Entry) (e : Entry) → has_entry p log ≡ true → has_entry p (log ++ e ∷ []) ≡ true
unfolding first_entry
snoc_old p [] e h = absurd (clash false h refl)
snoc_old p (x ∷ log) e h = go (p x) h (snoc_old p log e)
  where
    go : (b : Bool) → is_some (cond b (some x) (first_entry p log)) ≡ true → (has_entry p log ≡ true → has_entry p (log ++ e ∷ []) ≡ true)
        → is_some (cond b (some x) (first_entry p (log ++ e ∷ []))) ≡ true
    go true h ih = refl
    go false h ih = ih h

pub snoc_new : (p : Entry → Bool) (log : List Entry) (e : Entry) → p e ≡ true → has_entry p (log ++ e ∷ []) ≡ true
unfolding first_entry
snoc_new p [] e h = rw h
snoc_new p (x ∷ log) e h = go (p x) (snoc_new p log e h)
  where
    go : (b : Bool) → has_entry p (log ++ e ∷ []) ≡ true → is_some (cond b (some x) (first_entry p (log ++ e ∷ []))) ≡ true
    go true ih = refl
    go false ih = ih

pub snoc_none : (p : Entry → Bool) (log : List Entry) (e : Entry) → has_entry p log ≡ false → p e ≡ false → has_entry p (log ++ e ∷ []) ≡ false
unfolding first_entry
snoc_none p [] e h q = rw q
snoc_none p (x ∷ log) e h q = go (p x) h (λ h. snoc_none p log e h q)
  where
    go : (b : Bool) → is_some (cond b (some x) (first_entry p log)) ≡ false → (has_entry p log ≡ false → has_entry p (log ++ e ∷ []) ≡ false)
        → is_some (cond b (some x) (first_entry p (log ++ e ∷ []))) ≡ false
    go true h ih = absurd (clash true refl h)
    go false h ih = ih h

pub once_snoc : (log : List Entry) (e : Entry) → Once log → has_entry (is_part e.slot e.number) log ≡ false → Once (log ++ e ∷ [])
unfolding first_entry
once_snoc [] e once_none h = once_more refl once_none
once_snoc (x ∷ log) e (once_more a t) h = go (is_part e.slot e.number x) refl h (once_snoc log e t)
  where
    flip : (b : Bool) → is_part x.slot x.number e ≡ b → is_part e.slot e.number x ≡ false → b ≡ false
    flip false q z = refl
    flip true q z =
        let (c, d) = is_part_lem x.slot x.number e q in
        absurd (clash (is_part e.slot e.number x) (part_is e.slot e.number x (sym c) (sym d)) z)

    go : (b : Bool) → is_part e.slot e.number x ≡ b → is_some (cond b (some x) (first_entry (is_part e.slot e.number) log)) ≡ false
        → (has_entry (is_part e.slot e.number) log ≡ false → Once (log ++ e ∷ [])) → Once (x ∷ log ++ e ∷ [])
    go true q h ih = absurd (clash true refl h)
    go false q h ih = once_more (snoc_none (is_part x.slot x.number) log e a (flip (is_part x.slot x.number e) refl q)) (ih h)
