-- Laws of the tests over the numbers below n.
use Rattle.std.specs.Prelude.{ℕ, zero, suc, ◌+◌, ◌≤◌, ◌<◌, ◌≡◌, Bool, not, ◌&&◌, ◌||◌, eqb, ltb}
use Rattle.std.proofs.Math.Path.{refl}
use Rattle.std.proofs.Common.{sym, ap, ◌∙◌, add-one, eq-eqb, ne_eqb, ltb-true, ltb-false, lt-ltb, le-ltb}
use Rattle.std.proofs.Math.Bool.{true, false, cond, and-true}
use native.Mathlib.Omega.{arith}
use Rattle.std.specs.Int.Bits.{bit_or}
use mir.Val.{bool_byte}
use Rattle.octets.specs.Tests.{clash, both, Same, same, other, same?}
use Rattle.slots.specs.Below.{all_below, any_below, count_below, fault}

-- ---- one number more, as a loop goes
module _ (f : ℕ → Bool) (i : ℕ) where
  pub all_more : (ok b : Bool) → ok ≡ all_below i f → b ≡ f i → ok && b ≡ all_below (i + 1) f
  unfolding all_below
  all_more ok b e h = rw (add-one, e, h)

  pub any_more : (ok b : Bool) → ok ≡ any_below i f → b ≡ f i → ok || b ≡ any_below (i + 1) f
  unfolding any_below
  any_more ok b e h = rw (add-one, e, h)

  pub count_more : (m b : ℕ) → m ≡ count_below i f → b ≡ cond (f i) 1 0 → m + b ≡ count_below (i + 1) f
  unfolding count_below
  count_more m b e h = rw (add-one, e, h) (go (f i))
    where
      go : (t : Bool) → count_below i f + cond t 1 0 ≡ cond t (suc (count_below i f)) (count_below i f)
      go true = omega arith
      go false = omega arith

  pub fault_more : (bad : ℕ) (wrong : Bool) → bad ≡ fault (all_below i f) → wrong ≡ not (f i)
      → bit_or bad (bool_byte wrong) ≡ fault (all_below (i + 1) f)
  unfolding all_below
  fault_more bad wrong e h = rw (add-one, e, h) (go (all_below i f) (f i))
    where
      go : (a b : Bool) → bit_or (fault a) (bool_byte (not b)) ≡ fault (a && b)
      go true true = refl
      go true false = refl
      go false true = refl
      go false false = refl

module _ (f : ℕ → Bool) where
  pub fault_from : 0 ≡ fault (all_below 0 f)
  unfolding all_below
  fault_from = refl

  pub all_from : true ≡ all_below 0 f
  unfolding all_below
  all_from = refl

  pub any_from : false ≡ any_below 0 f
  unfolding any_below
  any_from = refl

  pub count_from : 0 ≡ count_below 0 f
  unfolding count_below
  count_from = refl

-- a loop that has come to its end
module _ (f : ℕ → Bool) (i n : ℕ) (low : i ≤ n) (high : n ≤ i) where
  end : i ≡ n
  end = omega arith

  pub all_through : (ok : Bool) → ok ≡ all_below i f → ok ≡ all_below n f
  all_through ok e = rw (← end) e

  pub fault_through : (bad : ℕ) → bad ≡ fault (all_below i f) → eqb bad 0 ≡ all_below n f
  fault_through bad e = rw (← end, e) (go (all_below i f))
    where
      go : (b : Bool) → eqb (fault b) 0 ≡ b
      go true = refl
      go false = refl

  pub any_through : (any : Bool) → any ≡ any_below i f → any ≡ any_below n f
  any_through any e = rw (← end) e

  pub count_through : (m : ℕ) → m ≡ count_below i f → m ≡ count_below n f
  count_through m e = rw (← end) e

-- ---- what the tests tell, and what they follow from
pub all_at : (n : ℕ) (f : ℕ → Bool) → all_below n f ≡ true → (i : ℕ) → i < n → f i ≡ true
unfolding all_below
all_at zero f e i l = absurd (omega arith)
all_at (suc n) f e i l = go (all_at n f (both (all_below n f) (f n) e).0 i) (same? i n)
  where
    go : (i < n → f i ≡ true) → Same i n → f i ≡ true
    go ih (same p q) = ap f q ∙ (both (all_below n f) (f n) e).1
    go ih (other p q) = ih (omega arith)

pub all_hold : (n : ℕ) (f : ℕ → Bool) → ((i : ℕ) → i < n → f i ≡ true) → all_below n f ≡ true
unfolding all_below
all_hold zero f h = refl
all_hold (suc n) f h = rw (all_hold n f (λ i l. h i (omega arith)), h n (omega arith))

pub all_same : (n : ℕ) (f g : ℕ → Bool) → ((i : ℕ) → i < n → f i ≡ g i) → all_below n f ≡ all_below n g
unfolding all_below
all_same zero f g h = refl
all_same (suc n) f g h = rw (all_same n f g (λ i l. h i (omega arith)), h n (omega arith))

pub any_hold : (n : ℕ) (f : ℕ → Bool) (i : ℕ) → i < n → f i ≡ true → any_below n f ≡ true
unfolding any_below
any_hold zero f i l e = absurd (omega arith)
any_hold (suc n) f i l e = go (λ m. any_hold n f i m e) (any_below n f) refl (same? i n)
  where
    go : (i < n → any_below n f ≡ true) → (b : Bool) → any_below n f ≡ b → Same i n → b || f n ≡ true
    go ih true p s = refl
    go ih false p (same q r) = ap f (sym r) ∙ e
    go ih false p (other q r) = absurd (clash (any_below n f) (ih (omega arith)) p)

pub any_at : (n : ℕ) (f : ℕ → Bool) → any_below n f ≡ true → (i : ℕ) × (i < n) × (f i ≡ true)
unfolding any_below
any_at zero f e = absurd (clash false e refl)
any_at (suc n) f e = go (any_at n f) (any_below n f) refl e
  where
    go : (any_below n f ≡ true → (i : ℕ) × (i < n) × (f i ≡ true)) → (b : Bool) → any_below n f ≡ b → b || f n ≡ true
        → (i : ℕ) × (i < suc n) × (f i ≡ true)
    go ih true p q = let r = ih p in (r.0, omega arith, r.2)
    go ih false p q = (n, omega arith, q)

-- ---- counts
pub count_same : (n : ℕ) (f g : ℕ → Bool) → ((i : ℕ) → i < n → g i ≡ f i) → count_below n g ≡ count_below n f
unfolding count_below
count_same zero f g h = refl
count_same (suc n) f g h = rw (count_same n f g (λ i l. h i (omega arith)), h n (omega arith))

pub count_at_most : (n : ℕ) (f : ℕ → Bool) → count_below n f ≤ n
unfolding count_below
count_at_most zero f = omega arith
count_at_most (suc n) f = go (f n) (count_at_most n f)
  where
    go : (b : Bool) → count_below n f ≤ n → cond b (suc (count_below n f)) (count_below n f) ≤ suc n
    go true h = omega arith
    go false h = omega arith

-- where it holds of every number, the count is n
pub count_full : (n : ℕ) (f : ℕ → Bool) → ((i : ℕ) → i < n → f i ≡ true) → count_below n f ≡ n
unfolding count_below
count_full zero f h = refl
count_full (suc n) f h = rw (h n (omega arith), count_full n f (λ i l. h i (omega arith)))

-- where it holds of none, it is 0
pub count_zero : (n : ℕ) (f : ℕ → Bool) → ((i : ℕ) → i < n → f i ≡ false) → count_below n f ≡ 0
unfolding count_below
count_zero zero f h = refl
count_zero (suc n) f h = rw (h n (omega arith), count_zero n f (λ i l. h i (omega arith)))

-- a test that holds of j too, and else is the same, counts one more
pub count_one : (n : ℕ) (f g : ℕ → Bool) (j : ℕ) → j < n → f j ≡ false → g j ≡ true → ((i : ℕ) → i < n → (i ≡ j → ⊥) → g i ≡ f i)
    → count_below n g ≡ suc (count_below n f)
unfolding count_below
count_one zero f g j l a b h = absurd (omega arith)
count_one (suc n) f g j l a b h = go (λ m. count_one n f g j m a b (λ i k. h i (omega arith))) (same? j n)
  where
    past : (t : Bool) → cond t (suc (suc (count_below n f))) (suc (count_below n f)) ≡ suc (cond t (suc (count_below n f)) (count_below n f))
    past true = refl
    past false = refl

    go : (j < n → count_below n g ≡ suc (count_below n f)) → Same j n → cond (g n) (suc (count_below n g)) (count_below n g) ≡ suc (cond (f n) (suc (count_below n f)) (count_below n f))
    go ih (same p q) =
        let a' : f n ≡ false = ap f (sym q) ∙ a in
        let b' : g n ≡ true = ap g (sym q) ∙ b in
        rw (a', b', count_same n f g (λ i m. h i (omega arith) (λ e. omega arith)))
    go ih (other p q) = rw (ih (omega arith), h n (omega arith) (λ e. q (sym e))) (past (f n))

-- one that holds wherever the other does counts no less
pub count_mono : (n : ℕ) (f g : ℕ → Bool) → ((i : ℕ) → i < n → f i ≡ true → g i ≡ true) → count_below n f ≤ count_below n g
unfolding count_below
count_mono zero f g h = omega arith
count_mono (suc n) f g h = go (f n) refl (g n) refl (count_mono n f g (λ i l. h i (omega arith)))
  where
    go : (a : Bool) → f n ≡ a → (b : Bool) → g n ≡ b → count_below n f ≤ count_below n g
        → cond a (suc (count_below n f)) (count_below n f) ≤ cond b (suc (count_below n g)) (count_below n g)
    go true p true q l = omega arith
    go true p false q l = absurd (clash (g n) (h n (omega arith) p) q)
    go false p true q l = omega arith
    go false p false q l = l

-- one that fails somewhere where the other holds counts less
pub count_less : (n : ℕ) (f g : ℕ → Bool) → ((i : ℕ) → i < n → f i ≡ true → g i ≡ true) → (j : ℕ) → j < n → f j ≡ false → g j ≡ true
    → count_below n f < count_below n g
count_less n f g h j l a b =
    let with_j : ℕ → Bool = λ i. cond (eqb i j) true (f i) in
    let one : count_below n with_j ≡ suc (count_below n f) = count_one n f with_j j l a (rw (eq-eqb j j refl)) (λ i m ne. rw (ne_eqb i j ne)) in
    let most : count_below n with_j ≤ count_below n g = count_mono n with_j g (λ i m. go i m (same? i j)) in
    omega arith
  where
    go : (i : ℕ) → i < n → Same i j → cond (eqb i j) true (f i) ≡ true → g i ≡ true
    go i m (same p q) e = ap g q ∙ b
    go i m (other p q) e = h i m (simp p at e)

-- a test that fails of one number below n
pub all_fails : (n : ℕ) (f : ℕ → Bool) → all_below n f ≡ false → (i : ℕ) × (i < n) × (f i ≡ false)
unfolding all_below
all_fails zero f e = absurd (clash true refl e)
all_fails (suc n) f e = go (all_fails n f) (all_below n f) refl e
  where
    go : (all_below n f ≡ false → (i : ℕ) × (i < n) × (f i ≡ false)) → (b : Bool) → all_below n f ≡ b → b && f n ≡ false
        → (i : ℕ) × (i < suc n) × (f i ≡ false)
    go ih true p q = (n, omega arith, q)
    go ih false p q = let r = ih p in (r.0, omega arith, r.2)

-- of the numbers below n, those below t are as many as t
pub count_below_lem : (n t : ℕ) → t ≤ n → count_below n (λ i. ltb i t) ≡ t
unfolding count_below
count_below_lem zero t l = omega arith
count_below_lem (suc n) t l = go (count_below_lem n t) (ltb n t) refl
  where
    go : (t ≤ n → count_below n (λ i. ltb i t) ≡ t) → (b : Bool) → ltb n t ≡ b
        → cond b (suc (count_below n (λ i. ltb i t))) (count_below n (λ i. ltb i t)) ≡ t
    go ih true e =
        let p : n < t = ltb-true n t e in
        ap suc (count_full n (λ i. ltb i t) (λ i m. lt-ltb i t (omega arith))) ∙ omega arith
    go ih false e = let p : t ≤ n = ltb-false n t e in ih p

-- ---- two tests that come to one another
-- the numbers below n that are below t too
pub all_up_to : (n t : ℕ) (f : ℕ → Bool) → t ≤ n → all_below n (λ i. not (ltb i t) || f i) ≡ all_below t f
unfolding all_below
all_up_to zero t f l = let z : t ≡ 0 = omega arith in rw z
all_up_to (suc n) t f l = go (all_up_to n t f) (same? t (suc n))
  where
    low : (i : ℕ) → i < t → (not (ltb i t) || f i) ≡ f i
    low i m = rw (lt-ltb i t m)

    go : (t ≤ n → all_below n (λ i. not (ltb i t) || f i) ≡ all_below t f) → Same t (suc n)
        → all_below n (λ i. not (ltb i t) || f i) && (not (ltb n t) || f n) ≡ all_below t f
    go ih (same p q) = rw (all_same n (λ i. not (ltb i t) || f i) f (λ i m. low i (omega arith)), low n (omega arith)) (rw q)
    go ih (other p q) = rw (ih (omega arith), le-ltb n t (omega arith)) (and-true (all_below t f))

-- two tests of each number at once
pub all_both : (n : ℕ) (f g : ℕ → Bool) → all_below n (λ i. f i && g i) ≡ all_below n f && all_below n g
unfolding all_below
all_both zero f g = refl
all_both (suc n) f g = rw (all_both n f g) (swap (all_below n f) (all_below n g) (f n) (g n))
  where
    swap : (a b c d : Bool) → (a && b) && (c && d) ≡ (a && c) && (b && d)
    swap true true c d = refl
    swap true false true d = refl
    swap true false false d = refl
    swap false b c d = refl

-- tests that differ at 0 alone, where the first asks b as well
pub all_but_first : (n : ℕ) (f g : ℕ → Bool) (b : Bool) → f 0 ≡ g 0 && b → ((i : ℕ) → 0 < i → f i ≡ g i)
    → all_below (suc n) f ≡ all_below (suc n) g && b
unfolding all_below
all_but_first zero f g b z h = z
all_but_first (suc n) f g b z h = rw (all_but_first n f g b z h, h (suc n) (omega arith)) (swap (all_below (suc n) g) (g (suc n)) b)
  where
    swap : (a c b : Bool) → (a && b) && c ≡ (a && c) && b
    swap true true b = and-true b
    swap true false true = refl
    swap true false false = refl
    swap false c b = refl
