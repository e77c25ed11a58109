-- Ranks: where each of 1 to m is a rank and m slots are used, no rank is above m and no two used slots have the same; and freeing keeps it so,
-- as coming to the front does, which proofs/AgedLaws.antt says. Said of a rank for each place, whatever the slots hold besides.
use Rattle.std.specs.Prelude.{ℕ, zero, suc, pred, ◌+◌, ◌-◌, ◌≤◌, ◌<◌, ◌≡◌, Bool, not, cond, ◌&&◌, ◌||◌}
use Rattle.std.proofs.Math.Path.{refl, ap}
use Rattle.std.proofs.Common.{sym, ◌∙◌, arith}
use Rattle.std.proofs.Math.Bool.{true, false}
use Rattle.std.proofs.Math.Dec.{eqb, leb}
use borrow.Author.Tests.{eq-eqb, ne_eqb, eqb-true, lt-ltb, le-ltb, leb-true, leb-false, le-leb, lt-leb}
use Rattle.octets.specs.Tests.{clash, Same, same, other, same?}
use Rattle.slots.specs.Below.{all_below, any_below, count_below}
use Rattle.slots.specs.BelowLaws.{all_at, all_hold, any_hold, any_at, count_same, count_zero, count_one, count_mono, count_less, count_full}
use Rattle.slots.specs.Slots.{aged, closed}

-- ---- the ranks of n places
abbrev pub has_rank : (ℕ → ℕ) → ℕ → Bool
has_rank rank i = not (eqb (rank i) 0)

abbrev pub some_rank : ℕ → (ℕ → ℕ) → ℕ → Bool
some_rank n rank r = any_below n (λ i. eqb (rank i) r)

abbrev pub Ranked : ℕ → (ℕ → ℕ) → Type 0
Ranked n rank = all_below (count_below n (has_rank rank)) (λ r. some_rank n rank (r + 1)) ≡ true

pub taken_pos : (q : ℕ) → 0 < q → not (eqb q 0) ≡ true
taken_pos q l = rw (ne_eqb q 0 (λ e. omega arith))

pub pos_taken : (q : ℕ) → not (eqb q 0) ≡ true → 0 < q
pos_taken zero e = absurd (clash false e refl)
pos_taken (suc q) e = omega arith

-- ---- as many different ranks as places that have one, at most
-- one place more brings at most one rank more
one_more_lem : (m k : ℕ) (f : ℕ → Bool) → count_below m (λ r. f r || eqb k (r + 1)) ≤ suc (count_below m f)
unfolding count_below
one_more_lem zero k f = omega arith
one_more_lem (suc m) k f = go (one_more_lem m k f) (same? k (m + 1))
  where
    here : (b : Bool) (c : ℕ) → cond (b || true) (suc c) c ≤ suc (cond b (suc c) c)
    here true c = omega arith
    here false c = omega arith

    there : (b : Bool) (x c : ℕ) → x ≤ suc c → cond (b || false) (suc x) x ≤ suc (cond b (suc c) c)
    there true x c l = omega arith
    there false x c l = omega arith

    or_none_lem : (r : ℕ) (b : Bool) → (k ≡ r + 1 → ⊥) → b || eqb k (r + 1) ≡ b
    or_none_lem r true ne = refl
    or_none_lem r false ne = ne_eqb k (r + 1) ne

    go : count_below m (λ r. f r || eqb k (r + 1)) ≤ suc (count_below m f) → Same k (m + 1)
        → cond (f m || eqb k (m + 1)) (suc (count_below m (λ r. f r || eqb k (r + 1)))) (count_below m (λ r. f r || eqb k (r + 1)))
        ≤ suc (cond (f m) (suc (count_below m f)) (count_below m f))
    go ih (same e p) = rw (e, count_same m f (λ r. f r || eqb k (r + 1)) (λ r l. or_none_lem r (f r) (λ q. omega arith))) (here (f m) (count_below m f))
    go ih (other e p) = rw e (there (f m) (count_below m (λ r. f r || eqb k (r + 1))) (count_below m f) ih)

none_counted : (m : ℕ) → count_below m (λ r. false) ≡ 0
unfolding count_below
none_counted zero = refl
none_counted (suc m) = none_counted m

or_free : (k : ℕ) (b : Bool) (r : ℕ) → k ≡ 0 → b || eqb k (r + 1) ≡ b
or_free k true r e = refl
or_free k false r e = ne_eqb k (r + 1) (λ q. omega arith)

pub different : (n m : ℕ) (rank : ℕ → ℕ) → count_below m (λ r. some_rank n rank (r + 1)) ≤ count_below n (has_rank rank)
unfolding any_below count_below
different zero m rank = rw (none_counted m) (omega arith)
different (suc n) m rank = go (different n m rank) (same? (rank n) 0)
  where
    go : count_below m (λ r. some_rank n rank (r + 1)) ≤ count_below n (has_rank rank) → Same (rank n) 0
        → count_below m (λ r. some_rank n rank (r + 1) || eqb (rank n) (r + 1)) ≤ cond (not (eqb (rank n) 0)) (suc (count_below n (has_rank rank))) (count_below n (has_rank rank))
    go ih (same e p) = rw (e, count_same m (λ r. some_rank n rank (r + 1)) (λ r. some_rank n rank (r + 1) || eqb (rank n) (r + 1)) (λ r l. or_free (rank n) (some_rank n rank (r + 1)) r p)) ih
    go ih (other e p) = rw e (omega (arith, one_more_lem m (rank n) (λ r. some_rank n rank (r + 1))))

-- ---- no rank is spare
module _ (n : ℕ) (rank : ℕ → ℕ) (w : Ranked n rank) where
  m : ℕ
  m = count_below n (has_rank rank)

  -- the ranks without that of place j
  abbrev without : ℕ → ℕ → ℕ
  without j i = cond (eqb i j) 0 (rank i)

  -- so j cannot have a rank that nobody needs of it
  spare : (j : ℕ) → j < n → 0 < rank j → ((r : ℕ) → r < m → (i : ℕ) × (i < n) × (i ≡ j → ⊥) × (rank i ≡ r + 1)) → ⊥
  unfolding m
  spare j l u others =
      let full : count_below m (λ r. some_rank n (without j) (r + 1)) ≡ m = count_full m (λ r. some_rank n (without j) (r + 1)) (λ r k. still r (others r k)) in
      let fewer : count_below n (has_rank (without j)) < count_below n (has_rank rank) =
      count_less n (has_rank (without j)) (has_rank rank) (λ i k. kept i (same? i j)) j l (rw (eq-eqb j j refl)) (taken_pos (rank j) u) in
      omega (arith, different n m (without j))
    where
      still : (r : ℕ) → (i : ℕ) × (i < n) × (i ≡ j → ⊥) × (rank i ≡ r + 1) → some_rank n (without j) (r + 1) ≡ true
      still r (i, k, ne, e) = any_hold n (λ i. eqb (without j i) (r + 1)) i k (rw (ne_eqb i j ne) (eq-eqb (rank i) (r + 1) e))

      kept : (i : ℕ) → Same i j → has_rank (without j) i ≡ true → has_rank rank i ≡ true
      kept i (same e p) t = absurd (clash false (simp e at t) refl)
      kept i (other e p) t = simp e at t

  some_place : (r : ℕ) → r < m → (i : ℕ) × (i < n) × (rank i ≡ r + 1)
  unfolding m
  some_place r l =
      let a = any_at n (λ i. eqb (rank i) (r + 1)) (all_at m (λ r. some_rank n rank (r + 1)) w r l) in
      (a.0, a.1, eqb-true (rank a.0) (r + 1) a.2)

  -- no rank is above the number of used places
  pub rank_bound : (j : ℕ) → j < n → rank j ≤ count_below n (has_rank rank)
  unfolding m
  rank_bound j l = go (leb (rank j) m) refl
    where
      go : (b : Bool) → leb (rank j) m ≡ b → rank j ≤ m
      go true e = leb-true (rank j) m e
      go false e =
          let high : m < rank j = leb-false (rank j) m e in
          absurd (spare j l (omega arith) (λ r k. let p = some_place r k in (p.0, p.1, (λ q. omega (arith, p.2, ap rank q)), p.2)))

  -- no two used places have the same rank
  pub ranks_differ : (i j : ℕ) → i < n → j < n → 0 < rank j → rank i ≡ rank j → i ≡ j
  ranks_differ i j k l u e = go (same? i j)
    where
      go : Same i j → i ≡ j
      go (same p q) = q
      go (other p q) = absurd (spare j l u (λ r h. pick r (some_place r h) (same? (some_place r h).0 j)))
        where
          pick : (r : ℕ) (a : (i : ℕ) × (i < n) × (rank i ≡ r + 1)) → Same a.0 j → (i : ℕ) × (i < n) × (i ≡ j → ⊥) × (rank i ≡ r + 1)
          pick r a (same f g) = (i, k, q, e ∙ ap rank (sym g) ∙ a.2)
          pick r a (other f g) = (a.0, a.1, g, a.2)

  -- where all n are used, one has rank n
  pub last_rank_lem : 0 < n → ((j : ℕ) → j < n → 0 < rank j) → (i : ℕ) × (i < n) × (rank i ≡ n)
  unfolding m
  last_rank_lem pos all =
      let full : m ≡ n = count_full n (has_rank rank) (λ i l. taken_pos (rank i) (all i l)) in
      let p = some_place (n - 1) (omega arith) in (p.0, p.1, omega (arith, p.2))

-- ---- what `aged` and `closed` do to a rank
pub data Aged (r q : ℕ) : Type 0 where
  free : q ≡ 0 → aged r q ≡ 0 → Aged r q
  moves : 0 < q → (r ≡ 0 → ⊥) → q < r → aged r q ≡ suc q → Aged r q
  yields : 0 < q → r ≡ 0 → aged r q ≡ suc q → Aged r q
  stays : 0 < q → 0 < r → r ≤ q → aged r q ≡ q → Aged r q

pub closed_near : (r q : ℕ) → q ≤ r → closed r q ≡ q
unfolding closed
closed_near r q l = rw (le-ltb r q l)

pub closed_far : (r q : ℕ) → r < q → closed r q ≡ pred q
unfolding closed
closed_far r q l = rw (lt-ltb r q l)

pub closed_taken : (r q : ℕ) → 0 < r → not (eqb (closed r q) 0) ≡ not (eqb q 0)
closed_taken r q h = go (leb q r) refl
  where
    go : (b : Bool) → leb q r ≡ b → not (eqb (closed r q) 0) ≡ not (eqb q 0)
    go true e = rw (closed_near r q (leb-true q r e))
    go false e =
        let l : r < q = leb-false q r e in
        rw (closed_far r q l) (taken_pos (pred q) (omega arith) ∙ sym (taken_pos q (omega arith)))

-- ---- freeing
module _ (n : ℕ) (rank : ℕ → ℕ) (w : Ranked n rank) (i : ℕ) (inside : i < n) (rank' : ℕ → ℕ) where
  pub place : (r : ℕ) → r < count_below n (has_rank rank) → (j : ℕ) × (j < n) × (rank j ≡ r + 1)
  place r l =
      let a = any_at n (λ j. eqb (rank j) (r + 1)) (all_at (count_below n (has_rank rank)) (λ r. some_rank n rank (r + 1)) w r l) in
      (a.0, a.1, eqb-true (rank a.0) (r + 1) a.2)

  pub found : (r j : ℕ) → j < n → rank' j ≡ r + 1 → some_rank n rank' (r + 1) ≡ true
  found r j l e = any_hold n (λ j. eqb (rank' j) (r + 1)) j l (eq-eqb (rank' j) (r + 1) e)

  pub free_ranked : 0 < rank i → rank' i ≡ 0 → ((j : ℕ) → j < n → (j ≡ i → ⊥) → rank' j ≡ closed (rank i) (rank j)) → Ranked n rank'
  free_ranked u here there = all_hold (count_below n (has_rank rank')) (λ r. some_rank n rank' (r + 1)) each
    where
      count : count_below n (has_rank rank) ≡ suc (count_below n (has_rank rank'))
      count =
          count_one n (has_rank rank') (has_rank rank) i inside (rw here) (taken_pos (rank i) u)
          (λ j l ne. rw (there j l ne) (sym (closed_taken (rank i) (rank j) u)))

      now_at : (r q : ℕ) → (j : ℕ) × (j < n) × (rank j ≡ q + 1) → (rank i ≡ q + 1 → ⊥) → closed (rank i) (q + 1) ≡ r + 1 → some_rank n rank' (r + 1) ≡ true
      now_at r q (j, l, e) ne g = found r j l (there j l (λ p. ne (ap rank (sym p) ∙ e)) ∙ ap (closed (rank i)) e ∙ g)

      go : (r : ℕ) → r < count_below n (has_rank rank') → (b : Bool) → leb (rank i) (r + 1) ≡ b → some_rank n rank' (r + 1) ≡ true
      go r l true e =
          let m : rank i ≤ r + 1 = leb-true (rank i) (r + 1) e in
          now_at r (r + 1) (place (r + 1) (omega (arith, count))) (λ q. omega arith) (closed_far (rank i) (r + 1 + 1) (omega arith) ∙ omega arith)
      go r l false e =
          let m : r + 1 < rank i = leb-false (rank i) (r + 1) e in
          now_at r r (place r (omega (arith, count))) (λ q. omega arith) (closed_near (rank i) (r + 1) (omega arith))

      each : (r : ℕ) → r < count_below n (has_rank rank') → some_rank n rank' (r + 1) ≡ true
      each r l = go r l (leb (rank i) (r + 1)) refl

-- ---- ranks keep their order
pub closed_mono : (r p q : ℕ) → p ≤ q → closed r p ≤ closed r q
closed_mono r p q l = go (leb p r) refl (leb q r) refl
  where
    go : (a : Bool) → leb p r ≡ a → (b : Bool) → leb q r ≡ b → closed r p ≤ closed r q
    go true e true f = rw (closed_near r p (leb-true p r e), closed_near r q (leb-true q r f)) l
    go true e false f = rw (closed_near r p (leb-true p r e), closed_far r q (leb-false q r f)) (omega (arith, leb-true p r e, leb-false q r f))
    go false e true f = absurd (omega (arith, leb-false p r e, leb-true q r f))
    go false e false f = rw (closed_far r p (leb-false p r e), closed_far r q (leb-false q r f)) (omega arith)

-- ---- the more recent ones alone
-- another number than the next one is at most that exactly if it is at most this one
leb_next : (a t : ℕ) → (a ≡ suc t → ⊥) → leb a (suc t) ≡ leb a t
leb_next a t ne = go (leb a t) refl
  where
    go : (b : Bool) → leb a t ≡ b → leb a (suc t) ≡ b
    go true e = le-leb a (suc t) (omega (arith, leb-true a t e))
    go false e = lt-leb a (suc t) (omega (arith, leb-false a t e))

module _ (n : ℕ) (rank : ℕ → ℕ) (w : Ranked n rank) where
  abbrev up_to : ℕ → ℕ → Bool
  up_to t i = has_rank rank i && leb (rank i) t

  -- at most t places have one of the ranks 1 to t
  few : (t : ℕ) → count_below n (up_to t) ≤ t
  few zero = omega (arith, count_zero n (up_to 0) (λ i l. none i (same? (rank i) 0)))
    where
      none : (i : ℕ) → Same (rank i) 0 → up_to 0 i ≡ false
      none i (same e p) = rw e
      none i (other e p) = rw (e, lt-leb (rank i) 0 (omega arith))
  few (suc t) = go (few t) (some_rank n rank (suc t)) refl
    where
      next : (i : ℕ) → (rank i ≡ suc t → ⊥) → up_to (suc t) i ≡ up_to t i
      next i ne = rw (leb_next (rank i) t ne)

      go : count_below n (up_to t) ≤ t → (b : Bool) → some_rank n rank (suc t) ≡ b → count_below n (up_to (suc t)) ≤ suc t
      go ih true e =
          let (j, l, f) = any_at n (λ i. eqb (rank i) (suc t)) e in
          let r : rank j ≡ suc t = eqb-true (rank j) (suc t) f in
          let one : count_below n (up_to (suc t)) ≡ suc (count_below n (up_to t)) =
          count_one n (up_to t) (up_to (suc t)) j l (rw (r, ne_eqb (suc t) 0 (λ z. omega arith), lt-leb (suc t) t (omega arith)))
          (rw (r, ne_eqb (suc t) 0 (λ z. omega arith), le-leb (suc t) (suc t) (omega arith)))
          (λ i m ne. next i (λ q. ne (ranks_differ n rank w i j m l (omega arith) (q ∙ sym r)))) in
          omega arith
      go ih false e =
          omega (arith, count_same n (up_to t) (up_to (suc t)) (λ i l. next i (λ q. clash (some_rank n rank (suc t)) (any_hold n (λ i. eqb (rank i) (suc t)) i l (eq-eqb (rank i) (suc t) q)) e)))

  -- If of two places the more recent stays where the other does, the ranks of those that stay have no gap.
  pub stay_ranked : (rank' : ℕ → ℕ) (stay : ℕ → Bool) → ((i : ℕ) → i < n → rank' i ≡ cond (stay i) (rank i) 0)
      → ((i j : ℕ) → i < n → j < n → 0 < rank i → rank i ≤ rank j → stay j ≡ true → stay i ≡ true) → Ranked n rank'
  stay_ranked rank' stay is down = all_hold (count_below n (has_rank rank')) (λ r. some_rank n rank' (r + 1)) each
    where
      -- a place that has a rank still has it, and stays
      still : (i : ℕ) → i < n → has_rank rank' i ≡ true → (stay i ≡ true) × (has_rank rank i ≡ true)
      still i l t = go (stay i) refl (ap (λ (q : ℕ). not (eqb q 0)) (sym (is i l)) ∙ t)
        where
          go : (b : Bool) → stay i ≡ b → not (eqb (cond b (rank i) 0) 0) ≡ true → (stay i ≡ true) × (has_rank rank i ≡ true)
          go true e h = (e, h)
          go false e h = absurd (clash false h refl)

      each : (r : ℕ) → r < count_below n (has_rank rank') → some_rank n rank' (r + 1) ≡ true
      each r l =
          let fewer : count_below n (has_rank rank') ≤ count_below n (has_rank rank) = count_mono n (has_rank rank') (has_rank rank) (λ i m t. (still i m t).1) in
          let (j, m, f) = any_at n (λ i. eqb (rank i) (r + 1)) (all_at (count_below n (has_rank rank)) (λ r. some_rank n rank (r + 1)) w r (omega arith)) in
          go j m (eqb-true (rank j) (r + 1) f) (stay j) refl
        where
          go : (j : ℕ) → j < n → rank j ≡ r + 1 → (b : Bool) → stay j ≡ b → some_rank n rank' (r + 1) ≡ true
          go j m f true e = any_hold n (λ i. eqb (rank' i) (r + 1)) j m (eq-eqb (rank' j) (r + 1) (is j m ∙ rw (e, f)))
          go j m f false e =
              absurd (omega (arith, few r, count_mono n (has_rank rank') (up_to r) (λ i h t. below i h (still i h t) (leb (rank i) r) refl)))
            where
              below : (i : ℕ) → i < n → (stay i ≡ true) × (has_rank rank i ≡ true) → (b : Bool) → leb (rank i) r ≡ b → has_rank rank i && b ≡ true
              below i h (s, t) true g = rw t
              below i h (s, t) false g = absurd (clash (stay j) (down j i m h (omega arith) (omega (arith, leb-false (rank i) r g)) s) e)
