-- Tests and the facts that they tell, for proofs that go by cases.
use Rattle.std.specs.Prelude.{ℕ, ◌≡◌, refl, Bool, true, false, ◌&&◌, ◌||◌, eqb}
use Rattle.std.proofs.Common.{arith, eqb-true}
use Rattle.std.proofs.lemmas.Bool.{eqb-false}

-- no test both holds and fails
pub clash : (b : Bool) → b ≡ true → b ≡ false → ⊥
clash b p q = let z : ◌≡◌ {A = ℕ} 0 1 = cc in omega arith

pub both : (a b : Bool) → a && b ≡ true → (a ≡ true) × (b ≡ true)
both true b e = (refl, e)
both false b e = absurd (clash false e refl)

pub both_hold : (a b : Bool) → a ≡ true → b ≡ true → a && b ≡ true
both_hold a b p q = rw (p, q)

pub neither : (a b : Bool) → a || b ≡ false → (a ≡ false) × (b ≡ false)
neither true b e = absurd (clash true refl e)
neither false b e = (refl, e)

-- by cases on a test, with its equation
pub by_test : {P : Type 0} (b : Bool) → (b ≡ true → P) → (b ≡ false → P) → P
by_test true t f = t refl
by_test false t f = f refl

-- two numbers, the same or not
pub data Same (a b : ℕ) : Type 0 where
  same : eqb a b ≡ true → a ≡ b → Same a b
  other : eqb a b ≡ false → (a ≡ b → ⊥) → Same a b

pub same? : (a b : ℕ) → Same a b
same? a b = go (eqb a b) refl
  where
    go : (t : Bool) → eqb a b ≡ t → Same a b
    go true e = same e (eqb-true a b e)
    go false e = other e (eqb-false a b e)
