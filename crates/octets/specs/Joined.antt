-- Parts one behind the other, and what they join to.
use Prim.Native.Nat.{ℕ, zero, suc, ◌+◌, ◌<◌}
use Rattle.std.specs.Prelude.{◌≡◌, List, [], ◌++◌, take, drop}
use Rattle.std.proofs.Common.{sym, arith, take-add}

module _ {A : Type 0} where
  -- f 1, f 2, .. f m, one behind the other
  unfoldable pub joined : (ℕ → List A) → ℕ → List A
  joined f zero = []
  joined f (suc m) = joined f m ++ f (suc m)

  -- Pieces of p, each beginning where the one before it ends, join to the start of p.
  pub joined_cut : (p : List A) (f : ℕ → List A) (from size : ℕ → ℕ) → from 0 ≡ 0
      → ((i : ℕ) → from (suc i) ≡ from i + size i) → (m : ℕ)
      → ((i : ℕ) → i < m → f (suc i) ≡ take (size i) (drop (from i) p)) → joined f m ≡ take (from m) p
  unfolding joined
  joined_cut p f from size start next zero cut = rw start
  joined_cut p f from size start next (suc m) cut =
      rw (joined_cut p f from size start next m (λ i l. cut i (omega arith)), cut m (omega arith), next m) (sym (take-add (from m) (size m) p))
