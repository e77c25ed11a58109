-- A number for a record that falls on the way back to a fresh one: slot j counts 2^j for each part that it holds. If a slot holds less and each
-- slot below it at most one part more, the number is less, since 1 + 2 + .. + 2^(i-1) < 2^i.
use Prim.Native.Nat.{ℕ, zero, suc, ◌+◌, ◌*◌, ◌≤◌, ◌<◌}
use native.Mathlib.Omega.{arith}

unfoldable pub weight : ℕ → (ℕ → ℕ) → ℕ
weight zero h = 0
weight (suc n) h = h 0 + 2 * weight n (λ j. h (suc j))

pub weight_most : (n : ℕ) (g h : ℕ → ℕ) → ((j : ℕ) → j < n → g j ≤ h j) → weight n g ≤ weight n h
unfolding weight
weight_most zero g h e = omega arith
weight_most (suc n) g h e = omega (arith, e 0 (omega arith), weight_most n (λ j. g (suc j)) (λ j. h (suc j)) (λ j l. e (suc j) (omega arith)))

pub weight_falls : (n i : ℕ) (g h : ℕ → ℕ) → i < n → g i < h i → ((j : ℕ) → j < i → g j ≤ suc (h j)) → ((j : ℕ) → i < j → j < n → g j ≤ h j)
    → weight n g < weight n h
unfolding weight
weight_falls zero i g h l less below above = absurd (omega arith)
weight_falls (suc n) zero g h l less below above =
    omega (arith, weight_most n (λ j. g (suc j)) (λ j. h (suc j)) (λ j m. above (suc j) (omega arith) (omega arith)))
weight_falls (suc n) (suc i) g h l less below above =
    let rest : weight n (λ j. g (suc j)) < weight n (λ j. h (suc j)) =
    weight_falls n i (λ j. g (suc j)) (λ j. h (suc j)) (omega arith) less (λ j m. below (suc j) (omega arith)) (λ j m k. above (suc j) (omega arith) (omega arith)) in
    omega (arith, below 0 (omega arith))
