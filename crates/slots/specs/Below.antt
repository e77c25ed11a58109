-- Tests over the numbers below n.
use Rattle.std.specs.Prelude.{ℕ, zero, suc, Bool, true, false, cond, ◌&&◌, ◌||◌}

-- f holds of each number below n, of one of them; of how many
unfoldable pub all_below : ℕ → (ℕ → Bool) → Bool
all_below zero f = true
all_below (suc n) f = all_below n f && f n

unfoldable pub any_below : ℕ → (ℕ → Bool) → Bool
any_below zero f = false
any_below (suc n) f = any_below n f || f n

unfoldable pub count_below : ℕ → (ℕ → Bool) → ℕ
count_below zero f = 0
count_below (suc n) f = cond (f n) (suc (count_below n f)) (count_below n f)

-- faults gathered in an octet: 0 while there is none
abbrev pub fault : Bool → ℕ
fault true = 0
fault false = 1
