-- What the proofs of `octets` cite: one law for each return, over plain variables.
use Prim.Native.Nat.{ℕ, ◌+◌, ◌-◌, ◌≤◌}
use mathlib.Core.Path.{◌≡◌, refl}
use mathlib.Core.List.{List, [], ◌∷◌, ◌++◌}
use native.Mathlib.Omega.{arith}
use native.Mathlib.Nat.{add-sub_cancel_left}
use lib.ListN.{length, take, drop}
use lib.Dec.{eqb}
use lib.Seq.{drop-drop}
use borrow.Author.Rules.{rules}
use borrow.Author.Tests.{le-leb}
use Rattle.std.specs.Cmp.Lexicographic.{pointwise}
use Rattle.octets.specs.Octets.{placed, after_put, same_octets}

-- it fits: what `copy` left of the part comes back between what stood before and behind it
pub fits_written : (d : List ℕ) (at : ℕ) (p ys : List ℕ) → at ≤ length d → length p ≤ length d - at → ys ≡ p
    → take at d ++ (ys ++ drop (at + length p - at) (drop at d)) ≡ after_put d at p
unfolding placed
fits_written d at p ys l m e = rw (e, add-sub_cancel_left, drop-drop, le-leb (at + length p) (length d) (omega arith))

-- the library's comparison of slices is the one that the rules name
pub same_pointwise : (a b : List ℕ) → pointwise eqb a b ≡ same_octets a b
unfolding same_octets
same_pointwise [] [] = refl
same_pointwise [] (y ∷ b) = refl
same_pointwise (x ∷ a) [] = refl
same_pointwise (x ∷ a) (y ∷ b) = rw (same_pointwise a b)

pub ruleset steps = (
  rules,
  fits_written,
  same_pointwise,
)
