-- What the calls of `octets` promise: numbers on the air are big-endian (01, "Ground covered"), and octets are put at a place of a lent buffer
-- whose rest stays as it was.
use Rattle.std.specs.Prelude.{ℕ, ◌+◌, ◌*◌, ◌/◌, ◌%◌, ◌<◌, Bool, true, false, cond, ◌&&◌, List, [], ◌∷◌, ◌++◌, length, get_or, take, drop, eqb, leb}
use Rattle.types.specs.declared.Pair.{Pair}

-- every number of a list is an octet, as those that come over the air are
abbrev pub Octets : List ℕ → Type 0
Octets o = (i : ℕ) → get_or o i 0 < 256

-- the number that two octets are, the high one first
abbrev pub number_of : ℕ → ℕ → ℕ
number_of high low = high * 256 + low

-- the two octets of a number
abbrev pub pair_of : ℕ → Pair
pair_of n = (n / 256, n % 256)

module _ {A : Type 0} where
  -- d, with p in the place of as many elements from the place `at` on
  unfoldable pub placed : List A → ℕ → List A → List A
  placed d at p = take at d ++ (p ++ drop (at + length p) d)

  -- whether p fits into d from the place `at` on
  abbrev pub fits_at : List A → ℕ → List A → Bool
  fits_at d at p = leb (at + length p) (length d)

  -- d after p was put there: where p does not fit, d stays as it was
  abbrev pub after_put : List A → ℕ → List A → List A
  after_put d at p = cond (fits_at d at p) (placed d at p) d

-- whether two lists of octets are the same: as many, and the same at each place
unfoldable pub same_octets : List ℕ → List ℕ → Bool
same_octets [] [] = true
same_octets [] (y ∷ ys) = false
same_octets (x ∷ xs) [] = false
same_octets (x ∷ xs) (y ∷ ys) = eqb x y && same_octets xs ys
