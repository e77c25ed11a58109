-- What a caller's numbers and octets are for the rules.
use Rattle.std.specs.Prelude.{ℕ, ◌+◌, ◌*◌, cond, List, [], ◌∷◌, get_or, ltb}

-- a version, each of its three numbers in an octet
abbrev pub version_number : (major minor patch : ℕ) → ℕ
version_number major minor patch = major * 65536 + minor * 256 + patch

-- a number that has to fit an octet; a greater one counts as 0
abbrev pub octet_in : ℕ → ℕ
octet_in n = cond (ltb 255 n) 0 n

-- The octets of an array that the caller lends for fields, in the packet's order: of a plain command and a plain response up to the check field, and of
-- ciphered ones. They are the array itself (`Laws: all-given`).
abbrev pub tar_given : List ℕ → List ℕ
tar_given o = get_or o 0 0 ∷ get_or o 1 0 ∷ get_or o 2 0 ∷ []

abbrev pub clear_given : List ℕ → List ℕ
clear_given o = get_or o 0 0 ∷ get_or o 1 0 ∷ get_or o 2 0 ∷ get_or o 3 0 ∷ get_or o 4 0 ∷ get_or o 5 0 ∷ get_or o 6 0 ∷ []

abbrev pub response_given : List ℕ → List ℕ
response_given o = get_or o 0 0 ∷ get_or o 1 0 ∷ get_or o 2 0 ∷ get_or o 3 0 ∷ get_or o 4 0 ∷ get_or o 5 0 ∷ get_or o 6 0 ∷ get_or o 7 0 ∷ get_or o 8 0 ∷ get_or o 9 0 ∷ []

abbrev pub command_given : List ℕ → List ℕ
command_given o =
    get_or o 0 0 ∷ get_or o 1 0 ∷ get_or o 2 0 ∷ get_or o 3 0 ∷ get_or o 4 0 ∷ get_or o 5 0 ∷ get_or o 6 0 ∷ get_or o 7 0 ∷ get_or o 8 0 ∷ get_or o 9 0 ∷ get_or o 10 0 ∷ get_or o 11 0 ∷ get_or o 12 0 ∷ []
