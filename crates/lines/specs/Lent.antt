-- How much of a buffer is lent.
use Rattle.std.specs.Prelude.{ℕ, min, cond, eqb}

-- a number of octets lent that stands for the right one
abbrev pub right : ℕ
right = 65535

-- how many octets are to be lent, and how many are of so many
abbrev pub wanted_of : ℕ → ℕ → ℕ
wanted_of n proper = cond (eqb n right) proper n

abbrev pub lent_of : ℕ → ℕ → ℕ → ℕ
lent_of n proper all = min (wanted_of n proper) all
