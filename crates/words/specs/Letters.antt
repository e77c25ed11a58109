-- A name as a number: its letters are digits to the base 32, `a` is 1.
use Rattle.std.specs.Prelude.{ℕ, ◌+◌, ◌*◌, ◌%◌}
use Prim.Native.String.{String, [], ◌∷◌}
use Prim.Native.Char.{code}

unfoldable pub letters : ℕ → String → ℕ
letters n [] = n
letters n (c ∷ s) = letters (n * 32 + code c % 32) s
