-- An inner step of the table: the entries with a place taken out. No call meant for users cites it.
use Rattle.std.specs.Prelude.{ℕ, zero, suc, List, [], ◌∷◌, ◌++◌, take, drop}
use Rattle.types.specs.declared.SentCommand.{SentCommand}
use Rattle.gateway.specs.Gateway.{zero_command}

-- of n entries in use, the one at place i taken out: those behind it move up, and the last place in use is zero
unfoldable pub taken_out : ℕ → ℕ → List SentCommand → List SentCommand
taken_out i n [] = []
taken_out i zero (e ∷ es) = e ∷ es
taken_out zero (suc n) (e ∷ es) = take n es ++ (zero_command ∷ drop n es)
taken_out (suc i) (suc n) (e ∷ es) = e ∷ taken_out i n es
