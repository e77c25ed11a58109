-- What the proof of `Refusal::number` cites.
use Prim.Native.Nat.{ℕ}
use mathlib.Core.Path.{◌≡◌, sym}
use borrow.Author.Rules.{rules}
use Rattle.types.specs.declared.Refusal.{Refusal}
use Rattle.types.specs.Refusals.{refusal_number}

-- the number of a refusal that is known is that of the rule
pub number_told : (r v : Refusal) (n : ℕ) → r ≡ v → refusal_number v ≡ n → n ≡ refusal_number r
number_told r v n e f = rw e (sym f)

pub ruleset steps = (
  rules,
  number_told,
)
