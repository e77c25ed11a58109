-- What the proofs of `lines` cite, over plain variables.
use Prim.Native.Nat.{ℕ}
use mathlib.Core.Path.{◌≡◌}
use borrow.Author.Rules.{rules}
use borrow.Author.Tests.{eq-eqb, ne_eqb}
use Rattle.lines.specs.Lent.{wanted_of}

pub wanted_right : (n proper : ℕ) → n ≡ 65535 → proper ≡ wanted_of n proper
wanted_right n proper e = rw (eq-eqb n 65535 e)

pub wanted_other : (n proper : ℕ) → (n ≡ 65535 → ⊥) → n ≡ wanted_of n proper
wanted_other n proper f = rw (ne_eqb n 65535 f)

pub ruleset steps = (
  rules,
  wanted_right,
  wanted_other,
)
