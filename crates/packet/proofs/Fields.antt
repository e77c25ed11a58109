-- What the proofs of `behind` cite: one law for each return that what was asked first comes to, over plain variables. Nothing here knows where the
-- octets behind the lengths began.
use Rattle.std.specs.declared.result.Result.{Result}
use Rattle.std.specs.declared.result.Result.TheVariants.{Ok, Err}
use Prim.Native.Nat.{ℕ}
use mathlib.Core.Path.{◌≡◌, refl, sym}
use mathlib.Core.Bool.{Bool, true, false, not}
use mathlib.Core.List.{List}
use borrow.Author.Rules.{rules}
use Rattle.types.specs.declared.Kind.{Kind}
use Rattle.types.specs.declared.Refusal.{Refusal}
use Rattle.types.specs.Refusals.{Outcome, refused, gives, refuse◌when◌otherwise◌, refusal_number}
use Rattle.packet.specs.Packets.{within, fields_behind, against_check, Parsed, measured, readable_behind, parsing_behind}
use Rattle.packet.specs.Judging.{told_judged, and_then}

module _ (k : Kind) (c : Bool) (h : ℕ) (o : List ℕ) (j : Result ℕ Refusal) (e : told_judged j ≡ readable_behind k c h o (gives h)) where
  readable_behind_then : {A : Type 0} (x : Outcome A) → readable_behind k c h o x ≡ and_then (readable_behind k c h o (gives h)) x
  readable_behind_then x = go (within k h o) (against_check k (fields_behind k c h o))
    where
      go : (w a : Bool) → (refuse 9 when not w otherwise refuse 15 when a otherwise x)
          ≡ and_then (refuse 9 when not w otherwise refuse 15 when a otherwise gives h) x
      go true true = refl
      go true false = refl
      go false a = refl

  pub behind_refused : (r : Refusal) → j ≡ Err r → refused (refusal_number r) ≡ parsing_behind k c h o
  unfolding parsing_behind
  behind_refused r t = sym (rw (readable_behind_then (gives (measured (fields_behind k c h o))), ← e, t))

  pub behind_given : (n : ℕ) → j ≡ Ok n → (x : Parsed) → x ≡ measured (fields_behind k c h o) → gives x ≡ parsing_behind k c h o
  unfolding parsing_behind
  behind_given n t x g = sym (rw (readable_behind_then (gives (measured (fields_behind k c h o))), ← e, t, g))

pub ruleset steps = (
  rules,
  behind_refused,
  behind_given,
)
