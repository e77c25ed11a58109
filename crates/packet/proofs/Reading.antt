-- What the proofs of `read` cite: one law for each return or call, over plain variables.
use Rattle.std.specs.declared.result.Result.{Result}
use Rattle.std.specs.declared.result.Result.TheVariants.{Ok, Err}
use Prim.Native.Nat.{ℕ}
use mathlib.Core.Path.{◌≡◌, refl, sym, ap, ◌∙◌}
use mathlib.Core.Bool.{Bool, true, false, not}
use mathlib.Core.List.{List}
use native.Mathlib.Omega.{arith}
use lib.ListN.{length, drop}
use lib.Dec.{ltb}
use borrow.Author.Rules.{rules}
use Rattle.types.specs.declared.Kind.{Kind}
use Rattle.types.specs.declared.Refusal.{Refusal}
use Rattle.types.specs.Refusals.{Outcome, refused, gives, refuse◌when◌otherwise◌, refusal_number}
use Rattle.packet.specs.Packets.{chl, well_formed, fields_of, against_check, Parsed, measured, parsing_behind, sized, parsing}
use Rattle.packet.proofs.PacketLaws.{formed_within}
use Rattle.packet.specs.Judging.{told_judged, and_then}

-- what was asked first, and then what follows: a refusal, or a packet whose header is within what is behind its lengths
module _ (k : Kind) (p : List ℕ) (j : Result ℕ Refusal) (e : told_judged j ≡ sized k p (gives (chl p))) where
  sized_then : {A : Type 0} (o : Outcome A) → sized k p o ≡ and_then (sized k p (gives (chl p))) o
  sized_then o = go (well_formed k p) (ltb 2142 (length p))
    where
      go : (w l : Bool) → (refuse 9 when not w otherwise refuse 12 when l otherwise o)
          ≡ and_then (refuse 9 when not w otherwise refuse 12 when l otherwise gives (chl p)) o
      go true true = refl
      go true false = refl
      go false l = refl

  module _ (r : Refusal) (t : j ≡ Err r) where
    sized_refused : {A : Type 0} (o : Outcome A) → refused (refusal_number r) ≡ sized k p o
    sized_refused o = rw (sized_then o, ← e, t)

    pub parse_refused : (c : Bool) → refused (refusal_number r) ≡ parsing k c p
    unfolding parsing
    parse_refused c = sized_refused (refuse 15 when against_check k (fields_of k c p) otherwise gives (measured (fields_of k c p)))

  module _ (h : ℕ) (t : j ≡ Ok h) where
    sized_on : {A : Type 0} (o : Outcome A) → o ≡ sized k p o
    sized_on o = sym (rw (sized_then o, ← e, t))

    front_facts : (well_formed k p ≡ true) × (h ≡ chl p)
    front_facts = go (well_formed k p) (ltb 2142 (length p)) refl (sym (ap told_judged t) ∙ e)
      where
        go : (w l : Bool) → well_formed k p ≡ w → gives h ≡ (refuse 9 when not w otherwise refuse 12 when l otherwise gives (chl p)) → (well_formed k p ≡ true) × (h ≡ chl p)
        go true true f g = let z : ◌≡◌ {A = ℕ} 0 1 = cc in absurd (omega arith)
        go true false f g = (f, cc)
        go false l f g = let z : ◌≡◌ {A = ℕ} 0 1 = cc in absurd (omega arith)

    pub parse_behind : (c d : Bool) → c ≡ d → (n : ℕ) (o : List ℕ) → n ≡ chl p → o ≡ drop 3 p → (x : Outcome Parsed) → x ≡ parsing_behind k c n o → x ≡ parsing k d p
    unfolding parsing parsing_behind
    parse_behind c d s n o f i x g =
        g ∙ rw (f, i, s, formed_within k p front_facts.0) (sized_on (refuse 15 when against_check k (fields_of k d p) otherwise gives (measured (fields_of k d p))))

pub ruleset steps = (
  rules,
  parse_refused,
  parse_behind,
)
