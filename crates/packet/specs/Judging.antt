-- Whether a packet can be read, as its own answer, and what that tells of the packet.
use Rattle.std.specs.declared.result.Result.{Result}
use Rattle.std.specs.declared.result.Result.TheVariants.{Ok, Err}
use Rattle.std.specs.Prelude.{ℕ, ◌≤◌, ◌≡◌, refl, Bool, true, false, not, List, length, ltb}
use Rattle.std.proofs.Common.{sym, ap, ◌∙◌, arith, ltb-false}
use Rattle.types.specs.declared.Kind.{Kind}
use Rattle.types.specs.declared.Refusal.{Refusal}
use Rattle.types.specs.Refusals.{Outcome, refused, gives, refuse◌when◌otherwise◌, refusal_number}
use Rattle.packet.specs.Packets.{chl, well_formed, fields_of, against_check, readable, shown, shown_by}

-- what the answer to "can this packet be read" says: the header length, or the refusal
abbrev pub told_judged : Result ℕ Refusal → Outcome ℕ
told_judged (Ok header) = gives header
told_judged (Err r) = refused (refusal_number r)

-- what follows where something was refused, and where it was not
abbrev pub and_then : {A : Type 0} → Outcome ℕ → Outcome A → Outcome A
and_then (refused n) o = refused n
and_then (gives h) o = o

-- the part that is shown is that of the header length, if reading came to it
pub shown_by_lem : (r : Outcome ℕ) (h : ℕ) (f : ℕ → List ℕ) → ((n : ℕ) → r ≡ gives n → n ≡ h) → shown_by f r ≡ shown (and_then r (gives (f h)))
shown_by_lem (refused n) h f is = refl
shown_by_lem (gives n) h f is = ap f (is n refl)

module _ (k : Kind) (c : Bool) (p : List ℕ) where
  pub readable_then : {A : Type 0} (n : ℕ) (o : Outcome A) → readable k c p o ≡ and_then (readable k c p (gives n)) o
  readable_then n o = go (well_formed k p) (ltb 2142 (length p)) (against_check k (fields_of k c p))
    where
      go : (w l a : Bool) → (refuse 9 when not w otherwise refuse 12 when l otherwise refuse 15 when a otherwise o)
          ≡ and_then (refuse 9 when not w otherwise refuse 12 when l otherwise refuse 15 when a otherwise gives n) o
      go true true a = refl
      go true false true = refl
      go true false false = refl
      go false l a = refl

  -- what a packet that can be read is
  pub record Readable : Type 0 where
    pub formed : well_formed k p ≡ true
    pub size : length p ≤ 2142
    pub checked : against_check k (fields_of k c p) ≡ false

  pub readable_gives : {A : Type 0} (x y : A) → gives y ≡ readable k c p (gives x) → Readable × (y ≡ x)
  readable_gives x y e = go (well_formed k p) (ltb 2142 (length p)) (against_check k (fields_of k c p)) refl refl refl e
    where
      go : (w l a : Bool) → well_formed k p ≡ w → ltb 2142 (length p) ≡ l → against_check k (fields_of k c p) ≡ a
          → gives y ≡ (refuse 9 when not w otherwise refuse 12 when l otherwise refuse 15 when a otherwise gives x) → Readable × (y ≡ x)
      go true true a f g h e = let z : ◌≡◌ {A = ℕ} 0 1 = cc in absurd (omega arith)
      go true false true f g h e = let z : ◌≡◌ {A = ℕ} 0 1 = cc in absurd (omega arith)
      go true false false f g h e = (record { formed = f; size = ltb-false 2142 (length p) g; checked = h }, cc)
      go false l a f g h e = let z : ◌≡◌ {A = ℕ} 0 1 = cc in absurd (omega arith)

  module _ (j : Result ℕ Refusal) (e : told_judged j ≡ readable k c p (gives (chl p))) where
    module _ (h : ℕ) (t : j ≡ Ok h) where
      facts : Readable × (h ≡ chl p)
      facts = readable_gives (chl p) h (sym (ap told_judged t) ∙ e)

      pub judged_header : h ≡ chl p
      judged_header = facts.1

      pub judged_size : length p ≤ 2142
      judged_size = facts.0.size

      pub judged_readable : {A : Type 0} (o : Outcome A) → o ≡ readable k c p o
      judged_readable o = sym (rw (readable_then (chl p) o, ← e, t))

    module _ (r : Refusal) (t : j ≡ Err r) where
      pub judged_refused : {A : Type 0} (o : Outcome A) → refused (refusal_number r) ≡ readable k c p o
      judged_refused o = rw (readable_then (chl p) o, ← e, t)
