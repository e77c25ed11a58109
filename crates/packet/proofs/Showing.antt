-- What the proofs of showing cite: one law for each return, over plain variables.
use Rattle.std.specs.declared.result.Result.{Result}
use Rattle.std.specs.declared.result.Result.TheVariants.{Ok}
use Prim.Native.Nat.{ℕ}
use mathlib.Core.Path.{◌≡◌, refl, sym, ◌∙◌}
use mathlib.Core.Bool.{Bool}
use mathlib.Core.List.{List}
use lib.ListN.{drop}
use borrow.Author.Rules.{rules}
use Rattle.types.specs.declared.Kind.{Kind}
use Rattle.types.specs.declared.Refusal.{Refusal}
use Rattle.types.specs.Refusals.{gives}
use Rattle.packet.specs.Packets.{chl, fields_behind, readable, secured_of, check_of, opaque_of, shown, data_by, check_by, opaque_by, shown_data, shown_check, shown_opaque}
use Rattle.packet.specs.Judging.{told_judged, and_then, shown_by_lem, judged_header, readable_then}

-- ---- of packets of 01
module _ (k : Kind) (c : Bool) (p : List ℕ) (j : Result ℕ Refusal) (e : told_judged j ≡ readable k c p (gives (chl p))) (x : List ℕ) where
  by : (f : ℕ → List ℕ) → shown (readable k c p (gives (f (chl p)))) ≡ shown (and_then (told_judged j) (gives (f (chl p))))
  by f = rw (readable_then k c p (chl p) (gives (f (chl p))), e)

  is : (n : ℕ) → told_judged j ≡ gives n → n ≡ chl p
  is n t = judged_header k c p (Ok n) (sym t ∙ e) n refl

  pub packet_data : x ≡ data_by k c (drop 3 p) (told_judged j) → x ≡ shown_data k c p
  unfolding shown_data
  packet_data f =
      f ∙ shown_by_lem (told_judged j) (chl p) (λ h. secured_of (fields_behind k c h (drop 3 p))) is ∙ sym (by (λ h. secured_of (fields_behind k c h (drop 3 p))))

  pub packet_check : x ≡ check_by k c (drop 3 p) (told_judged j) → x ≡ shown_check k c p
  unfolding shown_check
  packet_check f =
      f ∙ shown_by_lem (told_judged j) (chl p) (λ h. check_of (fields_behind k c h (drop 3 p))) is ∙ sym (by (λ h. check_of (fields_behind k c h (drop 3 p))))

  pub packet_opaque : x ≡ opaque_by k c (drop 3 p) (told_judged j) → x ≡ shown_opaque k c p
  unfolding shown_opaque
  packet_opaque f =
      f ∙ shown_by_lem (told_judged j) (chl p) (λ h. opaque_of (fields_behind k c h (drop 3 p))) is ∙ sym (by (λ h. opaque_of (fields_behind k c h (drop 3 p))))

pub ruleset steps = (
  rules,
  packet_data,
  packet_check,
  packet_opaque,
)
