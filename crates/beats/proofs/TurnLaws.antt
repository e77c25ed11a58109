-- A beat on one slot, told of what is read of it: what the laws of a loop over the slots cite, wherever they are.
use Rattle.std.specs.Prelude.{ℕ, ◌+◌, ◌-◌, ◌<◌, ◌≡◌, Bool, true, false, not, ◌&&◌, eqb, leb}
use Rattle.std.proofs.Common.{sym, ◌∙◌, add-one, eq-eqb, ne_eqb, le-leb}
use native.Mathlib.Omega.{arith}
use Rattle.std.specs.Int.{w8}
use mir.Val.{Fits}
use Rattle.std.proofs.lemmas.Bool.{lt-leb}
use Rattle.octets.specs.Tests.{clash}
use Rattle.types.specs.declared.Slot.{Slot}
use Rattle.slots.specs.Slots.{used, free_slot, at_count}
use Rattle.beats.specs.Beats.{raised, reached, after_beat}
use Rattle.beats.specs.Laws.{Beaten, was_free, is_dropped, is_older}
use Rattle.beats.proofs.BeatenLaws.{beaten?}

-- ---- one slot
pub dead_told : (x : Slot) (limit p n : ℕ) → 0 < limit → p ≡ x.rank → n ≡ x.beats → not (eqb p 0) && leb (limit - 1) n ≡ reached limit (raised x)
dead_told x limit p n l a b = rw (a, b) (go (beaten? limit x))
  where
    go : Beaten limit x → used x && leb (limit - 1) x.beats ≡ reached limit (raised x)
    go (was_free z r e) = rw (r, eq-eqb x.rank 0 z)
    go (is_dropped u m r e) = rw (r, ne_eqb x.rank 0 (λ z. omega arith), le-leb (limit - 1) x.beats (omega arith))
    go (is_older u m r e) = rw (r, ne_eqb x.rank 0 (λ z. omega arith), lt-leb (limit - 1) x.beats (omega arith))

module _ (x : Slot) (limit : ℕ) (dead : Bool) (is : dead ≡ reached limit (raised x)) where
  pub slot_dropped : (y : Slot) → dead ≡ true → y ≡ free_slot → y ≡ after_beat limit x
  unfolding after_beat
  slot_dropped y d e = rw (← is, d) e

  pub slot_free : dead ≡ false → x.rank ≡ 0 → x ≡ after_beat limit x
  slot_free d z = go (beaten? limit x)
    where
      go : Beaten limit x → x ≡ after_beat limit x
      go (was_free y r e) = sym e
      go (is_dropped u m r e) = absurd (omega arith)
      go (is_older u m r e) = absurd (omega arith)

  pub slot_older : dead ≡ false → (x.rank ≡ 0 → ⊥) → at_count (x.beats + 1) x ≡ after_beat limit x
  slot_older d z = go (beaten? limit x)
    where
      go : Beaten limit x → at_count (x.beats + 1) x ≡ after_beat limit x
      go (was_free y r e) = absurd (z y)
      go (is_dropped u m r e) = absurd (clash (reached limit (raised x)) r (sym is ∙ d))
      go (is_older u m r e) = rw add-one (sym e)

  pub older_fits : dead ≡ false → (x.rank ≡ 0 → ⊥) → limit < 256 → Fits w8 (x.beats + 1)
  older_fits d z h = go (beaten? limit x)
    where
      go : Beaten limit x → Fits w8 (x.beats + 1)
      go (was_free y r e) = absurd (z y)
      go (is_dropped u m r e) = absurd (clash (reached limit (raised x)) r (sym is ∙ d))
      go (is_older u m r e) = omega arith
