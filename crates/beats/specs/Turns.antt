-- A beat on one slot after the other, told of what is read of them: the laws of a loop over the slots, wherever they are. What is told of one
-- slot stands in proofs/TurnLaws.antt.
use Rattle.std.specs.Prelude.{ℕ, ◌+◌, ◌≤◌, ◌<◌, ◌≡◌, Bool, true, false, cond, length, set}
use Rattle.std.proofs.Math.Path.{refl}
use Rattle.std.proofs.Common.{◌∙◌, add-one, length-set}
use native.Mathlib.Omega.{arith}
use Rattle.std.specs.Int.{w8}
use mir.Val.{Fits, bool_byte}
use Rattle.types.specs.declared.Slot.{Slot}
use Rattle.types.specs.declared.Record.{Record}
use Rattle.slots.specs.Below.{count_below}
use Rattle.slots.specs.BelowLaws.{count_more}
use Rattle.slots.specs.Slots.{most_slots, slot_at, with_slots}
use Rattle.slots.specs.Order.{first_with, first_next, first_more, Changed}
use Rattle.beats.specs.Beats.{raised, reached, after_beat}

-- ---- the slots, one after the other
module _ (limit : ℕ) (r : Record) where
  abbrev gone : ℕ → Bool
  gone i = reached limit (raised (slot_at r.slots i))

  -- s is r with a beat on its first i slots, and so many of these are dropped
  pub record Beat (s : Record) (dropped i : ℕ) : Type 0 where
    pub changed : Changed (after_beat limit) most_slots r s i
    pub counted : dropped ≡ count_below i (λ j. reached limit (raised (slot_at r.slots j)))
    pub few : dropped ≤ i

  pub beat_starts : length r.slots ≡ most_slots → Beat r 0 0
  unfolding first_with count_below
  beat_starts e = record { changed = record { after = e; most = omega arith; within = omega arith; kind = refl; number = refl; slots = refl }; counted = refl; few = omega arith }

  module _ (s : Record) (dropped i : ℕ) (b : Beat s dropped i) where
    next : slot_at s.slots i ≡ slot_at r.slots i
    next = rw b.changed.slots (first_next (after_beat limit) i r.slots)

    byte : (c : Bool) → bool_byte c ≡ cond c 1 0
    byte true = refl
    byte false = refl

    small : (c : Bool) → bool_byte c ≤ 1
    small true = omega arith
    small false = omega arith

    pub dropped_fits : (dead : Bool) → i < most_slots → Fits w8 (dropped + bool_byte dead)
    dropped_fits dead l = omega (arith, b.few, small dead)

    pub beat_goes_on : (dead : Bool) (y : Slot) → i < most_slots → dead ≡ reached limit (raised (slot_at s.slots i)) → y ≡ after_beat limit (slot_at s.slots i)
        → Beat (with_slots s (set s.slots i y)) (dropped + bool_byte dead) (i + 1)
    beat_goes_on dead y l d e = record {
      changed = record {
        after = length-set s.slots i y ∙ b.changed.after;
        most = b.changed.most;
        within = omega arith;
        kind = b.changed.kind;
        number = b.changed.number;
        slots = rw (e, next, b.changed.slots, add-one) (first_more (after_beat limit) i r.slots);
      };
      counted = count_more (λ j. reached limit (raised (slot_at r.slots j))) i dropped (bool_byte dead) b.counted (rw (d, next) (byte (reached limit (raised (slot_at r.slots i)))));
      few = omega (arith, b.few, small dead);
    }
