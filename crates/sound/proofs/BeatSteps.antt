-- What the proofs of the beat on a state cite: the laws of a beat's turns, carried over to the record that octets hold.
use Prim.Native.Nat.{ℕ, ◌+◌, ◌≤◌, ◌<◌}
use mathlib.Core.Path.{◌≡◌, refl, sym, ap, ◌∙◌}
use mathlib.Core.Bool.{Bool, true, false, not, ◌&&◌}
use mathlib.Core.List.{List}
use native.Mathlib.Omega.{arith}
use lib.Seq.{set-get_or}
use lib.Dec.{eqb}
use mir.Syntax.{w8}
use mir.Val.{Fits, bool_byte}
use borrow.Author.Rules.{rules}
use borrow.Author.Tests.{eq-eqb, ne_eqb, eqb-true}
use Rattle.octets.specs.Tests.{both, clash}
use Rattle.types.specs.declared.Slot.{Slot}
use Rattle.types.specs.declared.Record.{Record}
use Rattle.types.specs.Refusals.{refused, gives}
use Rattle.slots.specs.Slots.{most_slots, free_slot, at_count, with_slots}
use Rattle.slots.specs.Order.{first_whole}
use Rattle.formed.specs.Formed.{record_formed}
use Rattle.layout.specs.Layout.{state_record, known, on_state}
use Rattle.layout.specs.Changes.{state_slot, with_slot, Became, Exact}
use Rattle.layout.specs.Laws.{slots_long}
use Rattle.beats.specs.Beats.{raised, reached, after_beat, slots_after_beat, dropped_by, beat}
use Rattle.beats.specs.Turns.{Beat, beat_starts, dropped_fits, beat_goes_on}
use Rattle.beats.proofs.TurnLaws.{dead_told, slot_dropped, slot_free, slot_older, older_fits}
use Rattle.sound.specs.Card.{beat_in}

-- ---- one slot
module _ (s : List ℕ) (i limit : ℕ) (dead : Bool) (is : dead ≡ reached limit (raised (state_slot s i))) where
  as_beaten : (t : List ℕ) (y : Slot) → y ≡ after_beat limit (state_slot s i) → Became s t (with_slot s i y) → Became s t (with_slot s i (after_beat limit (state_slot s i)))
  as_beaten t y e h = record { still = h.still; now = λ k. h.now k ∙ ap (λ (z : Slot). with_slot s i z) e }

  pub beat_dropped : (t : List ℕ) → dead ≡ true → Became s t (with_slot s i free_slot) → Became s t (with_slot s i (after_beat limit (state_slot s i)))
  beat_dropped t d h = as_beaten t free_slot (slot_dropped (state_slot s i) limit dead is free_slot d refl) h

  module _ (r : ℕ) (read : r ≡ (state_slot s i).rank) where
    pub beat_free : dead ≡ false → eqb r 0 ≡ true → Became s s (with_slot s i (after_beat limit (state_slot s i)))
    beat_free d z =
        as_beaten s (state_slot s i) (slot_free (state_slot s i) limit dead is d (sym read ∙ eqb-true r 0 z))
        (record { still = λ k. k; now = λ k. ap (λ (xs : List Slot). with_slots (state_record s) xs) (sym (set-get_or (state_record s).slots i _)) })

    taken : eqb r 0 ≡ false → (state_slot s i).rank ≡ 0 → ⊥
    taken z e = clash (eqb r 0) (eq-eqb r 0 (read ∙ e)) z

    pub beat_fits : (n : ℕ) → dead ≡ false → eqb r 0 ≡ false → n ≡ (state_slot s i).beats → limit < 256 → Fits w8 (n + 1)
    beat_fits n d z e l = rw e (older_fits (state_slot s i) limit dead is d (taken z) l)

    pub beat_older : (t : List ℕ) (n : ℕ) → dead ≡ false → eqb r 0 ≡ false → n ≡ (state_slot s i).beats
        → Became s t (with_slot s i (at_count (n + 1) (state_slot s i))) → Became s t (with_slot s i (after_beat limit (state_slot s i)))
    beat_older t n d z e h =
        as_beaten t (at_count (n + 1) (state_slot s i)) (ap (λ (m : ℕ). at_count (m + 1) (state_slot s i)) e ∙ slot_older (state_slot s i) limit dead is d (taken z)) h

-- ---- the slots
pub beats_start : (limit : ℕ) (s : List ℕ) → Beat limit (state_record s) (state_record s) 0 0
beats_start limit s = beat_starts limit (state_record s) (slots_long s)

pub beats_go_on : (limit : ℕ) (r : Record) (s t : List ℕ) (dropped i : ℕ) (dead : Bool) (more : ℕ) → Became s t (with_slot s i (after_beat limit (state_slot s i))) → known s ≡ true
    → Beat limit r (state_record s) dropped i → i < most_slots → dead ≡ reached limit (raised (state_slot s i)) → more ≡ bool_byte dead
    → Beat limit r (state_record t) (dropped + more) (i + 1)
beats_go_on limit r s t dropped i dead more h k b l d e =
    rw (e, h.now k) (beat_goes_on limit r (state_record s) dropped i b dead (after_beat limit (state_slot s i)) l d refl)

pub still_state : (s t : List ℕ) (q : Record) → Became s t q → known s ≡ true → known t ≡ true
still_state s t q h k = h.still k

module _ (limit : ℕ) (s t : List ℕ) (dropped i : ℕ) (b : Beat limit (state_record s) (state_record t) dropped i) (l : most_slots ≤ i) where
  end : i ≡ most_slots
  end = omega (arith, b.changed.within)

  pub beats_counted : dropped ≡ dropped_by limit (state_record s).slots
  beats_counted = rw (b.counted, end)

  pub beats_done : state_record t ≡ with_slots (state_record s) (slots_after_beat limit (state_record s).slots)
  beats_done = λ j. record { kind = b.changed.kind j; count = b.changed.number j; slots = slots j }
    where
      slots : (state_record t).slots ≡ slots_after_beat limit (state_record s).slots
      slots = rw (b.changed.slots, end) (first_whole (after_beat limit) most_slots (state_record s).slots (slots_long s))

-- ---- the call
module _ (s : List ℕ) (b : Bool) (is : b ≡ known s && record_formed (state_record s).count (state_record s)) (f : not b ≡ false) where
  formed_state : (known s ≡ true) × (record_formed (state_record s).count (state_record s) ≡ true)
  formed_state = both (known s) (record_formed (state_record s).count (state_record s)) (sym is ∙ go b f)
    where
      go : (c : Bool) → not c ≡ false → c ≡ true
      go true e = refl
      go false e = sym e

  pub beat_state : known s ≡ true
  beat_state = formed_state.0

module _ (s : List ℕ) (limit : ℕ) (own : Exact s) (b : Bool) (is : b ≡ known s && record_formed (state_record s).count (state_record s)) where
  pub no_beat : not b ≡ true → on_state (refused 1) s ≡ beat_in s limit
  unfolding beat_in beat
  no_beat f = go (known s) refl
    where
      go : (k : Bool) → known s ≡ k → on_state (refused 1) s ≡ beat_in s limit
      go true e =
          rw e (let g : not (record_formed (state_record s).count (state_record s)) ≡ true = rw (is, e) at f in rw g (ap (λ (o : List ℕ). on_state (refused 1) o) (sym (own.back e))))
      go false e = rw e

  pub no_limit : not b ≡ false → limit ≡ 0 → on_state (refused 18) s ≡ beat_in s limit
  unfolding beat_in beat
  no_limit f z =
      rw ((formed_state s b is f).0, (formed_state s b is f).1, eq-eqb limit 0 z) (ap (λ (o : List ℕ). on_state (refused 18) o) (sym (own.back (formed_state s b is f).0)))

  pub beat_told : (t : List ℕ) (dropped : ℕ) → not b ≡ false → (limit ≡ 0 → ⊥) → dropped ≡ dropped_by limit (state_record s).slots
      → state_record t ≡ with_slots (state_record s) (slots_after_beat limit (state_record s).slots) → known t ≡ true → Exact t
      → on_state (gives dropped) t ≡ beat_in s limit
  unfolding beat_in beat
  beat_told t dropped f z c e k here =
      ap (λ (o : List ℕ). on_state (gives dropped) o) (sym (here.back k)) ∙ rw ((formed_state s b is f).0, (formed_state s b is f).1, ne_eqb limit 0 z, c, e)

pub ruleset beat_steps = (
  rules,
  dead_told,
  beat_dropped,
  beat_free,
  beat_fits,
  beat_older,
  beats_start,
  dropped_fits,
  beats_go_on,
  still_state,
  beats_counted,
  beats_done,
  no_beat,
  beat_state,
  no_limit,
  beat_told,
)
