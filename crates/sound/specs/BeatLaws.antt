-- What a beat on a state leaves is a state again, and holds the record that the rule says.
use Rattle.std.specs.Prelude.{ℕ, suc, ◌≡◌, Bool, true, false, cond, List}
use Rattle.std.proofs.Math.Path.{refl}
use Rattle.std.proofs.Common.{ap, ◌∙◌}
use Rattle.std.proofs.Math.ListN.{length-map}
use Rattle.types.specs.Refusals.{Outcome, refused, gives}
use Rattle.types.specs.declared.Slot.{Slot}
use Rattle.types.specs.declared.Record.{Record}
use Rattle.slots.specs.Slots.{used, free_slot, at_count}
use Rattle.layout.specs.Layout.{state_record, known, state_octets, OnState, on_state}
use Rattle.layout.specs.Shapes.{ShapedSlot, Shaped, shapes_map, state_shaped}
use Rattle.layout.specs.OctetLaws.{read_back, known_octets}
use Rattle.beats.specs.Beats.{raised, reached, after_beat, AfterBeat, beaten, beating, leaves_beat, beat}
use Rattle.sound.specs.Card.{beat_octets, beat_in}

beat_slot_shaped : (limit : ℕ) (x : Slot) → ShapedSlot x → ShapedSlot (after_beat limit x)
unfolding after_beat
beat_slot_shaped limit x w = go (reached limit (raised x))
  where
    older : (b : Bool) → ShapedSlot (cond b (at_count (suc x.beats) x) x)
    older true = record { sixteen = w.sixteen; marks = w.marks }
    older false = w

    go : (d : Bool) → ShapedSlot (cond d free_slot (raised x))
    go true = record { sixteen = refl; marks = refl }
    go false = older (used x)

module _ (n : ℕ) (r : Record) (limit : ℕ) where
  beat_shaped : Shaped r → Shaped (beat n r limit).rec
  unfolding beat
  beat_shaped w = go (beating n r limit)
    where
      go : (o : Outcome ℕ) → Shaped (leaves_beat r limit o).rec
      go (refused m) = w
      go (gives m) = record { five = length-map r.slots (after_beat limit) ∙ w.five; slots = shapes_map (after_beat limit) (beat_slot_shaped limit) r.slots w.slots }

  -- a beat leaves the number of slots
  pub beat_count : (beat n r limit).rec.count ≡ r.count
  unfolding beat
  beat_count = go (beating n r limit)
    where
      go : (o : Outcome ℕ) → (leaves_beat r limit o).rec.count ≡ r.count
      go (refused m) = refl
      go (gives m) = refl

-- what the call's contract says of octets that hold a record of n slots
module _ (n : ℕ) (s t : List ℕ) (ok : known s ≡ true) (number : (state_record s).count ≡ n) (limit : ℕ) (a : Outcome ℕ) (is : on_state a t ≡ beat_in s limit) where
  beat_led : on_state a t ≡ beat_octets (beat n (state_record s) limit)
  unfolding beat_in
  beat_led = is ∙ rw (ok, number)

  after_shaped : Shaped (beat n (state_record s) limit).rec
  after_shaped = beat_shaped n (state_record s) limit (state_shaped s ok)

  beat_octets_lem : t ≡ state_octets (beat n (state_record s) limit).rec
  beat_octets_lem = ap (λ (x : OnState (Outcome ℕ)). x.octets) beat_led

  pub beat_carries : beaten a (state_record t) ≡ beat n (state_record s) limit
  beat_carries =
      let same : state_record t ≡ (beat n (state_record s) limit).rec = ap state_record beat_octets_lem ∙ read_back (beat n (state_record s) limit).rec after_shaped in
      λ j. beaten (beat_led j).answer (same j)

  pub beat_still : known t ≡ true
  beat_still = ap known beat_octets_lem ∙ known_octets (beat n (state_record s) limit).rec after_shaped

  pub beat_number : (state_record t).count ≡ n
  beat_number = ap (λ (x : AfterBeat). x.rec.count) beat_carries ∙ beat_count n (state_record s) limit ∙ number
