-- What a beat does to each slot: the cases, and where the slots stand afterwards. That each slot is one of the cases, and that a beat leaves a
-- well-formed record well formed, stands in proofs/BeatenLaws.antt.
use Rattle.std.specs.Prelude.{ℕ, suc, ◌≤◌, ◌<◌, ◌≡◌, refl, true, false, List, map, length, get_or}
use Rattle.std.proofs.Common.{sym, ap, ◌∙◌}
use Rattle.std.proofs.lemmas.List.{length-map}
use Rattle.std.proofs.Math.ListN.{get_or-map}
use Rattle.types.specs.declared.Slot.{Slot}
use Rattle.slots.specs.Slots.{slot_at, free_slot, at_count}
use Rattle.slots.specs.FrontLaws.{past}
use Rattle.beats.specs.Beats.{raised, reached, after_beat, slots_after_beat}

-- ---- one slot
-- It is free and stays so; its count reaches the limit, and it is free then; or it stays, one beat older.
pub data Beaten (limit : ℕ) (x : Slot) : Type 0 where
  was_free : x.rank ≡ 0 → reached limit (raised x) ≡ false → after_beat limit x ≡ x → Beaten limit x
  is_dropped : 0 < x.rank → limit ≤ suc x.beats → reached limit (raised x) ≡ true → after_beat limit x ≡ free_slot → Beaten limit x
  is_older : 0 < x.rank → suc x.beats < limit → reached limit (raised x) ≡ false → after_beat limit x ≡ at_count (suc x.beats) x → Beaten limit x

-- ---- the slots
pub beat_length : (limit : ℕ) (xs : List Slot) → length (slots_after_beat limit xs) ≡ length xs
beat_length limit xs = simp length-map

-- the slot that stands past the end of a list is free
past_beat : (limit : ℕ) → after_beat limit past ≡ past
unfolding after_beat
past_beat limit = refl

pub beat_at : (limit : ℕ) (xs : List Slot) (i : ℕ) → slot_at (slots_after_beat limit xs) i ≡ after_beat limit (slot_at xs i)
beat_at limit xs i =
    ap (λ (d : Slot). get_or (map (after_beat limit) xs) i d) (sym (past_beat limit)) ∙ get_or-map (after_beat limit) xs i past

-- a slot that is used afterwards was, and is one beat older
pub record Stayed (limit : ℕ) (xs : List Slot) (i : ℕ) : Type 0 where
  pub used : 0 < (slot_at xs i).rank
  pub young : suc (slot_at xs i).beats < limit
  pub is : slot_at (slots_after_beat limit xs) i ≡ at_count (suc (slot_at xs i).beats) (slot_at xs i)
