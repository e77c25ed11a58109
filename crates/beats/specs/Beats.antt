-- The beat (02 [6], "Give up what is dead").
use Rattle.std.specs.declared.result.Result.{Result}
use Rattle.std.specs.declared.result.Result.TheVariants.{Ok, Err}
use Rattle.types.specs.declared.Refusal.{Refusal}
use Rattle.std.specs.Prelude.{ℕ, suc, Bool, not, cond, ◌&&◌, List, map, eqb, leb}
use Rattle.types.specs.Refusals.{Outcome, refused, gives, refusal_number, refuse◌when◌otherwise◌}
use Rattle.types.specs.declared.Slot.{Slot}
use Rattle.types.specs.declared.Record.{Record}
use Rattle.slots.specs.Below.{count_below}
use Rattle.slots.specs.Slots.{most_slots, slot_at, used, free_slot, at_count, with_slots}
use Rattle.formed.specs.Formed.{record_formed}

-- "the beat, raises every used slot's count by one"
abbrev pub raised : Slot → Slot
raised x = cond (used x) (at_count (suc x.beats) x) x

-- "and drops those whose count has reached the limit given with the call". Limits may differ from beat to beat, so a count can be above one.
abbrev pub reached : ℕ → Slot → Bool
reached limit x = used x && leb limit x.beats

-- First it is raised, then dropped: its entry is zero then. What is dropped is less recent than all that stays, since counts follow recency; so
-- the others keep their ranks, and these have no gap (`proofs/BeatenLaws: beat_formed`).
unfoldable pub after_beat : ℕ → Slot → Slot
after_beat limit x = cond (reached limit (raised x)) free_slot (raised x)

abbrev pub slots_after_beat : ℕ → List Slot → List Slot
slots_after_beat limit xs = map (after_beat limit) xs

-- how many series are dropped
abbrev pub dropped_by : ℕ → List Slot → ℕ
dropped_by limit xs = count_below most_slots (λ i. reached limit (raised (slot_at xs i)))

-- ---- the call
-- what a beat comes to: how many series it dropped, or a refusal; and the record as it is afterwards
pub record AfterBeat : Type 0 where
  pub answer : Outcome ℕ
  pub rec : Record

abbrev pub beaten : Outcome ℕ → Record → AfterBeat
beaten answer r = record { answer = answer; rec = r }

abbrev pub told_beating : Result ℕ Refusal → Outcome ℕ
told_beating (Ok m) = gives m
told_beating (Err r) = refused (refusal_number r)

-- "the beat gives 1 for a malformed record, then 18 for limit 0"
abbrev pub beating : ℕ → Record → ℕ → Outcome ℕ
beating n r limit =
    refuse 1 when not (record_formed n r) otherwise
    refuse 18 when eqb limit 0 otherwise
    gives (dropped_by limit r.slots)

-- a refusal leaves the record; no cells are lent, so none change
abbrev pub leaves_beat : Record → ℕ → Outcome ℕ → AfterBeat
leaves_beat r limit (refused m) = beaten (refused m) r
leaves_beat r limit (gives m) = beaten (gives m) (with_slots r (slots_after_beat limit r.slots))

unfoldable pub beat : ℕ → Record → ℕ → AfterBeat
beat n r limit = leaves_beat r limit (beating n r limit)
