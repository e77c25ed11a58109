-- A loop that changes one slot of a state after the other, each as f says. Ageing, closing the ranks and a beat are such loops.
use Rattle.std.specs.Prelude.{ℕ, ◌+◌, ◌≤◌, ◌<◌, ◌≡◌, true, List}
use Rattle.std.proofs.Math.Path.{refl}
use Rattle.std.proofs.Common.{ap, ◌∙◌, arith, add-one}
use Rattle.types.specs.declared.Slot.{Slot}
use Rattle.types.specs.declared.Record.{Record}
use Rattle.slots.specs.Slots.{most_slots, with_slots}
use Rattle.slots.specs.Order.{first_with, first_next, first_more, Changed}
use Rattle.layout.specs.Layout.{state_record, known}
use Rattle.layout.specs.Changes.{state_slot, with_slot, Became}
use Rattle.layout.specs.Laws.{slots_long}

-- if s holds a record, t holds it with the first j of its n slots changed
pub record Turning (f : Slot → Slot) (n : ℕ) (s t : List ℕ) (j : ℕ) : Type 0 where
  pub still : known s ≡ true → known t ≡ true
  pub now : known s ≡ true → Changed f n (state_record s) (state_record t) j
  pub within : j ≤ n

module _ (f : Slot → Slot) (n : ℕ) (s : List ℕ) where
  pub turns_start : n ≤ most_slots → Turning f n s s 0
  unfolding first_with
  turns_start l = record {
    still = λ k. k;
    now = λ k. record { after = slots_long s; most = l; within = omega arith; kind = refl; number = refl; slots = refl };
    within = omega arith;
  }

  module _ (t : List ℕ) (j : ℕ) (h : Turning f n s t j) where
    -- the next slot is as it was
    pub turns_next : known s ≡ true → state_slot t j ≡ state_slot s j
    turns_next k = rw (h.now k).slots (first_next f j (state_record s).slots)

    pub turns_on : (u : List ℕ) (y : Slot) → j < n → y ≡ f (state_slot t j) → Became t u (with_slot t j y) → Turning f n s u (j + 1)
    turns_on u y l e b = record { still = λ k. b.still (h.still k); now = λ k. changed k; within = omega arith }
      where
        changed : known s ≡ true → Changed f n (state_record s) (state_record u) (j + 1)
        changed k =
            let c = h.now k in
            let d = b.now (h.still k) in
            record {
              after = slots_long u;
              most = c.most;
              within = omega arith;
              kind = ap (λ (r : Record). r.kind) d ∙ c.kind;
              number = ap (λ (r : Record). r.count) d ∙ c.number;
              slots = ap (λ (r : Record). r.slots) d ∙ rw (e, turns_next k, c.slots, add-one) (first_more f j (state_record s).slots);
            }

    pub turns_end : n ≤ j → Became s t (with_slots (state_record s) (first_with f n (state_record s).slots))
    turns_end l = record { still = h.still; now = λ k. whole k }
      where
        end : j ≡ n
        end = omega (arith, h.within)

        whole : known s ≡ true → state_record t ≡ with_slots (state_record s) (first_with f n (state_record s).slots)
        whole k =
            let c = h.now k in
            (λ d. record { kind = c.kind d; count = c.number d; slots = c.slots d })
            ∙ ap (λ (m : ℕ). with_slots (state_record s) (first_with f m (state_record s).slots)) end
