-- Records that octets can hold: five slots, each of sixteen lengths and sixteen marks. What the rules make of slots is so again.
use Rattle.std.specs.Prelude.{ℕ, zero, suc, ◌<◌, ◌≡◌, true, List, [], ◌∷◌, map, length, set}
use Rattle.std.proofs.Math.Path.{refl}
use Rattle.std.proofs.Common.{◌∙◌, arith, length-set}
use Rattle.std.proofs.Math.ListN.{length-map}
use Rattle.types.specs.declared.Kind.{Kind}
use Rattle.types.specs.declared.Key.{Key}
use Rattle.types.specs.declared.Slot.{Slot}
use Rattle.types.specs.declared.Record.{Record}
use Rattle.arrival.specs.Message.{most_parts}
use Rattle.slots.specs.Slots.{most_slots, slot_at, opened, free_slot, with_part, aged_slot, closed_slot, at_front, to_front, freed, fresh_record}
use Rattle.layout.specs.Layout.{state_record, known}
use Rattle.layout.specs.Laws.{slots_long, known_length, lengths_sixteen, marks_sixteen}

pub record ShapedSlot (x : Slot) : Type 0 where
  pub sixteen : length x.lengths ≡ most_parts
  pub marks : length x.held ≡ most_parts

pub data Shapes : List Slot → Type 0 where
  shaped_none : Shapes []
  shaped_more : {x : Slot} {xs : List Slot} → ShapedSlot x → Shapes xs → Shapes (x ∷ xs)

pub record Shaped (r : Record) : Type 0 where
  pub five : length r.slots ≡ most_slots
  pub slots : Shapes r.slots

-- ---- slots
pub opened_shaped : (key : Key) (total : ℕ) → ShapedSlot (opened key total)
opened_shaped key total = record { sixteen = refl; marks = refl }

pub part_shaped : (x : Slot) (number n : ℕ) → ShapedSlot x → ShapedSlot (with_part x number n)
part_shaped x number n w = record { sixteen = length-set x.lengths _ n ∙ w.sixteen; marks = length-set x.held _ true ∙ w.marks }

-- ---- lists of them
pub shapes_from : (xs : List Slot) → ((i : ℕ) → i < length xs → ShapedSlot (slot_at xs i)) → Shapes xs
shapes_from [] h = shaped_none
shapes_from (x ∷ xs) h = shaped_more (h 0 (omega arith)) (shapes_from xs (λ i l. h (suc i) (omega arith)))

pub shapes_at : (xs : List Slot) (i : ℕ) → i < length xs → Shapes xs → ShapedSlot (slot_at xs i)
shapes_at [] i l shaped_none = absurd (omega arith)
shapes_at (x ∷ xs) zero l (shaped_more w h) = w
shapes_at (x ∷ xs) (suc i) l (shaped_more w h) = shapes_at xs i (omega arith) h

pub shapes_map : (f : Slot → Slot) → ((x : Slot) → ShapedSlot x → ShapedSlot (f x)) → (xs : List Slot) → Shapes xs → Shapes (map f xs)
shapes_map f g [] shaped_none = shaped_none
shapes_map f g (x ∷ xs) (shaped_more w h) = shaped_more (g x w) (shapes_map f g xs h)

pub shapes_set : (xs : List Slot) (i : ℕ) (y : Slot) → (i < length xs → ShapedSlot y) → Shapes xs → Shapes (set xs i y)
shapes_set [] i y g shaped_none = shaped_none
shapes_set (x ∷ xs) zero y g (shaped_more w h) = shaped_more (g (omega arith)) h
shapes_set (x ∷ xs) (suc i) y g (shaped_more w h) = shaped_more w (shapes_set xs i y (λ l. g (omega arith)) h)

module _ (xs : List Slot) (w : Shapes xs) (i : ℕ) where
  pub front_shapes : (x : Slot) → (i < length xs → ShapedSlot x) → Shapes (to_front xs i x)
  unfolding to_front
  front_shapes x g =
      let f : Slot → Slot = aged_slot (slot_at xs i).rank in
      shapes_set (map f xs) i (at_front x) (λ l. let v = g (omega (arith, length-map xs f)) in record { sixteen = v.sixteen; marks = v.marks })
      (shapes_map f (λ y v. record { sixteen = v.sixteen; marks = v.marks }) xs w)

  pub freed_shapes : Shapes (freed xs i)
  unfolding freed
  freed_shapes =
      let f : Slot → Slot = closed_slot (slot_at xs i).rank in
      shapes_set (map f xs) i free_slot (λ l. record { sixteen = refl; marks = refl })
      (shapes_map f (λ y v. record { sixteen = v.sixteen; marks = v.marks }) xs w)

-- ---- records
pub fresh_shaped : (n : ℕ) (k : Kind) → Shaped (fresh_record n k)
fresh_shaped n k =
    let w : ShapedSlot free_slot = record { sixteen = refl; marks = refl } in
    record { five = refl; slots = shaped_more w (shaped_more w (shaped_more w (shaped_more w (shaped_more w shaped_none)))) }

-- what a state holds
pub state_shaped : (s : List ℕ) → known s ≡ true → Shaped (state_record s)
state_shaped s k = record {
  five = slots_long s;
  slots = shapes_from (state_record s).slots
      (λ i l. record { sixteen = lengths_sixteen s (known_length s k) i (omega (arith, slots_long s)); marks = marks_sixteen s (known_length s k) i (omega (arith, slots_long s)) });
}
