-- Parts of the rules for which the code has a function of its own, over the fields that it takes.
use Rattle.std.specs.Prelude.{ℕ, ◌+◌, Bool, not, cond, ◌&&◌, ◌||◌, List, [], ◌∷◌, get_or, eqb, ltb, leb}
use Rattle.types.specs.declared.Kind.{Kind}
use Rattle.types.specs.declared.Key.{Key}
use Rattle.arrival.specs.Page.{page_content}
use Rattle.arrival.specs.Keys.{of_pages, room}
use Rattle.types.specs.declared.Slot.{Slot}
use Rattle.slots.specs.Below.{all_below, any_below, count_below}
use Rattle.slots.specs.Slots.{most_slots, slot_at, is_free, used, same_key}
use Rattle.formed.specs.Formed.{mark_at, size_at, slot_formed, count_ahead}

-- of `length_fits`: the fewest octets of a part, and the most of part `number`
abbrev pub fewest : Key → ℕ
fewest key = cond (of_pages key) page_content 0

abbrev pub most : Key → ℕ → ℕ
most key number = cond (of_pages key) page_content (room key.width number)

-- of `part_formed`: the part at place i, by the bounds of the parts behind the first
abbrev pub part_within : Slot → ℕ → Bool
part_within x i =
    cond (mark_at x i) (ltb i x.total && (leb (fewest x.key) (size_at x i) && leb (size_at x i) (most x.key 2))) (eqb (size_at x i) 0)

-- of `slots_formed`: each slot for itself, and whether it is free if it is past the first n
abbrev pub slot_holds : ℕ → Kind → List Slot → ℕ → Bool
slot_holds n k xs i = slot_formed k (slot_at xs i) && (ltb i n || is_free (slot_at xs i))

abbrev pub slots_hold : ℕ → Kind → List Slot → Bool
slots_hold n k xs = all_below most_slots (slot_holds n k xs)

-- of `keys_differ` and `counts_follow`: two slots, slots i and j, and slot i with each before it
abbrev pub pair_apart : Slot → Slot → Bool
pair_apart x y = not (used x && used y && same_key x.key y.key) && (not (count_ahead x y) && not (count_ahead y x))

abbrev pub pair_holds : List Slot → ℕ → ℕ → Bool
pair_holds xs i j = pair_apart (slot_at xs i) (slot_at xs j)

abbrev pub apart_before : List Slot → ℕ → Bool
apart_before xs i = all_below i (pair_holds xs i)

abbrev pub slots_apart : ℕ → List Slot → Bool
slots_apart n xs = all_below n (apart_before xs)

-- of `ranked`: five ranks by themselves, and whether those that are not 0 are 1, 2, .. without a gap
abbrev pub five_of : ℕ → ℕ → ℕ → ℕ → ℕ → ℕ → ℕ
five_of a b c d e i = get_or (a ∷ b ∷ c ∷ d ∷ e ∷ []) i 0

abbrev pub gapless : (ℕ → ℕ) → Bool
gapless f = all_below (count_below most_slots (λ i. not (eqb (f i) 0))) (λ r. any_below most_slots (λ i. eqb (f i) (r + 1)))
