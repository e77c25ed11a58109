-- Which records are well formed (01, "Numbers"; 02 [5], [6]): exactly those that calls and beats can make (`demands/specs/Reachable.antt`).
use Rattle.std.specs.Prelude.{ℕ, ◌+◌, Bool, false, not, cond, ◌&&◌, ◌||◌, List, length, get_or, eqb, ltb, leb}
use Rattle.types.specs.declared.Kind.{Kind}
use Rattle.types.specs.declared.Key.{Key}
use Rattle.arrival.specs.Message.{most_parts}
use Rattle.arrival.specs.Keys.{key_formed, total_fits, length_fits}
use Rattle.types.specs.declared.Slot.{Slot}
use Rattle.types.specs.declared.Record.{Record}
use Rattle.slots.specs.Below.{all_below, any_below, count_below}
use Rattle.slots.specs.Slots.{most_slots, is_slot_number, slot_at, used, is_free, same_key}

-- "each with sixteen part lengths and sixteen held marks"
abbrev pub sixteen : Slot → Bool
sixteen x = eqb (length x.lengths) most_parts && eqb (length x.held) most_parts

-- the mark and the length at place i, from 0
abbrev pub mark_at : Slot → ℕ → Bool
mark_at x i = get_or x.held i false

abbrev pub size_at : Slot → ℕ → ℕ
size_at x i = get_or x.lengths i 0

-- "a free slot is all zero"
abbrev pub zero_key : Key → Bool
zero_key x =
    eqb x.sender 0 && eqb x.width 0 && eqb x.reference 0 && eqb x.serial.0 0 && eqb x.identifier.0 0

abbrev pub zero_part : Slot → ℕ → Bool
zero_part x i = not (mark_at x i) && eqb (size_at x i) 0

unfoldable pub all_zero : Slot → Bool
all_zero x = zero_key x.key && eqb x.total 0 && eqb x.beats 0 && all_below most_parts (zero_part x)

-- "none past the total, length 0 where not held", and where held a length that the key allows
abbrev pub part_formed : Slot → ℕ → Bool
part_formed x i = cond (mark_at x i) (ltb i x.total && length_fits x.key (i + 1) (size_at x i)) (eqb (size_at x i) 0)

-- how many parts are held
abbrev pub held_count : Slot → ℕ
held_count x = count_below most_parts (mark_at x)

-- "a count of beats since it was last touched, 0 to 254", "no count of 255" (02 [6])
abbrev pub most_beats : ℕ
most_beats = 254

-- "a used one has a total of 2 to 16, at least one part held, not all"
unfoldable pub used_formed : Kind → Slot → Bool
used_formed k x =
    key_formed k x.key && total_fits x.key x.total && all_below most_parts (part_formed x)
    && ltb 0 (held_count x) && ltb (held_count x) x.total && leb x.beats most_beats

unfoldable pub slot_formed : Kind → Slot → Bool
slot_formed k x = sixteen x && cond (used x) (used_formed k x) (all_zero x)

-- "keys differ"
abbrev pub key_twice : List Slot → ℕ → ℕ → Bool
key_twice xs i j = used (slot_at xs i) && used (slot_at xs j) && same_key (slot_at xs i).key (slot_at xs j).key

unfoldable pub keys_differ : ℕ → List Slot → Bool
keys_differ n xs = all_below n (λ i. all_below i (λ j. not (key_twice xs i j)))

-- "the used slots are ranked 1, 2, .. by recency without gaps": with m of them used, each of 1 to m is a rank
abbrev pub used_count : ℕ → List Slot → ℕ
used_count n xs = count_below n (λ i. used (slot_at xs i))

abbrev pub is_rank : ℕ → List Slot → ℕ → Bool
is_rank n xs r = any_below n (λ i. eqb (slot_at xs i).rank r)

unfoldable pub ranked : ℕ → List Slot → Bool
ranked n xs = all_below (used_count n xs) (λ r. is_rank n xs (r + 1))

-- "no used slot has a higher count than a less recent one" (02 [6]): x does, than y
abbrev pub count_ahead : Slot → Slot → Bool
count_ahead x y = used x && ltb x.rank y.rank && ltb y.beats x.beats

abbrev pub in_step : List Slot → ℕ → ℕ → Bool
in_step xs i j = not (count_ahead (slot_at xs i) (slot_at xs j)) && not (count_ahead (slot_at xs j) (slot_at xs i))

unfoldable pub counts_follow : ℕ → List Slot → Bool
counts_follow n xs = all_below n (λ i. all_below i (in_step xs i))

-- "A well-formed record has 1 to 5, slots past these all zero" (02 [5]): they are free, and a free slot is all zero
abbrev pub rest_free : ℕ → List Slot → Bool
rest_free n xs = all_below most_slots (λ i. ltb i n || is_free (slot_at xs i))

unfoldable pub slots_formed : ℕ → Kind → List Slot → Bool
slots_formed n k xs =
    is_slot_number n && eqb (length xs) most_slots && all_below most_slots (λ i. slot_formed k (slot_at xs i)) && rest_free n xs && keys_differ n xs
    && ranked n xs && counts_follow n xs

-- a record of n slots
abbrev pub record_formed : ℕ → Record → Bool
record_formed n r = eqb r.count n && slots_formed n r.kind r.slots
