-- Slots, keys and recency (01, "Series"; 02 [5], [6]). The number of slots is a parameter of every rule.
use Rattle.std.specs.declared.result.Result.{Result}
use Rattle.std.specs.declared.result.Result.TheVariants.{Ok, Err}
use Rattle.types.specs.declared.Refusal.{Refusal}
use Rattle.std.specs.Prelude.{ℕ, suc, pred, ◌-◌, Bool, true, false, not, cond, ◌&&◌, ◌||◌, List, [], ◌∷◌, map, get_or, set, replicate, take, eqb, ltb}
use Rattle.std.proofs.Math.Option.{Option, none, some}
use Rattle.types.specs.declared.Kind.{Kind}
use Rattle.types.specs.declared.Key.{Key}
use Rattle.arrival.specs.Message.{most_parts}
use Rattle.types.specs.declared.Slot.{Slot}
use Rattle.types.specs.declared.Record.{Record}
use Rattle.types.specs.Refusals.{Outcome, refused, gives, refusal_number}

-- "The number of slots becomes a choice of 1 to 5 when a record is made, and the default becomes five." (02 [5])
abbrev pub most_slots : ℕ
most_slots = 5

abbrev pub default_slots : ℕ
default_slots = 5

abbrev pub is_slot_number : ℕ → Bool
is_slot_number n = not (eqb n 0) && not (ltb most_slots n)

-- ---- a slot
abbrev pub no_key : Key
no_key = record { sender = 0; width = 0; reference = 0; serial = record { 0 = 0 }; identifier = record { 0 = 0 } }

-- slot i of a list; past its end stands a slot with no lengths and no marks, which is what an index past an array means in a contract
abbrev pub slot_at : List Slot → ℕ → Slot
slot_at xs i = get_or xs i (record { rank = 0; beats = 0; key = no_key; total = 0; lengths = []; held = [] })

-- a series with no part yet, and a free slot, which is all zero
abbrev pub opened : Key → ℕ → Slot
opened key total = record { rank = 0; beats = 0; key = key; total = total; lengths = replicate most_parts 0; held = replicate most_parts false }

abbrev pub free_slot : Slot
free_slot = opened no_key 0

abbrev pub used : Slot → Bool
used x = not (eqb x.rank 0)

-- the mark and the length of part `number`
abbrev pub held_at : Slot → ℕ → Bool
held_at x number = get_or x.held (number - 1) false

abbrev pub length_at : Slot → ℕ → ℕ
length_at x number = get_or x.lengths (number - 1) 0

-- the slot with part `number`, of n octets; the slot at another rank, with another count of beats
abbrev pub with_part : Slot → ℕ → ℕ → Slot
with_part x number n =
    record { rank = x.rank; beats = x.beats; key = x.key; total = x.total; lengths = set x.lengths (number - 1) n; held = set x.held (number - 1) true }

abbrev pub at_rank : ℕ → Slot → Slot
at_rank r x = record { rank = r; beats = x.beats; key = x.key; total = x.total; lengths = x.lengths; held = x.held }

abbrev pub at_count : ℕ → Slot → Slot
at_count b x = record { rank = x.rank; beats = b; key = x.key; total = x.total; lengths = x.lengths; held = x.held }

-- ---- which slot
abbrev pub same_key : Key → Key → Bool
same_key a b =
    eqb a.sender b.sender && eqb a.width b.width && eqb a.reference b.reference
    && eqb a.serial.0 b.serial.0 && eqb a.identifier.0 b.identifier.0

-- the slot is used, by the series with that key
abbrev pub bears : Key → Slot → Bool
bears key x = used x && same_key x.key key

abbrev pub is_free : Slot → Bool
is_free x = eqb x.rank 0

abbrev pub later : Option ℕ → Option ℕ
later none = none
later (some i) = some (suc i)

-- the first slot that passes a test
unfoldable pub find : (Slot → Bool) → List Slot → Option ℕ
find p [] = none
find p (x ∷ xs) = cond (p x) (some 0) (later (find p xs))

-- With all n slots used and ranked 1 to n, the least recent is the one of rank n.
abbrev pub is_least_recent : ℕ → Slot → Bool
is_least_recent n x = eqb x.rank n

abbrev pub slot_or : ℕ → Option ℕ → ℕ
slot_or d none = d
slot_or d (some i) = i

-- Of a record with n slots, only the first n are looked at.
abbrev pub find_in : ℕ → (Slot → Bool) → List Slot → Option ℕ
find_in n p xs = find p (take n xs)

abbrev pub least_recent : ℕ → List Slot → ℕ
least_recent n xs = slot_or 0 (find_in n (is_least_recent n) xs)

-- ---- recency
-- Rank q after a slot of rank r has come to the front: what was more recent than it is one less so; a free slot, of rank 0, was less recent
-- than all. If the third of the ranks 1, 2, 3 is touched they become 2, 3, 1.
unfoldable pub aged : ℕ → ℕ → ℕ
aged r q = cond (not (eqb q 0) && (eqb r 0 || ltb q r)) (suc q) q

-- Rank q after a slot of rank r was freed: "other slots keep their order", without a gap. If the second of the ranks 1, 2, 3 is freed they
-- become 1, 0, 2.
unfoldable pub closed : ℕ → ℕ → ℕ
closed r q = cond (ltb r q) (pred q) q

abbrev pub aged_slot : ℕ → Slot → Slot
aged_slot r x = at_rank (aged r x.rank) x

abbrev pub closed_slot : ℕ → Slot → Slot
closed_slot r x = at_rank (closed r x.rank) x

-- '"Kept" and "held already" make the series the most recent', and '"kept" and "held already" set the count to 0' (02 [6])
abbrev pub at_front : Slot → Slot
at_front x = at_rank 1 (at_count 0 x)

-- slot i comes to the front, as x
unfoldable pub to_front : List Slot → ℕ → Slot → List Slot
to_front xs i x = set (map (aged_slot (slot_at xs i).rank) xs) i (at_front x)

-- slot i is freed
unfoldable pub freed : List Slot → ℕ → List Slot
freed xs i = set (map (closed_slot (slot_at xs i).rank) xs) i free_slot

-- ---- a record
abbrev pub with_slots : Record → List Slot → Record
with_slots r xs = record { kind = r.kind; count = r.count; slots = xs }

-- How many slots a record has: as many as its number says. A number above five says no more than five, since there are no others.
abbrev pub slots_in : Record → ℕ
slots_in r = cond (ltb most_slots r.count) most_slots r.count

-- "A record is fresh for one kind, commands or responses." It has n slots, "slots past these all zero" as its own are.
abbrev pub fresh_record : ℕ → Kind → Record
fresh_record n k = record { kind = k; count = n; slots = replicate most_slots free_slot }

-- ---- making a record
-- what making a record comes to: the refusal, if there is one, and the record that stands beside the answer
abbrev pub Beside : Type 0
Beside = Outcome Unit × Record

abbrev pub beside : Outcome Unit → Record → Beside
beside answer r = (answer, r)

abbrev pub told_making : Result Unit Refusal → Outcome Unit
told_making (Ok tt) = gives tt
told_making (Err r) = refused (refusal_number r)

-- 25: "for a record asked with 0 or more than five slots". Beside it stands a record without slots, all zero, which no call accepts.
abbrev pub making : ℕ → Kind → Beside
making n k = cond (is_slot_number n) (beside (gives tt) (fresh_record n k)) (beside (refused 25) (fresh_record 0 k))
