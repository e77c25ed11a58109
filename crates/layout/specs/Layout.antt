-- The record of unfinished series as the octets of a state, 233 of them whatever its number of slots.
--
--   octet   what
--   0       the number of this format, 1
--   1       the kind: 0 commands, 1 responses
--   2       the number of slots
--   3       slot 0, then slots 1 to 4, of 46 octets each:
--
--   octet of a slot   what
--   0                 the rank
--   1                 the count of beats
--   2 to 5            of the key: the sender, big-endian as all numbers here
--   6                 its width
--   7, 8              its reference
--   9, 10             its serial number
--   11, 12            its message identifier
--   13                the total
--   14 to 29          the lengths of parts 1 to 16
--   30 to 45          their marks: 1 the part is held, 0 it is not
use Rattle.std.specs.Prelude.{ℕ, ◌+◌, ◌*◌, Bool, not, cond, ◌&&◌, List, [], ◌∷◌, ◌++◌, map, length, get_or, take, drop, eqb, leb}
use Rattle.types.specs.declared.Kind.{Kind}
use Rattle.types.specs.declared.Kind.TheVariants.{Command, Response}
use Rattle.types.specs.declared.Slot.{Slot}
use Rattle.types.specs.declared.Record.{Record}
use Rattle.types.specs.Refusals.{Outcome, refused, gives}
pub use Rattle.keyed.specs.KeyOctets.{wide_number}
use Rattle.keyed.specs.KeyOctets.{key_at, key_octets}
use Rattle.arrival.specs.Message.{most_parts}
use Rattle.slots.specs.Below.{all_below}
use Rattle.slots.specs.Slots.{most_slots, is_slot_number, fresh_record}
use Rattle.layout.specs.Blocks.{slot_size, blocks, laid}

abbrev pub format_number : ℕ
format_number = 1

abbrev pub state_size : ℕ
state_size = 233

-- octets before the first slot; where octet p of slot i is
abbrev pub head_size : ℕ
head_size = 3

abbrev pub octet_place : ℕ → ℕ → ℕ
octet_place i p = head_size + slot_size * i + p

-- the octets of slot i; past the last slot there are none
abbrev pub slot_block : ℕ → List ℕ → List ℕ
slot_block i s = get_or (blocks most_slots (drop head_size s)) i []

-- ---- what octets say
abbrev pub kind_in : ℕ → Kind
kind_in k = cond (eqb k 0) Command Response

abbrev pub is_mark : ℕ → Bool
is_mark q = not (eqb q 0)

-- a slot of what is before its lengths, of its lengths and of its marks
unfoldable pub slot_fields : List ℕ → List ℕ → List ℕ → Slot
slot_fields h ns ms = record { rank = get_or h 0 0; beats = get_or h 1 0; key = key_at 2 h; total = get_or h 13 0; lengths = ns; held = map is_mark ms }

unfoldable pub slot_in : List ℕ → Slot
slot_in x = slot_fields (take 14 x) (take 16 (drop 14 x)) (take 16 (drop 30 x))

unfoldable pub state_record : List ℕ → Record
state_record s = record { kind = kind_in (get_or s 1 0); count = get_or s 2 0; slots = map slot_in (blocks most_slots (drop head_size s)) }

-- all of a slot's octets behind its rank are zero
abbrev pub blank_at : List ℕ → ℕ → Bool
blank_at x p = eqb (get_or x (p + 1) 0) 0

abbrev pub blank : List ℕ → Bool
blank x = all_below 45 (blank_at x)

-- ---- which octets are a record
-- each mark is 0 or 1
abbrev pub mark_fits : List ℕ → ℕ → Bool
mark_fits x k = leb (get_or x (30 + k) 0) 1

unfoldable pub marks_fit : List ℕ → Bool
marks_fit x = all_below most_parts (mark_fits x)

abbrev pub slot_marks_fit : List ℕ → ℕ → Bool
slot_marks_fit s i = marks_fit (slot_block i s)

abbrev pub head_fits : List ℕ → Bool
head_fits s = eqb (length s) state_size && eqb (get_or s 0 0) format_number && leb (get_or s 1 0) 1

-- As many as a state has, of this format, with a kind and with marks that are one or the other. Every number of slots is let through here, as in
-- a record; that it is 1 to 5 is a matter of a well-formed record.
unfoldable pub known : List ℕ → Bool
known s = head_fits s && all_below most_slots (slot_marks_fit s)

-- ---- the octets of a record
abbrev pub kind_octet : Kind → ℕ
kind_octet Command = 0
kind_octet Response = 1

abbrev pub mark_octet : Bool → ℕ
mark_octet b = cond b 1 0

abbrev pub slot_head : Slot → List ℕ
slot_head x = x.rank ∷ x.beats ∷ key_octets x.key (x.total ∷ [])

unfoldable pub slot_octets : Slot → List ℕ
slot_octets x = slot_head x ++ (x.lengths ++ map mark_octet x.held)

unfoldable pub state_octets : Record → List ℕ
state_octets r = format_number ∷ kind_octet r.kind ∷ r.count ∷ laid (map slot_octets r.slots)

-- ---- an outcome on a state
-- an answer, and the octets as they are then
pub record OnState (A : Type 0) : Type 0 where
  pub answer : A
  pub octets : List ℕ

abbrev pub on_state : {A : Type 0} → A → List ℕ → OnState A
on_state a s = record { answer = a; octets = s }

-- what making a fresh one comes to: 1 for octets of another length, 25 as for a record; a refusal leaves them as they were
abbrev pub making_state : List ℕ → ℕ → Kind → OnState (Outcome Unit)
making_state s n k =
    cond (eqb (length s) state_size)
    (cond (is_slot_number n) (on_state (gives tt) (state_octets (fresh_record n k))) (on_state (refused 25) s)) (on_state (refused 1) s)
