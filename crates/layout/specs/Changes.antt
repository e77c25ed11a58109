-- What a change of a state promises: of its octets, and of the record that they hold.
use Rattle.std.specs.Prelude.{ℕ, ◌+◌, ◌/◌, ◌%◌, ◌≡◌, true, List, length, set, take, drop}
use Rattle.types.specs.declared.Key.{Key}
use Rattle.types.specs.declared.Slot.{Slot}
use Rattle.types.specs.declared.Record.{Record}
use Rattle.slots.specs.Slots.{most_slots, slot_at, with_slots}
use Rattle.layout.specs.Blocks.{blocks}
use Rattle.layout.specs.Layout.{state_size, head_size, state_record, known, state_octets}

-- slot i of the record that the octets hold, and that record with y as slot i; where there is no slot i, the record as it is
abbrev pub state_slot : List ℕ → ℕ → Slot
state_slot s i = slot_at (state_record s).slots i

abbrev pub with_slot : List ℕ → ℕ → Slot → Record
with_slot s i y = with_slots (state_record s) (set (state_record s).slots i y)

-- t is s with x as the octets of slot i
pub record Stored (s t : List ℕ) (i : ℕ) (x : List ℕ) : Type 0 where
  pub size : length t ≡ length s
  pub head : take head_size t ≡ take head_size s
  pub block : blocks most_slots (drop head_size t) ≡ set (blocks most_slots (drop head_size s)) i x

-- If s holds a record, t holds the record r. Of octets that hold none nothing is promised: no call gets past the test of them.
pub record Became (s t : List ℕ) (r : Record) : Type 0 where
  pub still : known s ≡ true → known t ≡ true
  pub now : known s ≡ true → state_record t ≡ r

-- What the type of a lent state says of its octets: there are as many as a state has, and if they are one, they are those of the record that it
-- holds, so that no others hold it.
pub record Exact (s : List ℕ) : Type 0 where
  pub size : length s ≡ state_size
  pub back : known s ≡ true → state_octets (state_record s) ≡ s

-- a slot's octets with a number of two octets from place p on; with another sender, and with the three numbers of a key behind its width
abbrev pub with_pair : List ℕ → ℕ → ℕ → List ℕ
with_pair x p n = set (set x p (n / 256)) (p + 1) (n % 256)

abbrev pub with_sender : List ℕ → ℕ → List ℕ
with_sender x n = with_pair (with_pair x 2 (n / 65536)) 4 (n % 65536)

abbrev pub with_numbers : List ℕ → ℕ → ℕ → ℕ → List ℕ
with_numbers x a b c = with_pair (with_pair (with_pair x 7 a) 9 b) 11 c

-- the slot with another key, and with another total
abbrev pub slot_with_key : Key → Slot → Slot
slot_with_key k x = record { rank = x.rank; beats = x.beats; key = k; total = x.total; lengths = x.lengths; held = x.held }

abbrev pub with_total : ℕ → Slot → Slot
with_total n x = record { rank = x.rank; beats = x.beats; key = x.key; total = n; lengths = x.lengths; held = x.held }
