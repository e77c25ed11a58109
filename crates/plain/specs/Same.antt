-- When a log, and a record with cells, are the same: the record is what is read off the log. Each entry says what its slot and its cell say, each part that
-- is held has an entry, and no part has two. That there is but one such record is shown in `ReadOff.antt`.
use Rattle.std.specs.Prelude.{ℕ, ◌≤◌, ◌<◌, ◌≡◌, true, false, List, [], ◌∷◌}
use Rattle.arrival.specs.Message.{most_parts}
use Rattle.types.specs.declared.Slot.{Slot}
use Rattle.slots.specs.Slots.{slot_at, held_at, length_at}
use Rattle.cells.specs.Cells.{cell_part}
use Rattle.series.specs.Taking.{After}
use Rattle.plain.specs.Entries.{Entry}
use Rattle.plain.specs.Log.{has_entry, is_part, Result}

-- a claim holds of each entry
pub data All (P : Entry → Type 0) : List Entry → Type 0 where
  nil : All P []
  cons : {e : Entry} {log : List Entry} → P e → All P log → All P (e ∷ log)

-- no part of a slot is there twice
pub data Once : List Entry → Type 0 where
  once_none : Once []
  once_more : {e : Entry} {log : List Entry} → has_entry (is_part e.slot e.number) log ≡ false → Once log → Once (e ∷ log)

-- The entry is of one of the n slots. What it notes of the series is what the slot says, the slot holds a part of that number and size, and the cell of
-- this part holds its octets.
pub record Fits (n : ℕ) (xs : List Slot) (cells : List ℕ) (e : Entry) : Type 0 where
  pub inside : e.slot < n
  pub used : 0 < e.rank
  pub rank : (slot_at xs e.slot).rank ≡ e.rank
  pub beats : (slot_at xs e.slot).beats ≡ e.beats
  pub key : (slot_at xs e.slot).key ≡ e.key
  pub total : (slot_at xs e.slot).total ≡ e.total
  pub low : 1 ≤ e.number
  pub high : e.number ≤ most_parts
  pub held : held_at (slot_at xs e.slot) e.number ≡ true
  pub size : length_at (slot_at xs e.slot) e.number ≡ e.size
  pub octets : cell_part cells (slot_at xs e.slot) e.slot e.number ≡ e.octets

pub record SameLog (n : ℕ) (xs : List Slot) (cells : List ℕ) (log : List Entry) : Type 0 where
  pub each : All (Fits n xs cells) log
  pub back : (i number : ℕ) → i < n → 1 ≤ number → number ≤ most_parts → held_at (slot_at xs i) number ≡ true → has_entry (is_part i number) log ≡ true
  pub once : Once log

-- a part came to the same through both engines
pub record Equal (n : ℕ) (p : Result) (a : After) : Type 0 where
  pub answer : p.answer ≡ a.answer
  pub output : p.output ≡ a.state.output
  pub same : SameLog n a.state.rec.slots a.state.cells p.log
