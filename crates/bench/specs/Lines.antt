-- What a line leaves: what is kept afterwards is as the rule of its row says, which is the library's rule for the call that the line asks for; a line
-- that is not understood changes nothing. What is printed is held to stored lines and not promised.
use Rattle.std.specs.Prelude.{ℕ, Bool, true, false, ◌&&◌, List, ◌≡◌, eqb, get_or, set}
use Rattle.types.specs.declared.Slot.{Slot}
use Rattle.skelmarix.specs.Rules.{with_slots}
use Rattle.words.specs.declared.line.Line.{Line}
use Rattle.words.specs.Line.{Gathered, line_read, gathered, Apart}
use Rattle.values.specs.Meaning.{meant}
use Rattle.changes.specs.declared.Bench.{Bench}
use Rattle.changes.specs.Kept.{held, with_record, row_changes}
use Rattle.bench.specs.declared.Heard.{Heard}

-- ---- what a line says
-- it is understood if it was read, and if its words can be meant
abbrev pub meant_by : Gathered → Gathered
meant_by s =
    record {
      understood = s.understood && meant s.row s.count (get_or s.values 0 0) s.octets;
      more = s.more;
      row = s.row;
      sorts = s.sorts;
      values = s.values;
      count = s.count;
      octets = s.octets;
      text = s.text;
    }

abbrev pub line_says : List ℕ → Gathered
line_says line = meant_by (line_read line)

-- what reading it leaves
pub record ReadSo (r : Line) (before after : List ℕ) : Type 0 where
  pub is : gathered r after ≡ line_says before
  pub inside : Apart r.end r.at before after

-- ---- what making its call leaves
-- a slot is put in the place that the line says, and nothing else changes; what it holds is held to stored lines
pub record SlotPut (s : Gathered) (b : Bench) (r : Heard) : Type 0 where
  pub put : Slot
  pub is : r.understood ≡ true → r.bench ≡ with_record b (with_slots b.«record» (set b.«record».slots (get_or s.values 0 0) put))
  pub kept : r.understood ≡ false → r.bench ≡ b

-- row 13 `slot ..`: its parts are read besides, and may be wrong
abbrev pub puts_slot : Gathered → Bool
puts_slot s = eqb s.row 13

-- what a line leaves that was read and understood: it puts a slot, or is another
pub data LineMade (s : Gathered) (b : Bench) (cells output : List ℕ) (r : Heard) (cells' output' : List ℕ) : Type 0 where
  slot : puts_slot s ≡ true → SlotPut s b r → cells' ≡ cells → output' ≡ output → LineMade s b cells output r cells' output'
  elsewhere : puts_slot s ≡ false → r.understood ≡ true
      → held r.bench cells' output' ≡ row_changes s.row s.count (get_or s.values 0 0) s.octets (held b cells output)
      → LineMade s b cells output r cells' output'

-- a line that is not understood leaves the buffer as it was
pub record Untouched (understood : Bool) (before after : List ℕ) : Type 0 where
  pub same : understood ≡ false → after ≡ before
