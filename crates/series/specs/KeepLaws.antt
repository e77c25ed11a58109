-- What holds of a record and cells that calls lead to, and that what a well-formed record and cells hold fits its cell. That taking keeps it so
-- stands in proofs/KeepsFormed.antt.
use Rattle.std.specs.Prelude.{ℕ, ◌+◌, ◌-◌, ◌≤◌, ◌≡◌, Bool, true, false, cond, ◌&&◌, List, length, eqb, ltb, leb}
use Rattle.std.proofs.Common.{arith, leb-true, eqb-true}
use Rattle.octets.specs.Tests.{both}
use Rattle.types.specs.declared.Kind.{Kind}
use Rattle.types.specs.declared.Key.{Key}
use Rattle.arrival.specs.Message.{most_parts}
use Rattle.arrival.specs.Keys.{of_pages, length_fits}
use Rattle.types.specs.declared.Slot.{Slot}
use Rattle.types.specs.declared.Record.{Record}
use Rattle.slots.specs.Slots.{length_at}
use Rattle.formed.specs.Formed.{mark_at, size_at}
use Rattle.formed.specs.Laws.{Formed, UsedSlot}
use Rattle.cells.specs.Cells.{cell_octets, cells_size}
use Rattle.series.specs.Taking.{After}

-- a part's octets fit its cell
pub short : (key : Key) (number : ℕ) (size : ℕ) → length_fits key number size ≡ true → size ≤ cell_octets
unfolding length_fits
short key number size = go (of_pages key) (eqb key.width 16)
  where
    go : (p w : Bool) → cond p (eqb size 82) (leb size (cond w 133 134 - cond (eqb number 1) 2 0)) ≡ true → size ≤ cell_octets
    go true w e = omega (arith, eqb-true size 82 e)
    go false true e = omega (arith, leb-true size (133 - cond (eqb number 1) 2 0) e)
    go false false e = omega (arith, leb-true size (134 - cond (eqb number 1) 2 0) e)

-- a part that is held is no longer than a cell
pub length_short : (k : Kind) (x : Slot) → UsedSlot k x → (m : ℕ) → 1 ≤ m → m ≤ most_parts → length_at x m ≤ cell_octets
length_short k x w m low high = go (mark_at x (m - 1)) (w.parts (m - 1) (omega arith))
  where
    go : (b : Bool) → cond b (ltb (m - 1) x.total && length_fits x.key (m - 1 + 1) (size_at x (m - 1))) (eqb (size_at x (m - 1)) 0) ≡ true → size_at x (m - 1) ≤ cell_octets
    go true e = short x.key (m - 1 + 1) (size_at x (m - 1)) (both (ltb (m - 1) x.total) (length_fits x.key (m - 1 + 1) (size_at x (m - 1))) e).1
    go false e = omega (arith, eqb-true (size_at x (m - 1)) 0 e)

-- what holds of a record and cells that calls lead to
pub record Sound (n : ℕ) (r : Record) (cells : List ℕ) : Type 0 where
  pub number : r.count ≡ n
  pub formed : Formed n r.kind r.slots
  pub size : length cells ≡ cells_size n

abbrev pub SoundAfter : ℕ → After → Type 0
SoundAfter n a = Sound n a.state.rec a.state.cells
