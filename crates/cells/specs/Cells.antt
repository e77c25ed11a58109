-- The cells, where the parts of unfinished series are kept, and the octets that parts join to (01, "Numbers", "Series").
use Rattle.std.specs.Prelude.{ℕ, ◌+◌, ◌-◌, ◌*◌, cond, List, take, drop, eqb}
unfoldable pub use Rattle.octets.specs.Joined.{joined}
use Rattle.arrival.specs.Message.{most_parts}
use Rattle.types.specs.declared.Slot.{Slot}
use Rattle.slots.specs.Slots.{length_at}

-- "Cells: one lent buffer of 6,432 octets (3 × 16 × 134)"; "Cells have 2,144 octets a slot, 10,720 by default" (02 [5])
abbrev pub cell_octets : ℕ
cell_octets = 134

abbrev pub cells_size : ℕ → ℕ
cells_size n = n * (most_parts * cell_octets)

-- "part k of slot s (s from 0) begins at (16s + k − 1) × 134"
abbrev pub cell_at : ℕ → ℕ → ℕ
cell_at s k = (most_parts * s + k - 1) * cell_octets

-- what the cells hold of part k of slot s, whose entry is x
unfoldable pub cell_part : List ℕ → Slot → ℕ → ℕ → List ℕ
cell_part cells x s k = take (length_at x k) (drop (cell_at s k) cells)

-- the parts of slot s, where the one that arrives has this number
abbrev pub part_of : List ℕ → Slot → ℕ → ℕ → List ℕ → ℕ → List ℕ
part_of cells x s number part k = cond (eqb k number) part (cell_part cells x s k)

unfoldable pub joined_octets : List ℕ → Slot → ℕ → ℕ → List ℕ → List ℕ
joined_octets cells x s number part = joined (part_of cells x s number part) x.total
