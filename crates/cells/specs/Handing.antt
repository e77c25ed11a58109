-- What the functions on cells promise on every input, also if there is no such cell; where a part lies, and the octets of a series, part by part
-- from the lengths of its slot.
use Rattle.std.specs.Prelude.{ℕ, ◌+◌, ◌-◌, ◌≤◌, ◌<◌, Bool, cond, ◌&&◌, List, length, get_or, take, drop, eqb, ltb, leb}
use Rattle.std.proofs.Math.Option.{Option, none}
use Rattle.octets.specs.Octets.{after_put}
use Rattle.types.specs.declared.Kind.{Kind}
use Rattle.arrival.specs.Message.{most_parts}
use Rattle.joined.specs.Fronts.{packet_in}
use Rattle.slots.specs.Slots.{most_slots}
use Rattle.cells.specs.Cells.{cell_octets, cells_size, cell_at, joined}

-- ---- cells
-- part k of slot s has a cell
abbrev pub Place : ℕ → ℕ → Type 0
Place s k = (s < most_slots) × (0 < k) × (k ≤ most_parts)

-- the cells of slot s are among those lent
abbrev pub Reaches : ℕ → List ℕ → Type 0
Reaches s cells = cells_size (s + 1) ≤ length cells

-- whether the cells of slot s, and the one of its part k, are in a buffer of that size
abbrev pub reaches : ℕ → ℕ → Bool
reaches size s = ltb s most_slots && leb (cells_size (s + 1)) size

abbrev pub has_cell : ℕ → ℕ → ℕ → Bool
has_cell size s k = reaches size s && ltb 0 k && leb k most_parts

-- the octets that a cell begins with
abbrev pub cell_start : List ℕ → ℕ → ℕ → ℕ → List ℕ
cell_start cells s k n = take n (drop (cell_at s k) cells)

-- the cells after a part was stored
abbrev pub after_store : List ℕ → ℕ → ℕ → List ℕ → List ℕ
after_store cells s k part = cond (has_cell (length cells) s k) (after_put cells (cell_at s k) part) cells

-- ---- a series
-- part k, from the lengths of its slot
abbrev pub series_piece : List ℕ → List ℕ → ℕ → ℕ → List ℕ → ℕ → List ℕ
series_piece cells lengths s number part k = cond (eqb k number) part (cell_start cells s k (get_or lengths (k - 1) 0))

-- the octets that parts 1 to total join to
abbrev pub series_octets : List ℕ → List ℕ → ℕ → ℕ → ℕ → List ℕ → List ℕ
series_octets cells lengths total s number part = joined (series_piece cells lengths s number part) total

-- whether cells of that size, so many lengths, a total of parts and an arriving part of that length make a series of slot s
abbrev pub joins : ℕ → ℕ → ℕ → ℕ → ℕ → Bool
joins size lengths total s part = reaches size s && eqb lengths most_parts && leb total most_parts && leb part cell_octets

-- the packet that a series joins to, for a buffer of `size` octets: none if it makes no series, or the buffer has not as many octets as the parts
abbrev pub series_packet : Kind → Bool → List ℕ → List ℕ → ℕ → ℕ → ℕ → List ℕ → ℕ → Option (List ℕ)
series_packet k paged cells lengths total s number part size =
    cond (joins (length cells) (length lengths) total s (length part) && leb (length (series_octets cells lengths total s number part)) size)
    (packet_in k paged total (series_octets cells lengths total s number part)) none
