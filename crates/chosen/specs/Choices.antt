-- What a line leaves if an engine is chosen: a line of another engine is not understood; a choice makes everything fresh; the first engine leaves what its
-- own lines leave, in its own region. What the two others keep, and all that is printed, is held to stored lines and not promised.
use Rattle.std.specs.Prelude.{ℕ, ◌-◌, Bool, true, false, ◌&&◌, List, ◌≡◌, leb, length, replicate}
use Rattle.types.specs.declared.Kind.TheVariants.{Command}
use Rattle.skelmarix.specs.Rules.{default_slots, fresh_record}
use Rattle.words.specs.Line.{silent}
use Rattle.values.specs.Meaning.{suits}
use Rattle.changes.specs.Kept.{with_record}
use Rattle.bench.specs.Lines.{line_says}
use Rattle.regions.specs.Regions.{FirstMade}
use Rattle.regions.specs.declared.Chosen.{Chosen}
use Rattle.regions.specs.declared.Told.{Told}

-- a line that was read is understood if the engine that answers has lines of its row
abbrev pub understood_by : ℕ → Bool → ℕ → Bool
understood_by engine understood row = understood && suits engine row

-- rows 69 to 72 `engine first`, `engine card`, `engine plain`, `engine both`
abbrev pub engine_row : ℕ → Bool
engine_row row = leb 69 row && leb row 72

-- ---- choosing
-- engine e answers, and the record of the first is a fresh one
pub record Begun (e : ℕ) (c : Chosen) (r : Told) : Type 0 where
  pub heard : r.understood ≡ true
  pub bench : r.chosen.bench ≡ with_record c.bench (fresh_record default_slots Command)
  pub engine : r.chosen.engine ≡ e

-- ---- all lines
-- if the line is not understood after all, what is kept is as it was
pub record Unclear (c : Chosen) (r : Told) : Type 0 where
  pub kept : r.understood ≡ false → r.chosen ≡ c

-- what a line leaves that asks nothing, is not understood, chooses an engine, is one of the first engine, or of another
pub data LineLeaves (line : List ℕ) (c : Chosen) (cells output : List ℕ) (r : Told) (cells' output' : List ℕ) : Type 0 where
  nothing : silent line ≡ true → r.understood ≡ true → r.chosen ≡ c → cells' ≡ cells → output' ≡ output → LineLeaves line c cells output r cells' output'
  strange : silent line ≡ false → understood_by c.engine (line_says line).understood (line_says line).row ≡ false
      → r.understood ≡ false → r.chosen ≡ c → cells' ≡ cells → output' ≡ output → LineLeaves line c cells output r cells' output'
  chooses : silent line ≡ false → understood_by c.engine (line_says line).understood (line_says line).row ≡ true
      → engine_row (line_says line).row ≡ true → Begun ((line_says line).row - 69) c r
      → cells' ≡ replicate (length cells) 0 → output' ≡ replicate (length output) 0 → LineLeaves line c cells output r cells' output'
  by_first : silent line ≡ false → understood_by c.engine (line_says line).understood (line_says line).row ≡ true
      → engine_row (line_says line).row ≡ false → c.engine ≡ 0 → FirstMade (line_says line) c cells output r cells' output'
      → LineLeaves line c cells output r cells' output'
  by_other : silent line ≡ false → understood_by c.engine (line_says line).understood (line_says line).row ≡ true
      → engine_row (line_says line).row ≡ false → (c.engine ≡ 0 → ⊥)
      → Unclear c r → (r.understood ≡ false → cells' ≡ cells) → (r.understood ≡ false → output' ≡ output) → LineLeaves line c cells output r cells' output'
