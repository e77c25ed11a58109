-- What the first engine leaves on its own region, if engines stand side by side. What the two others keep, and all that is printed, is held to stored lines
-- and not promised.
use Rattle.std.specs.Prelude.{ℕ, cond, List, ◌++◌, ◌≡◌, ltb, length, take, drop}
use Rattle.words.specs.Line.{Gathered}
use Rattle.changes.specs.declared.Bench.{Bench}
use Rattle.bench.specs.declared.Heard.{Heard}
use Rattle.bench.specs.Lines.{LineMade}
use Rattle.regions.specs.declared.Chosen.{Chosen}
use Rattle.regions.specs.declared.Told.{Told}

-- its region is the first 16,384 octets, of cells and of output
abbrev pub region_end : ℕ → ℕ
region_end all = cond (ltb 16384 all) 16384 all

abbrev pub with_bench : Chosen → Bench → Chosen
with_bench c b = record { bench = b; engine = c.engine; others = c.others }

-- it leaves what the line leaves of its own regions, `own` and `sent`, and all behind them as it was
pub record FirstMade (s : Gathered) (c : Chosen) (cells output : List ℕ) (r : Told) (cells' output' : List ℕ) : Type 0 where
  pub answer : Heard
  pub own : List ℕ
  pub sent : List ℕ
  pub leaves : LineMade s c.bench (take (region_end (length cells)) cells) (take (region_end (length output)) output) answer own sent
  pub is : r.chosen ≡ with_bench c answer.bench
  pub heard : r.understood ≡ answer.understood
  pub cells_are : cells' ≡ own ++ drop (region_end (length cells)) cells
  pub output_is : output' ≡ sent ++ drop (region_end (length output)) output
