-- What the proofs of `regions` cite: one law for each return, over plain variables.
use Prim.Native.Nat.{ℕ, ◌-◌, ◌<◌, ◌≤◌}
use mathlib.Core.Path.{◌≡◌, sym, ◌∙◌}
use mathlib.Core.Bool.{Bool}
use mathlib.Core.List.{List, ◌++◌}
use native.Mathlib.Omega.{arith}
use lib.ListN.{length, take, drop}
use borrow.Author.Rules.{rules}
use borrow.Author.Tests.{lt-ltb, le-ltb}
use Rattle.words.specs.Line.{Gathered}
use Rattle.bench.specs.declared.Heard.{Heard}
use Rattle.bench.specs.Lines.{LineMade, Untouched}
use Rattle.regions.specs.declared.Chosen.{Chosen}
use Rattle.regions.specs.declared.Told.{Told}
use Rattle.regions.specs.Regions as rule
use Rattle.regions.specs.Regions.{FirstMade}

-- ---- regions
pub end_inside : (all : ℕ) → 16384 < all → 16384 ≡ rule.region_end all
end_inside all l = rw (lt-ltb 16384 all l)

pub end_last : (all : ℕ) → all ≤ 16384 → all ≡ rule.region_end all
end_last all l = rw (le-ltb 16384 all l)

-- ---- the first engine
-- what its region holds afterwards stands before the rest
pub first_made : (s : Gathered) (c : Chosen) (cells output x y : List ℕ) (n m : ℕ) (h : Heard) (z : Told)
    → n ≡ rule.region_end (length cells) → m ≡ rule.region_end (length output)
    → LineMade s c.bench (take (n - 0) cells) (take (m - 0) output) h x y → z.chosen ≡ rule.with_bench c h.bench → z.understood ≡ h.understood
    → FirstMade s c cells output z (x ++ drop (n - 0) cells) (y ++ drop (m - 0) output)
first_made s c cells output x y n m h z e f g i u =
    let all_n : n - 0 ≡ rule.region_end (length cells) = omega (arith, e) in
    let all_m : m - 0 ≡ rule.region_end (length output) = omega (arith, f) in
    record { answer = h; own = x; sent = y; leaves = rw (all_n, all_m) at g; is = i; heard = u; cells_are = rw all_n; output_is = rw all_m }

pub untouched_on : (u v : Bool) (before after : List ℕ) → v ≡ u → Untouched u before after → Untouched v before after
untouched_on u v before after e t = record { same = λ f. t.same (sym e ∙ f) }

pub ruleset steps = (
  rules,
  end_inside,
  end_last,
  first_made,
  untouched_on,
)
