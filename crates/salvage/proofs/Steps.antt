-- What the proofs of `salvage` cite; nothing is promised of a program but that it is safe and ends.
use Prim.Native.Nat.{ℕ, ◌-◌, ◌<◌}
use mathlib.Core.Path.{◌≡◌, ap}
use mathlib.Core.List.{List}
use native.Mathlib.Omega.{arith}
use lib.ListN.{length}
use borrow.Author.Rules.{rules}
use Rattle.types.specs.declared.SkippedRun.{SkippedRun}
use Rattle.skelmarix.specs.Rules.{next_run}

-- behind a run that has octets there are fewer left
pub run_passed : (file : List ℕ) (from : ℕ) (r : SkippedRun) → r ≡ next_run file from → (r.count ≡ 0 → ⊥) → from < length file
    → length file - r.next < length file - from
unfolding next_run
run_passed file from r e s l = omega (arith, ap (λ (x : SkippedRun). x.count) e, ap (λ (x : SkippedRun). x.next) e)

pub ruleset steps = (
  rules,
  run_passed,
)
