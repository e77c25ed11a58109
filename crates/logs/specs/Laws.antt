-- Laws of the entries of a log, and of what a walk over them found, for the crates above.
use Rattle.std.specs.Prelude.{ℕ, zero, suc, ◌-◌, ◌≤◌, ◌<◌, ◌≡◌, refl, Bool, List, length}
use Rattle.std.proofs.Common.{sym, ap, ◌∙◌, arith, lt-ltb, le-ltb}
use Rattle.std.proofs.Math.Option.{none, some}
use Rattle.plain.specs.Entries.{Entry, log_entry_at, entries_from}
use Rattle.plain.specs.Log.{first_entry}
use Rattle.logs.specs.Places.{found_at}

-- there are as many as were asked for
pub entries_long : (lent : List ℕ) (m b : ℕ) → length (entries_from lent b m) ≡ m
unfolding entries_from
entries_long lent zero b = refl
entries_long lent (suc m) b = ap suc (entries_long lent m (suc b))

-- ---- what a walk over all entries found
module _ (p : Entry → Bool) (lent : List ℕ) (m i : ℕ) (found : found_at lent m i ≡ first_entry p (entries_from lent 0 (m - 0))) where
  from_start : first_entry p (entries_from lent 0 (m - 0)) ≡ first_entry p (entries_from lent 0 m)
  from_start = let z : m - 0 ≡ m = omega arith in rw z

  pub found_some : i < m → first_entry p (entries_from lent 0 m) ≡ some (log_entry_at lent i)
  found_some l = sym (found ∙ from_start) ∙ rw (lt-ltb i m l)

  pub found_none : m ≤ i → first_entry p (entries_from lent 0 m) ≡ none
  found_none l = sym (found ∙ from_start) ∙ rw (le-ltb i m l)
