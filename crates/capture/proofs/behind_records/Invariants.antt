-- `behind_records` meets its contract: from the position reached on, the next run is that from the start on. The octets left fall. Assumes nothing.
use lib.ListN.{length}
use Rattle.capture.specs.Captures.{next_run}
use Prim.Native.Nat.{◌-◌, ◌≤◌}
use mathlib.Core.Path.{◌≡◌}
use Rattle.capture.proofs.behind_records.Given as goal

abbrev pub invariant-loop-n : goal.invariant-loop-n
invariant-loop-n l = (next_run l.file l.from ≡ next_run l.file l.at) × (l.at ≤ length l.file)

abbrev pub decreases-loop-n : goal.decreases-loop-n
decreases-loop-n l = length l.file - l.at
