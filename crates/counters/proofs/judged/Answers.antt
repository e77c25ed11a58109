-- `judged` meets its contract: a TAR that no entry has is unknown, and else it is judged at its entry. Assumes nothing.
use Rattle.counters.proofs.Steps.{tar_unknown, tar_known}
use Rattle.std.proofs.Common.{arith}
use Rattle.counters.proofs.judged.Goals as goal

pub returns-in-None : goal.returns-in-None
returns-in-None c = tar_unknown _ _ _ (c.tar_at.ensures.value (omega (arith, c.requires.0))) _ c.in_use.ensures c.in-None.ensures

pub returns-in-Some : goal.returns-in-Some
returns-in-Some c = tar_known _ _ _ (c.tar_at.ensures.value (omega (arith, c.requires.0))) _ c.in_use.ensures _ c.in-Some.ensures _ c.judged_at.ensures
