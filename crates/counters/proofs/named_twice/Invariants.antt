-- `named_twice` meets its contract: what is behind says it for all, since no TAR before is named again. Assumes nothing.
use Rattle.std.proofs.Common.{◌≡◌, length}
use Rattle.counters.specs.Counters.{named_twice}
use Rattle.counters.proofs.named_twice.Given as goal

abbrev pub invariant-loop-entry : goal.invariant-loop-entry
invariant-loop-entry l = named_twice l.rest ≡ named_twice l.fn.entries

abbrev pub decreases-loop-entry : goal.decreases-loop-entry
decreases-loop-entry l = length l.rest
