-- `sent_twice` meets its contract: what is behind says it for all, since no command before is there again. Assumes nothing.
use Rattle.std.proofs.Common.{◌≡◌, length}
use Rattle.gateway.specs.Gateway.{twice_among}
use Rattle.gateway.proofs.sent_twice.Given as goal

abbrev pub invariant-loop-entry : goal.invariant-loop-entry
invariant-loop-entry l = twice_among l.rest ≡ twice_among l.fn.entries

abbrev pub decreases-loop-entry : goal.decreases-loop-entry
decreases-loop-entry l = length l.rest
