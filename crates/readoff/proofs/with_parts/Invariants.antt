-- `with_parts` meets its contract. The parts before j are what the log says; the series stays as it was given. Assumes nothing.
use Rattle.readoff.proofs.Steps.{Parts}
use Rattle.plain.specs.Entries.{entries_from}
use Rattle.readoff.proofs.with_parts.Given as goal

abbrev pub invariant-loop-j : goal.invariant-loop-j
invariant-loop-j l = Parts (entries_from l.entries 0 l.count) l.slot l.initial.y l.y l.j
