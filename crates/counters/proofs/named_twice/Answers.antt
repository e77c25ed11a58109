use Rattle.counters.proofs.Steps.{steps, twice_found, twice_on}
use Rattle.counters.proofs.named_twice.Goals as goal

pub returns-then-is_some : goal.returns-then-is_some
returns-then-is_some c =
    twice_found _ _ c.loop-entry.invariant _ _ c.in-Some.ensures.cases.0 _ c.place_of.ensures _ c.is_some.ensures c.if-is_some.true

pub loop-entry-preserved : goal.loop-entry-preserved
loop-entry-preserved c =
    twice_on _ _ c.loop-entry.invariant _ _ c.in-Some.ensures.cases.0 _ c.place_of.ensures _ c.is_some.ensures c.if-is_some.false

pub returns : goal.returns
returns c = search steps
