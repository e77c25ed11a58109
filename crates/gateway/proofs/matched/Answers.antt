-- `matched` meets its contract: a command that no entry equals is unmatched; at its place it waits, or is taken out. Assumes nothing.
use Rattle.gateway.proofs.Steps.{steps, matches_none, matches_waiting}
use Rattle.gateway.proofs.matched.Goals as goal

pub returns-in_default : goal.returns-in_default
returns-in_default c = matches_none _ _ _ _ c.awaited.ensures c.in_default.ensures

pub returns-then-announces : goal.returns-then-announces
returns-then-announces c = matches_waiting _ _ _ _ c.awaited.ensures _ c.in-Some.ensures c.if-announces.true

pub returns : goal.returns
returns c = search (steps, c.in-Some.ensures)
