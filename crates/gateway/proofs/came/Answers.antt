-- `came` meets its contract: the refusals stand in the order of the rule; what can be read is matched, as one that announces another or not. Assumes nothing.
use Rattle.std.proofs.lemmas.Result.{err_from_is_err_and}
use Rattle.gateway.proofs.Steps.{steps, came_refused}
use Rattle.gateway.proofs.came.Goals as goal

pub returns-then-unfit : goal.returns-then-unfit
returns-then-unfit c = search steps

pub returns-in_err-announces : goal.returns-in_err-announces
returns-in_err-announces c =
    let p = err_from_is_err_and c.from_residual.result c.from_residual.ensures.1 in
    rw (p.1, p.2) (came_refused _ _ _ _ c.unfit.ensures c.if-unfit.false _ c.response_announces.ensures _ c.in_err-announces.was)

pub answered_by-requires : goal.answered_by-requires
answered_by-requires c = search (steps, c.in_ok-announces.was)

pub returns : goal.returns
returns c = search (steps, c.in_ok-announces.was)
