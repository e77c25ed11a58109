-- `build` meets its contract. What is allowed is not longer than its buffer; what is not leaves the buffer alone.
use Rattle.std.proofs.lemmas.Result.{err_from_is_err_and}
use Rattle.build.proofs.Steps.{steps, tried_refused}
use Rattle.build.proofs.build.Goals as goal

pub returns-in_err-rule : goal.returns-in_err-rule
returns-in_err-rule c =
    let p = err_from_is_err_and c.from_residual.result c.from_residual.ensures.1 in
    rw (p.1, p.2)
    (tried_refused c.args.out.now c.args.head.now c.args.front.now c.args.back.now _ c.args.misfit c.args.unchecked _ c.over-long.ensures _ c.rule.ensures
    (search steps) _ _ c.in_err-rule.was)
