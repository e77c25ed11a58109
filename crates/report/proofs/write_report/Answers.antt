-- `write_report` meets its contract: the refusals are in the rule's order; what can be read goes out, with the status of the edition. Assumes
-- nothing.
use Rattle.std.proofs.Common.{rules}
use Rattle.std.proofs.lemmas.Result.{err_from_is_err_and}
use Rattle.report.proofs.Steps.{steps, report_refused}
use Rattle.report.proofs.write_report.Goals as goal

pub returns-then-out-ne-USER_DATA_OCTETS : goal.returns-then-out-ne-USER_DATA_OCTETS
returns-then-out-ne-USER_DATA_OCTETS c = search steps

pub returns-then-no_capacity : goal.returns-then-no_capacity
returns-then-no_capacity c = search steps

pub returns-then-not-is_known : goal.returns-then-not-is_known
returns-then-not-is_known c = search steps

pub returns-in_err-judge : goal.returns-in_err-judge
returns-in_err-judge c =
    let p = err_from_is_err_and c.from_residual.result c.from_residual.ensures.1 in
    rw (p.1, p.2) (report_refused _ _ _ _ _ (search rules) _ c.no_capacity.ensures (search rules) _ c.is_known.ensures (search rules) _ c.judge.ensures _ c.in_err-judge.was)

pub returns : goal.returns
returns c = search (steps, c.in_ok-judge.was)
