-- `response_announces` meets its contract: refused as reading is, and else the test of the status decides. Assumes nothing.
use Rattle.report.proofs.Steps.{steps}
use Rattle.report.proofs.response_announces.Goals as goal

pub returns-in_err-judge : goal.returns-in_err-judge
returns-in_err-judge c = search steps

pub returns : goal.returns
returns c = search (steps, c.in_ok-judge.was)
