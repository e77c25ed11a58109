-- `put_report` meets its contract: the header is put at the start, and the response behind it. Assumes nothing.
use Rattle.report.proofs.Steps.{steps}
use Rattle.report.proofs.put_report.Goals as goal

pub returns-clause-out_after : goal.returns-clause-out_after
returns-clause-out_after c = search steps
