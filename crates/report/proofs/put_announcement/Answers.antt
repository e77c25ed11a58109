-- `put_announcement` meets its contract: the header with the lengths, the run of TAR, CNTR and PCNTR, and the status are put one behind the other,
-- and are the sixteen octets of the report. Assumes nothing.
use Rattle.report.proofs.Steps.{steps}
use Rattle.report.proofs.put_announcement.Goals as goal

pub returns-clause-value : goal.returns-clause-value
returns-clause-value c = search steps

pub returns-clause-out_after : goal.returns-clause-out_after
returns-clause-out_after c = search steps
