-- `sent` meets its contract: the refusals stand in the order of the rule; a new command in a table that has room is put in. Assumes nothing.
use Rattle.gateway.proofs.Steps.{steps}
use Rattle.gateway.proofs.sent.Goals as goal

pub returns-then-unfit : goal.returns-then-unfit
returns-then-unfit c = search steps

pub returns-then-is_some : goal.returns-then-is_some
returns-then-is_some c = search steps

pub returns-then-outstanding-ge-OUTSTANDING_ENTRIES : goal.returns-then-outstanding-ge-OUTSTANDING_ENTRIES
returns-then-outstanding-ge-OUTSTANDING_ENTRIES c = search steps

pub returns : goal.returns
returns c = search steps
