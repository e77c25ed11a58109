-- By cases on the row, in the order of the rule. Assumes nothing.
use Rattle.changes.proofs.Steps.{steps}
use Rattle.changes.proofs.change.Goals as goal

pub returns-then-way-lt3 : goal.returns-then-way-lt3
returns-then-way-lt3 c = search steps

pub returns-then-row-lt-FILL : goal.returns-then-row-lt-FILL
returns-then-row-lt-FILL c = search steps

pub returns-then-row-eq-FILL : goal.returns-then-row-eq-FILL
returns-then-row-eq-FILL c = search steps

pub returns : goal.returns
returns c = search steps
