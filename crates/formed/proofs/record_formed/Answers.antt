-- `record_formed` meets its contract: the test of the number is the rule's, and behind it slots past the record's own are free, so that they change nothing. Assumes nothing.
use Rattle.formed.proofs.RecordSteps.{record_steps}
use Rattle.formed.proofs.record_formed.Goals as goal

pub returns-then-n : goal.returns-then-n
returns-then-n c = search record_steps

pub returns : goal.returns
returns c = search record_steps
