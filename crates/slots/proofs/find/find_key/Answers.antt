-- `find_key` meets its contract: the first slot that bears the key is the one found, since none before it does, and if none does there is none.
-- Assumes nothing.
use Rattle.slots.proofs.FindSteps.{find_steps}
use Rattle.slots.proofs.find.find_key.Goals as goal

pub returns-then-bears_in-clause-result_value : goal.returns-then-bears_in-clause-result_value
returns-then-bears_in-clause-result_value c = search find_steps

pub returns-then-bears_in-2-clause-result_value : goal.returns-then-bears_in-2-clause-result_value
returns-then-bears_in-2-clause-result_value c = search find_steps

pub returns-then-bears_in-3-clause-result_value : goal.returns-then-bears_in-3-clause-result_value
returns-then-bears_in-3-clause-result_value c = search find_steps

pub returns-then-bears_in-4-clause-result_value : goal.returns-then-bears_in-4-clause-result_value
returns-then-bears_in-4-clause-result_value c = search find_steps

pub returns-then-bears_in-5-clause-result_value : goal.returns-then-bears_in-5-clause-result_value
returns-then-bears_in-5-clause-result_value c = search find_steps

pub returns-clause-result_value : goal.returns-clause-result_value
returns-clause-result_value c = search find_steps
