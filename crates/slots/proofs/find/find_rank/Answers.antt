-- `find_rank` meets its contract: the first slot that has the rank is the one found, since none before it has, and if none has there is none.
-- Assumes nothing.
use Rattle.slots.proofs.FindSteps.{find_steps}
use Rattle.slots.proofs.find.find_rank.Goals as goal

pub returns-then-ranks_in-clause-result_value : goal.returns-then-ranks_in-clause-result_value
returns-then-ranks_in-clause-result_value c = search find_steps

pub returns-then-ranks_in-2-clause-result_value : goal.returns-then-ranks_in-2-clause-result_value
returns-then-ranks_in-2-clause-result_value c = search find_steps

pub returns-then-ranks_in-3-clause-result_value : goal.returns-then-ranks_in-3-clause-result_value
returns-then-ranks_in-3-clause-result_value c = search find_steps

pub returns-then-ranks_in-4-clause-result_value : goal.returns-then-ranks_in-4-clause-result_value
returns-then-ranks_in-4-clause-result_value c = search find_steps

pub returns-then-ranks_in-5-clause-result_value : goal.returns-then-ranks_in-5-clause-result_value
returns-then-ranks_in-5-clause-result_value c = search find_steps

pub returns-clause-result_value : goal.returns-clause-result_value
returns-clause-result_value c = search find_steps
