-- `take_page` meets its contract: its tests are those of the rule, and what reading gives of octets fits. Assumes nothing.
use Rattle.series.proofs.TakeSteps.{take_steps}
use Rattle.series.proofs.take.take_page.Goals as goal

pub take_arrival-requires-clause-fitting : goal.take_arrival-requires-clause-fitting
take_arrival-requires-clause-fitting c = search take_steps

pub returns : goal.returns
returns c = search take_steps
