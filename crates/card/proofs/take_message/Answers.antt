-- `take_message` meets its contract: past the tests the octets hold a sound record, and what reading gives of octets fits. Assumes nothing.
use Rattle.card.proofs.Steps.{take_steps}
use Rattle.card.proofs.take_message.Goals as goal

pub returns-then-unfit : goal.returns-then-unfit
returns-then-unfit c = search take_steps

pub take_arrival-answer-requires-clause-fitting : goal.take_arrival-answer-requires-clause-fitting
take_arrival-answer-requires-clause-fitting c = search take_steps

pub returns : goal.returns
returns c = search take_steps
