-- `answer_of` meets its contract: the refusals stand in the order of the rule; what can be read and is plain is judged. Assumes nothing.
use Rattle.counters.proofs.Steps.{steps}
use Rattle.counters.proofs.answer_of.Goals as goal

pub returns-in_err-judge : goal.returns-in_err-judge
returns-in_err-judge c = search steps

pub returns-then-ciphered : goal.returns-then-ciphered
returns-then-ciphered c = search (steps, c.in_ok-judge.was)

pub returns-then-unfit : goal.returns-then-unfit
returns-then-unfit c = search (steps, c.in_ok-judge.was)

pub returns : goal.returns
returns c = search (steps, c.in_ok-judge.was)
