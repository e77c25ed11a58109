-- `judge` meets its contract: its tests are those of `judged`, in their order. Assumes nothing.
use Rattle.arrival.proofs.Steps.{steps}
use Rattle.arrival.proofs.message.judge.Goals as goal

pub returns-then-seen : goal.returns-then-seen
returns-then-seen c = search steps

pub returns-then-is_misplaced : goal.returns-then-is_misplaced
returns-then-is_misplaced c = search steps

pub returns-then-is_alone : goal.returns-then-is_alone
returns-then-is_alone c = search steps

pub returns-then-from-gt-PARTS : goal.returns-then-from-gt-PARTS
returns-then-from-gt-PARTS c = search steps

pub returns : goal.returns
returns c = search steps
