-- `sound_record` meets its contract: the tests are those of the rule; with too few octets left no record is sound, since it would end past them. Assumes nothing.
use Rattle.capture.proofs.Steps.{steps}
use Rattle.capture.proofs.sound_record.Goals as goal

pub returns-in_default : goal.returns-in_default
returns-in_default c = search steps

pub returns-then-not-is_marked : goal.returns-then-not-is_marked
returns-then-not-is_marked c = search steps

pub returns-then-not-is_head : goal.returns-then-not-is_head
returns-then-not-is_head c = search steps

pub returns-in_err-behind : goal.returns-in_err-behind
returns-in_err-behind c = search steps

pub returns-then-is_marked : goal.returns-then-is_marked
returns-then-is_marked c = search steps

pub returns-else-is_marked : goal.returns-else-is_marked
returns-else-is_marked c = search steps
