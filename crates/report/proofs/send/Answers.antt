-- `send` meets its contract: each return is a case of the rule, by the tests that lead to it. Assumes nothing.
use Rattle.report.proofs.Steps.{steps}
use Rattle.report.proofs.send.Goals as goal

pub returns-then-not-is_asked : goal.returns-then-not-is_asked
returns-then-not-is_asked c = search steps

pub returns-then-spi-eq1 : goal.returns-then-spi-eq1
returns-then-spi-eq1 c = search steps

pub returns-then-response-capacity : goal.returns-then-response-capacity
returns-then-response-capacity c = search steps

pub returns : goal.returns
returns c = search steps
