-- Two digits are below 16 each, so that they make an octet. Assumes nothing.
use Rattle.words.proofs.Steps.{steps}
use Rattle.words.proofs.octet_of.Goals as goal

pub returns-then-is_ascii_hexdigit : goal.returns-then-is_ascii_hexdigit
returns-then-is_ascii_hexdigit c = search steps

pub returns-else-is_ascii_hexdigit : goal.returns-else-is_ascii_hexdigit
returns-else-is_ascii_hexdigit c = search steps
