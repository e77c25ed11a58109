-- What the proofs over one octet cite.
use borrow.Author.Rules.{rules}
use Rattle.layout.specs.Laws.{octet_read, octet_none, octet_stored, none_stored}

pub ruleset octet_steps = (
  rules,
  octet_read,
  octet_none,
  octet_stored,
  none_stored,
)
