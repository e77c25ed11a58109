-- `put_part` meets its contract: no part has that number, or its length and then its mark are stored. Assumes nothing.
use borrow.Author.Rules.{rules}
use Rattle.layout.specs.Laws.{part_set}
use Rattle.layout.proofs.write.put_part.Goals as goal

pub returns-then-contains : goal.returns-then-contains
returns-then-contains c = part_set _ _ _ _ _ _ (λ e. search rules) (search rules) c.set_octet.ensures c.set_octet-then-contains.ensures
