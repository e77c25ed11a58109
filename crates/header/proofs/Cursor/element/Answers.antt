-- `Cursor::element` meets its contract: each of its three refusals and the reading is one case of `first_element`, told by how much of the
-- header is left at the cursor. Assumes nothing.
use Rattle.header.proofs.Steps.{steps}
use Rattle.header.proofs.Cursor.element.Goals as goal

pub returns-then-h-at : goal.returns-then-h-at
returns-then-h-at c = search steps

pub returns-then-h-second : goal.returns-then-h-second
returns-then-h-second c = search steps

pub returns-then-h-start : goal.returns-then-h-start
returns-then-h-start c = search steps

pub returns : goal.returns
returns c = search steps
