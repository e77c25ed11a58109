-- `read_page` meets its contract: its tests are those of `read_page`, in their order, over what its calls read of the header. Assumes nothing.
use Rattle.arrival.proofs.Steps.{steps}
use Rattle.arrival.proofs.page.read_page.Goals as goal

pub returns-then-page-ne-PAGE_OCTETS : goal.returns-then-page-ne-PAGE_OCTETS
returns-then-page-ne-PAGE_OCTETS c = search steps

pub returns-then-total-number : goal.returns-then-total-number
returns-then-total-number c = search steps

pub returns-then-is_misdirected : goal.returns-then-is_misdirected
returns-then-is_misdirected c = search steps

pub returns-then-total-eq1 : goal.returns-then-total-eq1
returns-then-total-eq1 c = search steps

pub returns : goal.returns
returns c = search steps
