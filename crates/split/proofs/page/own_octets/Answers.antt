-- `cut` takes 82 octets at most from where the page begins; a page that is due begins within the packet. Assumes nothing.
use Rattle.split.proofs.Steps.{steps}
use Rattle.split.proofs.page.own_octets.Goals as goal

pub returns-clause-result_len_bound : goal.returns-clause-result_len_bound
returns-clause-result_len_bound c = search steps
