-- `take_page` meets its contract. Each need follows by a law of `CallLaws`. Assumes nothing.
use Rattle.second.proofs.CallLaws.{read_steps}
use Rattle.second.proofs.take_page.Goals as goal

pub take_arrival-requires : goal.take_arrival-requires
take_arrival-requires c = search read_steps

pub returns-clause-output_after : goal.returns-clause-output_after
returns-clause-output_after c = search read_steps
