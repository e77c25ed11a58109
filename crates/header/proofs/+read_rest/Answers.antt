use Rattle.header.proofs.Steps.{steps}
use Rattle.header.proofs.+read_rest.Goals as goal

pub returns-then-header-at : goal.returns-then-header-at
returns-then-header-at t c = search steps

pub returns-in_default : goal.returns-in_default
returns-in_default t c = search steps

pub slice_bounds-lay_more-count : goal.slice_bounds-lay_more-count
slice_bounds-lay_more-count t c = search steps

pub slice_bounds-lay_more-start : goal.slice_bounds-lay_more-start
slice_bounds-lay_more-start t c = search steps

pub slice_bounds-lay_more-end : goal.slice_bounds-lay_more-end
slice_bounds-lay_more-end t c = search steps

pub read_rest-requires : goal.read_rest-requires
read_rest-requires t c = search steps

pub returns : goal.returns
returns t c = search steps
