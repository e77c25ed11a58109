-- `replaced` meets its contract. Where there is no slot i, nothing is changed. Else the slots before j have their new rank and the others are as
-- they were; behind the last, all have, and slot i is set to x. Assumes nothing.
use Rattle.slots.specs.Order.{Changed, rank_after, reranked}
use Rattle.slots.proofs.order.replaced.Given as goal

abbrev pub invariant-loop-j : goal.invariant-loop-j
invariant-loop-j l = Changed (reranked (rank_after l.front l.r)) l.n l.initial.state l.state l.j
