-- `rerank` meets its contract: before each turn the slots before j are at their new ranks and the others are as they were; behind the last of the
-- record's own all are. Assumes nothing.
use Rattle.layout.specs.Loops.{Turning}
use Rattle.slots.specs.Order.{rank_after, reranked}
use Rattle.moves.proofs.rerank.Given as goal

abbrev pub invariant-loop-j : goal.invariant-loop-j
invariant-loop-j l = Turning (reranked (rank_after l.front l.r)) l.n l.initial.state l.state l.j
