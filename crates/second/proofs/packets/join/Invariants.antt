-- `join` meets its contract. The parts so far stand at the start. Assumes nothing.
use Rattle.second.proofs.PacketLaws.{Joins}
use Rattle.plain.specs.Entries.{entries_from}
use Rattle.second.proofs.packets.join.Given as goal

abbrev pub invariant-loop-k : goal.invariant-loop-k
invariant-loop-k l = Joins (entries_from l.entries 0 l.count) l.slot l.total l.number l.part l.initial.out l.out l.k l.at
