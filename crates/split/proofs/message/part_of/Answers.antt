-- Up to 137 octets the part is the packet; beyond, what `cut` takes at the part's beginning with the part's room is the rule. Assumes nothing.
use Rattle.split.proofs.Steps.{steps}
use Rattle.split.proofs.message.part_of.Goals as goal

pub returns-then-packet-le-MOST_SINGLE : goal.returns-then-packet-le-MOST_SINGLE
returns-then-packet-le-MOST_SINGLE c = search steps

pub returns : goal.returns
returns c = search steps
