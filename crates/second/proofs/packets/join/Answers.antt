use Rattle.second.proofs.PacketLaws.{packet_steps}
use Rattle.second.proofs.packets.join.Goals as goal

pub loop-k-init : goal.loop-k-init
loop-k-init c = search packet_steps

pub put_behind-at-requires : goal.put_behind-at-requires
put_behind-at-requires c = search packet_steps

pub loop-k-preserved : goal.loop-k-preserved
loop-k-preserved c = search packet_steps
