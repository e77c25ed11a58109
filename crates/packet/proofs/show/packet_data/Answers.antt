-- `packet_data` meets its contract: the octets behind the lengths begin at 3.
use Rattle.packet.proofs.Showing.{steps}
use Rattle.packet.proofs.show.packet_data.Goals as goal

pub returns : goal.returns
returns c = search steps
