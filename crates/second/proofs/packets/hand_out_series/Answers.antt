-- `hand_out_series` meets its contract. Each need follows by a law of `PacketLaws`. Assumes nothing.
use Rattle.second.proofs.PacketLaws.{packet_steps}
use Rattle.second.proofs.packets.hand_out_series.Goals as goal

pub returns-clause-result_value : goal.returns-clause-result_value
returns-clause-result_value c = search packet_steps

pub returns-clause-output_after : goal.returns-clause-output_after
returns-clause-output_after c = search packet_steps
