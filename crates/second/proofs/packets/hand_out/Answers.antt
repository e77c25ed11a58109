-- `hand_out` meets its contract. Each need follows by a law of `PacketLaws`. Assumes nothing.
use Rattle.second.proofs.PacketLaws.{packet_steps}
use Rattle.second.proofs.packets.hand_out.Goals as goal

pub returns-clause-result_value : goal.returns-clause-result_value
returns-clause-result_value c = search (packet_steps, c.in_ok-size.was)

pub returns-clause-output_after : goal.returns-clause-output_after
returns-clause-output_after c = search (packet_steps, c.in_ok-size.was)

pub returns-in_err-size-clause-result_value : goal.returns-in_err-size-clause-result_value
returns-in_err-size-clause-result_value c = search (packet_steps, c.in_err-size.was)

pub returns-in_err-size-clause-output_after : goal.returns-in_err-size-clause-output_after
returns-in_err-size-clause-output_after c = search (packet_steps, c.in_err-size.was)
