-- `write_packet` meets its contract: the front tells the packet's length, which the joined octets have, and `join` writes that many of them;
-- where it tells of none, nothing is written. Assumes nothing.
use Rattle.cells.proofs.Steps.{packet_steps}
use Rattle.cells.proofs.packets.write_packet.Goals as goal

pub returns-in_err-size-clause-result_value : goal.returns-in_err-size-clause-result_value
returns-in_err-size-clause-result_value c = search (packet_steps, c.in_err-size.was)

pub returns-in_err-size-clause-out_after : goal.returns-in_err-size-clause-out_after
returns-in_err-size-clause-out_after c = search (packet_steps, c.in_err-size.was)

pub join-requires-clause-limit_in_bounds : goal.join-requires-clause-limit_in_bounds
join-requires-clause-limit_in_bounds c = search (packet_steps, c.in_ok-size.was)

pub returns-clause-result_value : goal.returns-clause-result_value
returns-clause-result_value c = search (packet_steps, c.in_ok-size.was)

pub returns-clause-out_after : goal.returns-clause-out_after
returns-clause-out_after c = search (packet_steps, c.in_ok-size.was)
