-- `parse_command` meets its contract. The header of a well-formed command is within what is behind its lengths, so reading that is not refused 9.
use Rattle.packet.proofs.Reading.{steps}
use Rattle.packet.proofs.read.parse_command.Goals as goal

pub returns-in_err-front : goal.returns-in_err-front
returns-in_err-front c = search steps

pub returns : goal.returns
returns c = search (steps, c.in_ok-front.was)
