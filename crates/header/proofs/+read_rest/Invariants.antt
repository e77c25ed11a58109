-- `read_rest` meets its contract: the elements from a place on are the one that stands there and those behind it, and what was seen takes the
-- one in before the others. If the one cannot be read the answer is 3, as 01 says. The octets left of the header fall, since an element takes
-- two at least. Assumes nothing.
use Rattle.std.proofs.Common.{length, ◌-◌}
use Rattle.header.proofs.+read_rest.Given as goal

abbrev pub decreases-read_rest : goal.decreases-read_rest
decreases-read_rest l = length l.h.now.now - l.cursor.at
