-- `collect` meets its contract: what stands before the packet, the header up to the check field and the data are put one behind the other.
-- Assumes nothing.
use Rattle.std.proofs.Common.{refl}
use Rattle.checksum.proofs.Steps.{all_collected}
use Rattle.checksum.proofs.collect.Goals as goal

pub returns : goal.returns
returns c =
    all_collected c.args.kind _ _ _ _ _ _ _ _ c.requires.kind_bound c.requires.packet_len_bound (c.fixed-lead.ensures.value, c.fixed-lead.ensures.out_after) c.least.ensures.value refl
    _ _ c.up_to.ensures _ (c.put_run-at.ensures.value, c.put_run-at.ensures.out_after) _ _ (c.put_run.ensures.value, c.put_run.ensures.out_after)
