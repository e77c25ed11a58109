-- `put_lead` meets its contract. Each length is put where what is before it ended.
use Rattle.ussd_write.proofs.Steps.{whole_lead}
use Rattle.ussd_write.proofs.put_lead.Goals as goal

pub returns-clause-out_after : goal.returns-clause-out_after
returns-clause-out_after c =
    (whole_lead c.args.out.now _ _ _ c.args.pfi c.args.cpl c.args.header _ _ c.requires.2 c.put.ensures.dst_after (c.put_length-at.ensures.value, c.put_length-at.ensures.out_after)
    (c.put_length.ensures.value, c.put_length.ensures.out_after)).1
