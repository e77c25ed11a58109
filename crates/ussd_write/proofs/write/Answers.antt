-- `write` meets its contract. CPL counts the octets of CHL and what is behind it, and the fields are put behind both.
use Rattle.ussd_write.proofs.Steps.{string_written}
use Rattle.ussd_write.proofs.write.Goals as goal

pub returns : goal.returns
returns c =
    string_written c.args.out.now c.args.fixed.now c.args.front.now c.args.back.now _ _ c.args.pfi c.args.header _ _ c.requires.header_bound c.coded_size.ensures c.requires.back_len_bound
    (c.put_lead-at.ensures.value, c.put_lead-at.ensures.out_after) c.put_runs.ensures.out_after
