-- Header and octets are put one behind the other and 00 fills the rest of the 88, which is the page as the rule has it. Assumes nothing.
use Rattle.std.proofs.Common.{refl, rules}
use Rattle.split.proofs.Paging.{page_stands}
use Rattle.split.proofs.page.write.Goals as goal

pub returns : goal.returns
returns c =
    page_stands _ _ _ _ _ _ _ _ c.requires _ _ _ _ refl c.put_header.ensures c.own_octets-own.ensures.result_value c.own_octets-own.ensures.result_len_bound
    c.put.ensures.dst_after _ c.parameter.ensures (c.fill.ensures.after (λ y e. search rules))
