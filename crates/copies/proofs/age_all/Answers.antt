-- `age_all` meets its contract. Each need follows by a law of `CopyLaws`. Assumes nothing.
use Rattle.copies.proofs.CopyLaws.{log_aged}
use Rattle.copies.proofs.age_all.Goals as goal

pub returns : goal.returns
returns c = log_aged c.args.limit _ _ _ _ _ c.leave_out-left.ensures.0 c.alter_all.ensures c.requires.count_value
