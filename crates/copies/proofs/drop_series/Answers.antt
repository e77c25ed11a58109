-- `drop_series` meets its contract. Each need follows by a law of `CopyLaws`. Assumes nothing.
use Rattle.copies.proofs.CopyLaws.{series_dropped}
use Rattle.copies.proofs.drop_series.Goals as goal

pub returns : goal.returns
returns c = series_dropped c.args.slot c.args.rank _ _ _ _ c.leave_out-left.ensures.0 _ c.alter_all.ensures
