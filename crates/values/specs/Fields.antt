-- What a line's fields say to the calls that a rule cites.
use Rattle.std.specs.Prelude.{ℕ, ◌+◌, ◌*◌, Bool, cond, List, get_or}
use Rattle.types.specs.declared.Tar.{Tar}
use Rattle.types.specs.declared.Cntr.{Cntr}
use Rattle.types.specs.declared.Kind.{Kind}
use Rattle.types.specs.declared.Kind.TheVariants.{Command, Response}

abbrev pub kind_by : Bool → Kind
kind_by response = cond response Response Command

-- the sender is the number of the first four octets
abbrev pub sender_of : List ℕ → ℕ
sender_of o = (get_or o 0 0 * 256 + get_or o 1 0) * 65536 + (get_or o 2 0 * 256 + get_or o 3 0)

-- a TAR is the first three octets, a CNTR the first five
abbrev pub tar_of : List ℕ → Tar
tar_of o = (get_or o 0 0, get_or o 1 0, get_or o 2 0)

abbrev pub cntr_of : List ℕ → Cntr
cntr_of o = (get_or o 0 0, get_or o 1 0, get_or o 2 0, get_or o 3 0, get_or o 4 0)
