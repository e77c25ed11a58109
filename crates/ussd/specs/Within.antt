-- What the functions of this crate cite of one another.
use Rattle.std.specs.Prelude.{ℕ, ◌+◌, Bool, not, ◌&&◌, List, length, drop, eqb, ltb, leb}
use Rattle.types.specs.Refusals.{Outcome, refuse◌when◌otherwise◌}
use Rattle.types.specs.declared.Kind.TheVariants.{Command}
use Rattle.packet.specs.Packets.{least}
use Rattle.ussd.specs.Ussd.{most_string, length_size, length_value, length_formed, um_formed, addressed}

-- what is asked of the octets from CPL's first on, and of those from CHL's first on
abbrev pub lengths_right : List ℕ → List ℕ → Bool
lengths_right a b =
    length_formed a && eqb (length_value a) (length b) && length_formed b && leb (least Command) (length_value b)
    && leb (length_value b + length_size b) (length_value a)

-- what a string is asked before what is behind its lengths: 2, 5, 9
abbrev pub string_opened : {A : Type 0} → (pfi dcs : ℕ) → List ℕ → Outcome A → Outcome A
string_opened pfi dcs s o =
    refuse 2 when ltb most_string (length s) otherwise
    refuse 5 when not (addressed pfi dcs s) otherwise
    refuse 9 when not (um_formed (drop 1 s)) otherwise
    o
