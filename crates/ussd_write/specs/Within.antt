-- What the functions of this crate cite of one another.
use Rattle.std.specs.Prelude.{ℕ, ◌+◌, Bool, List, ◌∷◌, ◌++◌, length, ltb}
use Rattle.types.specs.Refusals.{gives, Lent, writes}
use Rattle.build.specs.Within.{ruled}
use Rattle.ussd.specs.Ussd.{most_string, most_um, command_identifier, length_octets}

-- PFI, identifier, CPL and CHL
abbrev pub lead_octets : (pfi cpl header : ℕ) → List ℕ
lead_octets pfi cpl header = pfi ∷ command_identifier ∷ (length_octets cpl ++ length_octets header)

-- whether a UM is over 159, by its header length and how many octets are behind its lengths
abbrev pub over_um : (header octets : ℕ) → Bool
over_um header octets =
    ltb most_um (1 + (length (length_octets (length (length_octets header) + octets)) + (length (length_octets header) + octets)))

-- what writing the UM comes to, of three of the tests
abbrev pub tried_ussd : ℕ → Bool → Bool → Bool → List ℕ → List ℕ → Lent
tried_ussd pfi against misfit unchecked um buffer =
    writes (ruled most_string (length buffer) against misfit unchecked (ltb most_um (length um)) (gives (pfi ∷ um))) buffer
