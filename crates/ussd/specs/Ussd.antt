-- Single USSD messages (02, [7]; 000, 6.1 and annex A). Where each field is in a UM, the first octet being 0, if both lengths have one octet:
--
--   identifier 03   0
--   CPL             1        or two octets, 81 and one
--   CHL             2        or two octets, 81 and one
--   SPI ..          3        behind the lengths, as in a packet of 01
--
-- What is behind the lengths is read, judged and written by the rules of `packet`.
use Rattle.std.specs.Prelude.{ℕ, ◌+◌, Bool, cond, not, ◌&&◌, ◌||◌, List, [], ◌∷◌, ◌++◌, length, get_or, take, drop, eqb, ltb, leb}
use Rattle.octets.specs.Octets.{same_octets}
use Rattle.types.specs.declared.Kind.TheVariants.{Command}
use Rattle.types.specs.Refusals.{Outcome, gives, refuse◌when◌otherwise◌, Lent}
use Rattle.packet.specs.Packets.{least, Fields, fields_behind, ciphered_behind, against_check, Parsed, measured, shown, secured_of, check_of, opaque_of, header_length, behind, against_spi, misfit, into, runs_from, most_checksum}

-- "A USSD string of at most 160 octets begins with the PFI octet; the UM follows, at most 159."
abbrev pub most_string : ℕ
most_string = 160

abbrev pub most_um : ℕ
most_um = 159

-- "DCS is 96"; "identifier 03"
abbrev pub ussd_dcs : ℕ
ussd_dcs = 0x96

abbrev pub command_identifier : ℕ
command_identifier = 0x03

-- ---- lengths
-- "A length to 127 is one octet, 128 to 255 is 81 and one octet."
abbrev pub length_octets : ℕ → List ℕ
length_octets n = cond (leb n 127) (n ∷ []) (0x81 ∷ n ∷ [])

-- A length at the start of octets: how many octets it has, and what it is. Past the end a rule reads 0.
abbrev pub length_size : List ℕ → ℕ
length_size o = cond (leb (get_or o 0 0) 127) 1 2

abbrev pub length_value : List ℕ → ℕ
length_value o = cond (leb (get_or o 0 0) 127) (get_or o 0 0) (get_or o 1 0)

-- "house rule: any other or longer form is not well formed": 80, 82 and above, 81 before an octet below 80, and no octet at all
abbrev pub length_formed : List ℕ → Bool
length_formed o = (leb 1 (length o) && leb (get_or o 0 0) 127) || (eqb (get_or o 0 0) 0x81 && leb 128 (get_or o 1 0))

-- ---- a UM
-- its octets from CPL's first on, from CHL's first on, and behind the lengths
abbrev pub from_cpl : List ℕ → List ℕ
from_cpl um = drop 1 um

abbrev pub from_chl : List ℕ → List ℕ
from_chl um = drop (length_size (from_cpl um)) (from_cpl um)

abbrev pub um_behind : List ℕ → List ℕ
um_behind um = drop (length_size (from_chl um)) (from_chl um)

abbrev pub um_cpl : List ℕ → ℕ
um_cpl um = length_value (from_cpl um)

abbrev pub um_chl : List ℕ → ℕ
um_chl um = length_value (from_chl um)

-- where what is behind the lengths begins
abbrev pub um_start : List ℕ → ℕ
um_start um = 1 + length_size (from_cpl um) + length_size (from_chl um)

-- "CPL counts from CHL's first octet to the end; CHL is at least 13 and with its own octets at most CPL."
abbrev pub um_formed : List ℕ → Bool
um_formed um =
    length_formed (from_cpl um) && eqb (um_cpl um) (length (from_chl um)) && length_formed (from_chl um) && leb (least Command) (um_chl um)
    && leb (um_chl um + length_size (from_chl um)) (um_cpl um)

abbrev pub ciphered_um : List ℕ → Bool
ciphered_um um = ciphered_behind (um_behind um)

abbrev pub um_fields : List ℕ → Fields
um_fields um = fields_behind Command (ciphered_um um) (um_chl um) (um_behind um)

-- ---- reading: 2, 5, 9, 15
-- 5: "another DCS, no or another PFI, no or another identifier"
abbrev pub addressed : (pfi dcs : ℕ) → List ℕ → Bool
addressed pfi dcs s = eqb dcs ussd_dcs && same_octets (take 2 s) (pfi ∷ command_identifier ∷ [])

abbrev pub readable_ussd : {A : Type 0} → (pfi dcs : ℕ) → List ℕ → Outcome A → Outcome A
readable_ussd pfi dcs s o =
    refuse 2 when ltb most_string (length s) otherwise
    refuse 5 when not (addressed pfi dcs s) otherwise
    refuse 9 when not (um_formed (drop 1 s)) otherwise
    refuse 15 when against_check Command (um_fields (drop 1 s)) otherwise
    o

unfoldable pub read_ussd : (pfi dcs : ℕ) → List ℕ → Outcome Parsed
read_ussd pfi dcs s = readable_ussd pfi dcs s (gives (measured (um_fields (drop 1 s))))

-- parts shown as those of a packet of 01
unfoldable pub shown_ussd_data : (pfi dcs : ℕ) → List ℕ → List ℕ
shown_ussd_data pfi dcs s = shown (readable_ussd pfi dcs s (gives (secured_of (um_fields (drop 1 s)))))

unfoldable pub shown_ussd_check : (pfi dcs : ℕ) → List ℕ → List ℕ
shown_ussd_check pfi dcs s = shown (readable_ussd pfi dcs s (gives (check_of (um_fields (drop 1 s)))))

unfoldable pub shown_ussd_opaque : (pfi dcs : ℕ) → List ℕ → List ℕ
shown_ussd_opaque pfi dcs s = shown (readable_ussd pfi dcs s (gives (opaque_of (um_fields (drop 1 s)))))

-- ---- writing: 1, 10, 11, 15, 12
-- CHL and what is behind the lengths; and the UM, whose CPL counts these
abbrev pub coded_from : ℕ → List ℕ → List ℕ
coded_from header o = length_octets header ++ o

abbrev pub um_from : ℕ → List ℕ → List ℕ
um_from header o = command_identifier ∷ (length_octets (length (coded_from header o)) ++ coded_from header o)

unfoldable pub um_of : Fields → List ℕ
um_of x = um_from (header_length Command x) (behind x)

-- "12 meaning a UM over 159"
unfoldable pub writing_ussd : ℕ → Fields → Outcome (List ℕ)
writing_ussd pfi x =
    refuse 10 when against_spi Command x otherwise
    refuse 11 when misfit Command x otherwise
    refuse 15 when against_check Command x otherwise
    refuse 12 when ltb most_um (length (um_of x)) otherwise
    gives (pfi ∷ um_of x)

unfoldable pub written_ussd : ℕ → Fields → List ℕ → Lent
written_ussd pfi x buffer = into most_string (writing_ussd pfi x) buffer

-- ---- checksum octets: 1, 9, 15, 10
-- 9 "also without 03 first or over 159"
abbrev pub is_um : List ℕ → Bool
is_um um = eqb (get_or um 0 0) command_identifier && leb (length um) most_um && um_formed um

-- "begin with 03 and have the lengths as coded"
unfoldable pub ussd_checksum_octets : List ℕ → Outcome (List ℕ)
ussd_checksum_octets um =
    refuse 9 when not (is_um um) otherwise
    refuse 15 when against_check Command (um_fields um) otherwise
    refuse 10 when ciphered_um um otherwise
    gives (runs_from (um_start um) Command (um_chl um) um)

unfoldable pub ussd_checksummed : List ℕ → List ℕ → Lent
ussd_checksummed um buffer = into most_checksum (ussd_checksum_octets um) buffer
