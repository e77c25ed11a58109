-- Single USSD messages (02, [7]): lengths coded and decoded, each refusal on its condition, and the round trips of strings.
use Rattle.std.specs.declared.result.Result.TheVariants.{Ok}
use Rattle.std.specs.Prelude.{ℕ, ◌+◌, ◌≤◌, ◌<◌, ◌≡◌, true, false, List, [], ◌∷◌, ◌++◌, length, drop, replicate}
use Rattle.octets.specs.Octets.{Octets}
use Rattle.types.specs.declared.Kind.TheVariants.{Command}
use Rattle.types.specs.declared.Opaque.{Opaque}
use Rattle.types.specs.declared.PlainCommand.{PlainCommand}
use Rattle.types.specs.declared.CommandBody.TheVariants as command
use Rattle.types.specs.declared.Command as commands
use Rattle.types.specs.Refusals.{Outcome, refused, gives, writes}
use Rattle.packet.specs.Packets.{Fields, plain, ciphered, against_check, against_spi, misfit, Parsed, plain_parsed, measured, secured_of, check_of, opaque_of, runs_from}
use Rattle.packet.specs.Told.{clear_octets, command_fixed, told_command}
use Rattle.packet.specs.Laws.{RightLength}
use Rattle.ussd.specs.Ussd.{most_string, most_um, ussd_dcs, length_octets, length_size, length_value, length_formed, um_chl, um_start, um_formed, ciphered_um, um_fields, addressed, read_ussd, shown_ussd_data, shown_ussd_check, shown_ussd_opaque, coded_from, um_of, writing_ussd, written_ussd, is_um, ussd_checksum_octets}
use Rattle.trips.specs.RoundTrips.{fields_from}

-- ---- lengths
-- Over all lengths to 255: a length that was coded is octets, and is decoded as itself whatever follows; a length that was decoded is coded as the
-- same octets. Every other form is refused.
pub record LengthCoding : Type 0 where
  pub octets : (n : ℕ) → n ≤ 255 → Octets (length_octets n)
  pub coded_formed : (n : ℕ) → n ≤ 255 → (o : List ℕ) → length_formed (length_octets n ++ o) ≡ true
  pub coded_value : (n : ℕ) → n ≤ 255 → (o : List ℕ) → length_value (length_octets n ++ o) ≡ n
  pub coded_rest : (n : ℕ) → n ≤ 255 → (o : List ℕ) → drop (length_size (length_octets n ++ o)) (length_octets n ++ o) ≡ o
  pub decoded_coded : (o : List ℕ) → length_formed o ≡ true → length_octets (length_value o) ++ drop (length_size o) o ≡ o
  -- "A length to 127 is one octet, 128 to 255 is 81 and one octet"
  pub short : (n : ℕ) → n ≤ 127 → length_octets n ≡ n ∷ []
  pub long : (n : ℕ) → 128 ≤ n → length_octets n ≡ 0x81 ∷ n ∷ []
  -- "any other or longer form is not well formed"
  pub none : length_formed [] ≡ false
  pub open_ended : (o : List ℕ) → length_formed (0x80 ∷ o) ≡ false
  pub alone : length_formed (0x81 ∷ []) ≡ false
  pub longer_form : (n : ℕ) (o : List ℕ) → n ≤ 127 → length_formed (0x81 ∷ n ∷ o) ≡ false
  pub other_form : (x : ℕ) (o : List ℕ) → 0x82 ≤ x → length_formed (x ∷ o) ≡ false

-- ---- each refusal on its condition, tested in the order stated
-- 5: "another DCS, no or another PFI, no or another identifier"; an empty string and a PFI alone are 5
pub record Addressing : Type 0 where
  pub other_dcs : (pfi dcs : ℕ) (s : List ℕ) → (dcs ≡ ussd_dcs → ⊥) → addressed pfi dcs s ≡ false
  pub no_pfi : (pfi dcs : ℕ) → addressed pfi dcs [] ≡ false
  pub other_pfi : (pfi dcs x : ℕ) (s : List ℕ) → (x ≡ pfi → ⊥) → addressed pfi dcs (x ∷ s) ≡ false
  pub no_identifier : (pfi dcs x : ℕ) → addressed pfi dcs (x ∷ []) ≡ false
  pub other_identifier : (pfi dcs x y : ℕ) (s : List ℕ) → (y ≡ 0x03 → ⊥) → addressed pfi dcs (x ∷ y ∷ s) ≡ false
  pub right : (pfi : ℕ) (s : List ℕ) → addressed pfi ussd_dcs (pfi ∷ 0x03 ∷ s) ≡ true

pub record ReadsOrRefuses (pfi dcs : ℕ) (s : List ℕ) : Type 0 where
  pub two : most_string < length s → read_ussd pfi dcs s ≡ refused 2
  pub five : length s ≤ most_string → addressed pfi dcs s ≡ false → read_ussd pfi dcs s ≡ refused 5
  pub nine : length s ≤ most_string → addressed pfi dcs s ≡ true → um_formed (drop 1 s) ≡ false → read_ussd pfi dcs s ≡ refused 9
  pub fifteen : length s ≤ most_string → addressed pfi dcs s ≡ true → um_formed (drop 1 s) ≡ true → against_check Command (um_fields (drop 1 s)) ≡ true
      → read_ussd pfi dcs s ≡ refused 15
  pub given : length s ≤ most_string → addressed pfi dcs s ≡ true → um_formed (drop 1 s) ≡ true → against_check Command (um_fields (drop 1 s)) ≡ false
      → read_ussd pfi dcs s ≡ gives (measured (um_fields (drop 1 s)))

pub record WritesOrRefuses (pfi : ℕ) (x : Fields) : Type 0 where
  pub ten : against_spi Command x ≡ true → writing_ussd pfi x ≡ refused 10
  pub eleven : against_spi Command x ≡ false → misfit Command x ≡ true → writing_ussd pfi x ≡ refused 11
  pub fifteen : against_spi Command x ≡ false → misfit Command x ≡ false → against_check Command x ≡ true → writing_ussd pfi x ≡ refused 15
  pub twelve : against_spi Command x ≡ false → misfit Command x ≡ false → against_check Command x ≡ false → most_um < length (um_of x) → writing_ussd pfi x ≡ refused 12
  pub given : against_spi Command x ≡ false → misfit Command x ≡ false → against_check Command x ≡ false → length (um_of x) ≤ most_um
      → writing_ussd pfi x ≡ gives (pfi ∷ um_of x)

pub record SumsOrRefuses (um : List ℕ) : Type 0 where
  pub nine : is_um um ≡ false → ussd_checksum_octets um ≡ refused 9
  pub fifteen : is_um um ≡ true → against_check Command (um_fields um) ≡ true → ussd_checksum_octets um ≡ refused 15
  pub ten : is_um um ≡ true → against_check Command (um_fields um) ≡ false → ciphered_um um ≡ true → ussd_checksum_octets um ≡ refused 10
  pub given : is_um um ≡ true → against_check Command (um_fields um) ≡ false → ciphered_um um ≡ false
      → ussd_checksum_octets um ≡ gives (runs_from (um_start um) Command (um_chl um) um)
  -- "also without 03 first or over 159"
  pub no_identifier : (x : ℕ) (o : List ℕ) → um ≡ x ∷ o → (x ≡ 0x03 → ⊥) → is_um um ≡ false
  pub too_long : most_um < length um → is_um um ≡ false
  pub unformed : um_formed um ≡ false → is_um um ≡ false

-- ---- round trips
-- what reading finds in a string s that was written of the fields x
pub record StringReadBack (pfi : ℕ) (x : Fields) (s : List ℕ) : Type 0 where
  pub size : length s ≤ most_string
  pub fields : read_ussd pfi ussd_dcs s ≡ gives (measured x)
  pub secured : shown_ussd_data pfi ussd_dcs s ≡ secured_of x
  pub check : shown_ussd_check pfi ussd_dcs s ≡ check_of x
  pub opaque : shown_ussd_opaque pfi ussd_dcs s ≡ opaque_of x

abbrev pub WriteThenRead : Type 0
WriteThenRead = (pfi : ℕ) (x : Fields) (s : List ℕ) → RightLength Command x → writing_ussd pfi x ≡ gives s → StringReadBack pfi x s

-- if reading answers p, writing from p and the parts shown gives the string, octet for octet
abbrev pub ReadThenWrite : Type 0
ReadThenWrite =
    (pfi dcs : ℕ) (s : List ℕ) (p : Parsed) → Octets s → read_ussd pfi dcs s ≡ gives p
    → writing_ussd pfi (fields_from p (shown_ussd_check pfi dcs s) (shown_ussd_data pfi dcs s) (shown_ussd_opaque pfi dcs s)) ≡ gives s

-- the same by the names of the calls: read, show, and write into any buffer of 160 octets; the string stands at its start
pub record CallsWrite (pfi dcs : ℕ) (s buffer : List ℕ) : Type 0 where
  pub write_ussd : (x : commands.Command) (b : PlainCommand) → told_command (Ok x) ≡ read_ussd pfi dcs s → x.body ≡ command.Plain b
      → written_ussd pfi (plain (command_fixed x.clear b.cntr b.pcntr) (shown_ussd_check pfi dcs s) (shown_ussd_data pfi dcs s)) buffer ≡ writes (gives s) buffer
  pub write_ciphered_ussd : (x : commands.Command) (b : Opaque) → told_command (Ok x) ≡ read_ussd pfi dcs s → x.body ≡ command.Ciphered b
      → written_ussd pfi (ciphered (clear_octets x.clear) b.header_length (shown_ussd_opaque pfi dcs s)) buffer ≡ writes (gives s) buffer

abbrev pub ReadThenWriteCalls : Type 0
ReadThenWriteCalls = (pfi dcs : ℕ) (s buffer : List ℕ) → Octets s → length buffer ≡ most_string → CallsWrite pfi dcs s buffer

-- Checksum octets "begin with 03 and have the lengths as coded": of a string written of plain fields the identifier, CPL, CHL, the fields before the
-- check field, the data.
abbrev pub UssdChecksumCovers : Type 0
UssdChecksumCovers =
    (pfi : ℕ) (fixed check secured s : List ℕ) → length fixed ≡ 13 → writing_ussd pfi (plain fixed check secured) ≡ gives s
    → ussd_checksum_octets (drop 1 s)
    ≡ gives (0x03 ∷ (length_octets (length (coded_from (13 + length check) (fixed ++ (check ++ secured)))) ++ (length_octets (13 + length check) ++ (fixed ++ secured))))

-- ---- how long a UM is
-- Without a check field: 16 octets beside up to 113 of data, and 17 beside more, since CPL is then coded in two. So 113 make a UM of 129, 114 one of 131,
-- 142 one of 159, and 143 are refused 12. No UM has 130 octets: its CPL would have to be 127 in two octets, or 128 in one.
pub record UmLength : Type 0 where
  pub one_octet : (fixed secured : List ℕ) → length fixed ≡ 13 → length secured ≤ 113 → length (um_of (plain fixed [] secured)) ≡ 16 + length secured
  pub two_octets : (fixed secured : List ℕ) → length fixed ≡ 13 → 114 ≤ length secured → length (um_of (plain fixed [] secured)) ≡ 17 + length secured
  pub never_130 : (um : List ℕ) → length um ≡ 130 → um_formed um ≡ false

-- ---- examples, on both sides of each border
-- a UM of the lengths cpl and chl as octets, SPI's first octet, and so many octets 00 behind it
abbrev um_with : (cpl chl : List ℕ) → (spi zeros : ℕ) → List ℕ
um_with cpl chl spi zeros = 0x03 ∷ (cpl ++ (chl ++ (spi ∷ replicate zeros 0x00)))

-- a string of PFI 01 and DCS 96, and what reading it comes to: a refusal, or how long check field and data are
pub record UssdExample : Type 0 where
  pub um : List ℕ
  pub outcome : Outcome Parsed

abbrev example : List ℕ → Outcome Parsed → UssdExample
example u o = record { um = u; outcome = o }

abbrev fields_zero : (spi check secured : ℕ) → Outcome Parsed
fields_zero spi check secured = gives (plain_parsed (spi ∷ replicate 12 0x00) check secured)

abbrev pub ussd_examples : List UssdExample
ussd_examples =
    -- CPL 14, the least; CPL 127, 128, 129
    example (um_with (0x0E ∷ []) (0x0D ∷ []) 0x00 12) (fields_zero 0x00 0 0)
    ∷ example (um_with (0x7F ∷ []) (0x0D ∷ []) 0x00 125) (fields_zero 0x00 0 113)
    ∷ example (um_with (0x81 ∷ 0x80 ∷ []) (0x0D ∷ []) 0x00 126) (fields_zero 0x00 0 114)
    ∷ example (um_with (0x81 ∷ 0x81 ∷ []) (0x0D ∷ []) 0x00 127) (fields_zero 0x00 0 115)
    -- a UM of 159, and of 160
    ∷ example (um_with (0x81 ∷ 0x9C ∷ []) (0x0D ∷ []) 0x00 154) (fields_zero 0x00 0 142)
    ∷ example (um_with (0x81 ∷ 0x9D ∷ []) (0x0D ∷ []) 0x00 155) (refused 2)
    -- a UM of 130: CPL 127 in two octets, 128 in one
    ∷ example (um_with (0x81 ∷ 0x7F ∷ []) (0x0D ∷ []) 0x00 125) (refused 9)
    ∷ example (um_with (0x80 ∷ []) (0x0D ∷ []) 0x00 126) (refused 9)
    -- CHL 127 and 128
    ∷ example (um_with (0x81 ∷ 0x80 ∷ []) (0x7F ∷ []) 0x01 126) (fields_zero 0x01 114 0)
    ∷ example (um_with (0x81 ∷ 0x82 ∷ []) (0x81 ∷ 0x80 ∷ []) 0x01 127) (fields_zero 0x01 115 0)
    -- CPL counts both octets of CHL
    ∷ example (um_with (0x81 ∷ 0x81 ∷ []) (0x81 ∷ 0x80 ∷ []) 0x01 127) (refused 9)
    -- CHL below 13, past the end, CPL one more than there are octets
    ∷ example (um_with (0x0E ∷ []) (0x0C ∷ []) 0x00 12) (refused 9)
    ∷ example (um_with (0x0E ∷ []) (0x0E ∷ []) 0x00 12) (refused 9)
    ∷ example (um_with (0x0F ∷ []) (0x0D ∷ []) 0x00 12) (refused 9)
    -- forms of a length that are refused: 80, 82, 81 with a value below 80, and FF
    ∷ example (um_with (0x81 ∷ 0x0E ∷ []) (0x0D ∷ []) 0x00 12) (refused 9)
    ∷ example (um_with (0x82 ∷ 0x00 ∷ 0x0E ∷ []) (0x0D ∷ []) 0x00 12) (refused 9)
    ∷ example (um_with (0x0F ∷ []) (0x81 ∷ 0x0D ∷ []) 0x00 12) (refused 9)
    ∷ example (um_with (0xFF ∷ []) (0x0D ∷ []) 0x00 12) (refused 9)
    -- check bits
    ∷ example (um_with (0x0E ∷ []) (0x0D ∷ []) 0x01 12) (refused 15)
    ∷ example (um_with (0x0F ∷ []) (0x0E ∷ []) 0x00 13) (refused 15)
    -- an empty UM, and another identifier
    ∷ example [] (refused 5)
    ∷ example (0x04 ∷ drop 1 (um_with (0x0E ∷ []) (0x0D ∷ []) 0x00 12)) (refused 5)
    ∷ []

abbrev pub EveryUssd : List UssdExample → Type 0
EveryUssd [] = Unit {0}
EveryUssd (e ∷ es) = (read_ussd 0x01 ussd_dcs (0x01 ∷ e.um) ≡ e.outcome) × EveryUssd es

-- ---- all of it
pub record UssdMessages : Type 0 where
  pub length_coding : LengthCoding
  pub addressing : Addressing
  pub reads_or_refuses : (pfi dcs : ℕ) (s : List ℕ) → ReadsOrRefuses pfi dcs s
  pub writes_or_refuses : (pfi : ℕ) (x : Fields) → WritesOrRefuses pfi x
  pub sums_or_refuses : (um : List ℕ) → SumsOrRefuses um
  pub write_then_read : WriteThenRead
  pub read_then_write : ReadThenWrite
  pub read_then_write_calls : ReadThenWriteCalls
  pub checksum_covers : UssdChecksumCovers
  pub um_length : UmLength
  pub examples : EveryUssd ussd_examples
