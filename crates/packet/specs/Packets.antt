-- Secured packets (01, "Packets"). A kind is its layout, counted behind the two lengths CPL and CHL (RPL and RHL); everything else is said
-- once for both kinds. Where each field stands, the first octet of a packet being 0, and h its CHL or RHL:
--
--   command       octets         response      octets
--   CPL           0, 1           RPL           0, 1
--   CHL           2              RHL           2
--   SPI           3, 4
--   KIc           5
--   KID           6
--   TAR           7 to 9         TAR           3 to 5
--   CNTR          10 to 14       CNTR          6 to 10
--   PCNTR         15             PCNTR         11
--                                status        12
--   check field   16 to h + 2    check field   13 to h + 2
--   data          from h + 3     data          from h + 3
--
-- With h 13 in a command, or 10 in a response, the check field has no octets. A ciphered body begins at CNTR.
use Rattle.std.specs.Prelude.{ℕ, ◌+◌, ◌-◌, ◌/◌, ◌%◌, Bool, true, false, not, ◌&&◌, ◌||◌, List, [], ◌∷◌, ◌++◌, length, get_or, take, drop, eqb, ltb, leb}
use Rattle.octets.specs.Octets.{number_of, pair_of}
use Rattle.types.specs.declared.Kind.{Kind}
use Rattle.types.specs.declared.Kind.TheVariants.{Command, Response}
use Rattle.types.specs.Refusals.{Outcome, refused, gives, refuse◌when◌otherwise◌, Lent, writes}

-- ---- the layout of a kind
-- how many octets stand before CNTR: SPI, KIc, KID and TAR, or TAR alone
abbrev pub before : Kind → ℕ
before Command = 7
before Response = 3

-- how many stand before the check field, which is the least header length: those, CNTR, PCNTR and, in a response, the status
abbrev pub least : Kind → ℕ
least Command = 13
least Response = 10

-- "Packet: at most 2,142 octets, its length field included."
abbrev pub most_octets : ℕ
most_octets = 2142

-- ---- well formed
-- CPL or RPL, the first two octets, and CHL or RHL, the third
abbrev pub cpl : List ℕ → ℕ
cpl p = number_of (get_or p 0 0) (get_or p 1 0)

abbrev pub chl : List ℕ → ℕ
chl p = get_or p 2 0

-- "CPL = length − 2. Well formed: CHL at least 13, CHL + 1 at most CPL"; a response likewise with 10. It is said of the length and the
-- first three octets, since nothing else of a packet is looked at.
abbrev pub formed_by : Kind → ℕ → ℕ → ℕ → ℕ → Bool
formed_by k size high low header =
    eqb (number_of high low + 2) size && leb (least k) header && leb (header + 1) (number_of high low)

abbrev pub well_formed : Kind → List ℕ → Bool
well_formed k p = formed_by k (length p) (get_or p 0 0) (get_or p 1 0) (get_or p 2 0)

-- ---- the fields of a packet
-- "A parsed packet carries one of two bodies, plain or ciphered." Plain: the fields before the check field in the packet's order, the check
-- field, the secured data. Ciphered: the fields in the clear, the header length, and the octets from CNTR up to the end, which are opaque.
pub data Fields : Type 0 where
  plain : (fixed check secured : List ℕ) → Fields
  ciphered : (clear : List ℕ) (header : ℕ) (opaque : List ℕ) → Fields

-- The fields of the octets behind the two lengths, where the header length is `header`.
abbrev pub fields_behind : Kind → Bool → ℕ → List ℕ → Fields
fields_behind k true header o = ciphered (take (before k) o) header (drop (before k) o)
fields_behind k false header o = plain (take (least k) o) (take (header - least k) (drop (least k) o)) (drop header o)

-- "CHL at least 13" (a response 10), and the header ends within the octets behind the lengths: so much every carrier asks of them, however
-- it codes the lengths.
abbrev pub within : Kind → ℕ → List ℕ → Bool
within k header o = leb (least k) header && leb header (length o)

-- The fields of a packet, where it is said whether the body is ciphered.
abbrev pub fields_of : Kind → Bool → List ℕ → Fields
fields_of k c p = fields_behind k c (chl p) (drop 3 p)

-- "Commands are ciphered when bit 3 (the 4s place) of SPI's first octet is set."
abbrev pub cipher_bit : ℕ → Bool
cipher_bit spi = eqb (spi / 4 % 2) 1

-- SPI's first octet is the first behind the lengths of a command.
abbrev pub ciphered_behind : List ℕ → Bool
ciphered_behind o = cipher_bit (get_or o 0 0)

abbrev pub ciphered_command : List ℕ → Bool
ciphered_command p = cipher_bit (get_or p 3 0)

abbrev pub differ : Bool → Bool → Bool
differ true b = not b
differ false b = b

-- 15: "a plain command where the low two bits of SPI's first octet are 00 and the check field is not empty, or not 00 and it is empty" (02,
-- [3]). It is said of that octet and of how many octets the check field has; a response has no SPI.
abbrev pub against_bits : Kind → (spi check : ℕ) → Bool
against_bits Command spi check = differ (eqb (spi % 4) 0) (eqb check 0)
against_bits Response spi check = false

-- The one test of a plain command's fields. SPI's first octet is the first of the fixed fields; of a ciphered body no check field is seen.
abbrev pub against_check : Kind → Fields → Bool
against_check k (plain f c d) = against_bits k (get_or f 0 0) (length c)
against_check k (ciphered f h o) = false

-- ---- parsing: 9, 12, 15
-- A parsed packet has its parts by their lengths; showing gives the parts themselves.
pub data Parsed : Type 0 where
  plain_parsed : (fixed : List ℕ) (check secured : ℕ) → Parsed
  ciphered_parsed : (clear : List ℕ) (header opaque : ℕ) → Parsed

abbrev pub measured : Fields → Parsed
measured (plain f c d) = plain_parsed f (length c) (length d)
measured (ciphered f h o) = ciphered_parsed f h (length o)

-- what every carrier asks of the octets behind the lengths: 9, 15
abbrev pub readable_behind : {A : Type 0} → Kind → Bool → ℕ → List ℕ → Outcome A → Outcome A
readable_behind k c header o x =
    refuse 9 when not (within k header o) otherwise
    refuse 15 when against_check k (fields_behind k c header o) otherwise
    x

unfoldable pub parsing_behind : Kind → Bool → ℕ → List ℕ → Outcome Parsed
parsing_behind k c header o = readable_behind k c header o (gives (measured (fields_behind k c header o)))

-- what a packet of 01 is asked first: 9, 12
abbrev pub sized : {A : Type 0} → Kind → List ℕ → Outcome A → Outcome A
sized k p o =
    refuse 9 when not (well_formed k p) otherwise
    refuse 12 when ltb most_octets (length p) otherwise
    o

abbrev pub readable : {A : Type 0} → Kind → Bool → List ℕ → Outcome A → Outcome A
readable k c p o =
    refuse 9 when not (well_formed k p) otherwise
    refuse 12 when ltb most_octets (length p) otherwise
    refuse 15 when against_check k (fields_of k c p) otherwise
    o

unfoldable pub parsing : Kind → Bool → List ℕ → Outcome Parsed
parsing k c p = readable k c p (gives (measured (fields_of k c p)))

-- ---- showing
-- "shown as the part of the caller's packet that holds it, likewise the check field, and the opaque octets of a ciphered one; of a packet
-- refused or of the other body, the empty part at its start."
abbrev pub shown : Outcome (List ℕ) → List ℕ
shown (refused n) = []
shown (gives o) = o

abbrev pub secured_of : Fields → List ℕ
secured_of (plain f c d) = d
secured_of (ciphered f h o) = []

abbrev pub check_of : Fields → List ℕ
check_of (plain f c d) = c
check_of (ciphered f h o) = []

abbrev pub opaque_of : Fields → List ℕ
opaque_of (plain f c d) = []
opaque_of (ciphered f h o) = o

-- The same of the octets behind the lengths, where reading came to a header length or was refused.
abbrev pub shown_by : (ℕ → List ℕ) → Outcome ℕ → List ℕ
shown_by f (refused n) = []
shown_by f (gives header) = f header

abbrev pub data_by : Kind → Bool → List ℕ → Outcome ℕ → List ℕ
data_by k c o = shown_by (λ header. secured_of (fields_behind k c header o))

abbrev pub check_by : Kind → Bool → List ℕ → Outcome ℕ → List ℕ
check_by k c o = shown_by (λ header. check_of (fields_behind k c header o))

abbrev pub opaque_by : Kind → Bool → List ℕ → Outcome ℕ → List ℕ
opaque_by k c o = shown_by (λ header. opaque_of (fields_behind k c header o))

unfoldable pub shown_data : Kind → Bool → List ℕ → List ℕ
shown_data k c p = shown (readable k c p (gives (secured_of (fields_of k c p))))

unfoldable pub shown_check : Kind → Bool → List ℕ → List ℕ
shown_check k c p = shown (readable k c p (gives (check_of (fields_of k c p))))

unfoldable pub shown_opaque : Kind → Bool → List ℕ → List ℕ
shown_opaque k c p = shown (readable k c p (gives (opaque_of (fields_of k c p))))

-- ---- building: 1, 10 (commands only), 11, 15, 12
-- what the fields say of the header length, and the octets behind the two lengths
abbrev pub header_length : Kind → Fields → ℕ
header_length k (plain f c d) = least k + length c
header_length k (ciphered f h o) = h

abbrev pub behind : Fields → List ℕ
behind (plain f c d) = f ++ (c ++ d)
behind (ciphered f h o) = f ++ o

-- the packet: "CPL counts from CHL to the end"
abbrev pub packet_from : ℕ → List ℕ → List ℕ
packet_from header o = (pair_of (1 + length o)).0 ∷ (pair_of (1 + length o)).1 ∷ header ∷ o

unfoldable pub packet_of : Kind → Fields → List ℕ
packet_of k x = packet_from (header_length k x) (behind x)

abbrev pub is_ciphered : Fields → Bool
is_ciphered (plain f c d) = false
is_ciphered (ciphered f h o) = true

-- 10: "body plain or ciphered against SPI", whose first octet is the first behind the lengths of a command
abbrev pub against_spi : Kind → Fields → Bool
against_spi Command x = differ (cipher_bit (get_or (behind x) 0 0)) (is_ciphered x)
against_spi Response x = false

-- 11: "check field over 242 octets (response 245); for a ciphered body, header length outside 13 to 255 (response 10 to 255) or fewer opaque
-- octets than CHL − 7 (response RHL − 3)"
abbrev pub misfit : Kind → Fields → Bool
misfit k (plain f c d) = ltb (255 - least k) (length c)
misfit k (ciphered f h o) = ltb h (least k) || ltb 255 h || ltb (length o) (h - before k)

-- the refusals of fields in their order, whatever carries them; `long` says whether they are too many for it
abbrev pub fitting : {A : Type 0} → Kind → Fields → Bool → Outcome A → Outcome A
fitting k x long o =
    refuse 10 when against_spi k x otherwise
    refuse 11 when misfit k x otherwise
    refuse 15 when against_check k x otherwise
    refuse 12 when long otherwise
    o

unfoldable pub building : Kind → Fields → Outcome (List ℕ)
building k x =
    refuse 10 when against_spi k x otherwise
    refuse 11 when misfit k x otherwise
    refuse 15 when against_check k x otherwise
    refuse 12 when ltb most_octets (length (packet_of k x)) otherwise
    gives (packet_of k x)

-- 1: a buffer of another length than `size`
abbrev pub into : ℕ → Outcome (List ℕ) → List ℕ → Lent
into size o buffer = writes (refuse 1 when not (eqb (length buffer) size) otherwise o) buffer

unfoldable pub built : Kind → Fields → List ℕ → Lent
built k x buffer = into most_octets (building k x) buffer

-- ---- checksum octets: 1, 9, 12, 15, 10
-- "For a response the fixed octets 02 71 00 stand before the packet (000, 4.4; 001, 4.5)."
abbrev pub fixed_octets : Kind → List ℕ
fixed_octets Command = []
fixed_octets Response = 0x02 ∷ 0x71 ∷ 0x00 ∷ []

-- "plain bodies only: the packet from its length field to the end without the check field". The octets behind the lengths begin at the place
-- `start`: what is before the check field with all that is before it, and the data.
abbrev pub runs_from : ℕ → Kind → ℕ → List ℕ → List ℕ
runs_from start k header p = take (start + least k) p ++ drop (start + header) p

abbrev pub without_check : Kind → List ℕ → List ℕ
without_check k p = runs_from 3 k (chl p) p

unfoldable pub checksum_octets : Kind → Bool → List ℕ → Outcome (List ℕ)
checksum_octets k c p =
    readable k c p
    (refuse 10 when c otherwise
    gives (fixed_octets k ++ without_check k p))

abbrev pub most_checksum : ℕ
most_checksum = 2145

-- what every carrier asks of the octets behind the lengths, and their runs: 1, 9, 12, 15, 10
unfoldable pub summed : Kind → Bool → (start header : ℕ) → List ℕ → List ℕ → Lent
summed k c start header p buffer =
    into most_checksum
    (refuse 9 when not (within k header (drop start p)) otherwise
    refuse 12 when ltb most_octets (length p) otherwise
    refuse 15 when against_check k (fields_behind k c header (drop start p)) otherwise
    refuse 10 when c otherwise
    gives (fixed_octets k ++ runs_from start k header p))
    buffer

unfoldable pub checksummed : Kind → Bool → List ℕ → List ℕ → Lent
checksummed k c p buffer = into most_checksum (checksum_octets k c p) buffer
