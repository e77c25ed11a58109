-- Demand 2: "Building then reading gives the same fields, and reading then building the same octets", "over packets that pass" (02, [3]); and
-- what is split, every reader of 01 puts together again.
use Rattle.std.specs.declared.result.Result.TheVariants.{Ok}
use Rattle.std.specs.Prelude.{ℕ, ◌+◌, ◌-◌, ◌*◌, ◌≤◌, ◌<◌, ◌≡◌, Bool, true, false, List, ◌∷◌, ◌++◌, length, drop, replicate}
use Rattle.octets.specs.Joined.{joined}
use Rattle.octets.specs.Octets.{Octets, pair_of}
use Rattle.types.specs.declared.Kind.{Kind}
use Rattle.types.specs.declared.Kind.TheVariants.{Command, Response}
use Rattle.types.specs.declared.Pair.{Pair}
use Rattle.types.specs.declared.Tar.{Tar}
use Rattle.types.specs.declared.Cntr.{Cntr}
use Rattle.types.specs.declared.Clear.{Clear}
use Rattle.types.specs.declared.Opaque.{Opaque}
use Rattle.types.specs.declared.PlainCommand.{PlainCommand}
use Rattle.types.specs.declared.PlainResponse.{PlainResponse}
use Rattle.types.specs.declared.CommandBody.TheVariants as command
use Rattle.types.specs.declared.ResponseBody.TheVariants as response
use Rattle.types.specs.declared.Command as commands
use Rattle.types.specs.declared.Response as responses
use Rattle.types.specs.Refusals.{gives, refused, writes}
use Rattle.packet.specs.Packets.{least, most_octets, well_formed, Fields, plain, ciphered, fields_of, ciphered_command, is_ciphered, measured, parsing, secured_of, check_of, opaque_of, shown_data, shown_check, shown_opaque, against_spi, against_check, misfit, packet_of, Parsed, plain_parsed, ciphered_parsed, building, built, fixed_octets, checksum_octets}
use Rattle.packet.specs.Told.{tar_octets, clear_octets, command_fixed, response_fixed, told_command, told_response}
use Rattle.packet.specs.Laws.{RightLength}
use Rattle.arrival.specs.Arrivals.{single, part}
use Rattle.arrival.specs.Message.{message_key, read_message}
use Rattle.arrival.specs.Page.{page_content, page_header, page_key, read_page, identifier_in_range}
use Rattle.arrival.specs.Keys.{reference_fits}
use Rattle.split.specs.Splitting.{parts, part_octets, user_data, most_split, pages, content_of, page_written, most_pages}
use Rattle.split.specs.ReadBack.{own_from, says}

-- ---- packets
-- what reading finds in a packet p that was built of the fields x
pub record ReadBack (k : Kind) (x : Fields) (p : List ℕ) : Type 0 where
  pub formed : well_formed k p ≡ true
  pub size : length p ≤ most_octets
  pub fields : parsing k (is_ciphered x) p ≡ gives (measured x)
  pub secured : shown_data k (is_ciphered x) p ≡ secured_of x
  pub check : shown_check k (is_ciphered x) p ≡ check_of x
  pub opaque : shown_opaque k (is_ciphered x) p ≡ opaque_of x

-- fields as many as the kind has, which is what every call of building hands in (`FixedLengths`); a command tells itself whether it is ciphered
abbrev pub BuildThenRead : Type 0
BuildThenRead = (k : Kind) (x : Fields) (p : List ℕ) → RightLength k x → building k x ≡ gives p → ReadBack k x p

abbrev pub CommandTells : Type 0
CommandTells = (x : Fields) (p : List ℕ) → building Command x ≡ gives p → ciphered_command p ≡ is_ciphered x

-- for a command nobody says whether it is ciphered but SPI itself
abbrev pub Said : Kind → Bool → List ℕ → Type 0
Said Command c p = c ≡ ciphered_command p
Said Response c p = Unit {0}

abbrev pub ReadThenBuild : Type 0
ReadThenBuild =
    (k : Kind) (c : Bool) (p : List ℕ) → well_formed k p ≡ true → length p ≤ most_octets → against_check k (fields_of k c p) ≡ false → Octets p → Said k c p
    → building k (fields_of k c p) ≡ gives p

-- The fields that building is handed are those that parsing answered, with the parts that showing gave.
abbrev pub fields_from : Parsed → (check secured opaque : List ℕ) → Fields
fields_from (plain_parsed f c d) check secured opaque = plain f check secured
fields_from (ciphered_parsed f h o) check secured opaque = ciphered f h opaque

-- Over what the calls answer: if parsing answers x, building from x and the parts shown gives the packet.
abbrev pub AnswersBuild : Type 0
AnswersBuild =
    (k : Kind) (c : Bool) (p : List ℕ) (x : Parsed) → Octets p → Said k c p → parsing k c p ≡ gives x
    → building k (fields_from x (shown_check k c p) (shown_data k c p) (shown_opaque k c p)) ≡ gives p

-- The same by the names of the calls: parse, show, and build into any buffer of 2,142 octets; the packet stands at its start.
pub record CallsBuild (p buffer : List ℕ) : Type 0 where
  pub build_command : (x : commands.Command) (b : PlainCommand) → told_command (Ok x) ≡ parsing Command (ciphered_command p) p → x.body ≡ command.Plain b
      → built Command (plain (command_fixed x.clear b.cntr b.pcntr) (shown_check Command (ciphered_command p) p) (shown_data Command (ciphered_command p) p)) buffer
      ≡ writes (gives p) buffer
  pub build_ciphered_command : (x : commands.Command) (b : Opaque) → told_command (Ok x) ≡ parsing Command (ciphered_command p) p → x.body ≡ command.Ciphered b
      → built Command (ciphered (clear_octets x.clear) b.header_length (shown_opaque Command (ciphered_command p) p)) buffer ≡ writes (gives p) buffer
  pub build_response : (x : responses.Response) (b : PlainResponse) (c : Bool) → told_response (Ok x) ≡ parsing Response c p → x.body ≡ response.Plain b
      → built Response (plain (response_fixed x.tar b.cntr b.pcntr b.status) (shown_check Response c p) (shown_data Response c p)) buffer ≡ writes (gives p) buffer
  pub build_ciphered_response : (x : responses.Response) (b : Opaque) (c : Bool) → told_response (Ok x) ≡ parsing Response c p → x.body ≡ response.Ciphered b
      → built Response (ciphered (tar_octets x.tar) b.header_length (shown_opaque Response c p)) buffer ≡ writes (gives p) buffer

abbrev pub ReadThenBuildCalls : Type 0
ReadThenBuildCalls = (p buffer : List ℕ) → Octets p → length buffer ≡ most_octets → CallsBuild p buffer

-- The fixed fields that the building calls hand in are as many as the kind has: `RightLength` holds of them.
pub record FixedLengths : Type 0 where
  pub command_fixed_lem : (x : Clear) (n : Cntr) (pcntr : ℕ) → length (command_fixed x n pcntr) ≡ 13
  pub command_clear : (x : Clear) → length (clear_octets x) ≡ 7
  pub response_fixed_lem : (t : Tar) (n : Cntr) (pcntr status : ℕ) → length (response_fixed t n pcntr status) ≡ 10
  pub response_clear : (t : Tar) → length (tar_octets t) ≡ 3

-- "the packet from its length field to the end without the check field. For a response the fixed octets 02 71 00 stand before the packet":
-- of a packet built of plain fields the fixed octets, the two lengths, the fields before the check field, the data
abbrev pub ChecksumCovers : Type 0
ChecksumCovers =
    (k : Kind) (fixed check secured p : List ℕ) → length fixed ≡ least k → building k (plain fixed check secured) ≡ gives p
    → let lengths : Pair = pair_of (1 + (least k + length check + length secured)) in
    checksum_octets k false p ≡ gives (fixed_octets k ++ (lengths.0 ∷ lengths.1 ∷ (least k + length check) ∷ (fixed ++ secured)))

-- parsing is refused exactly on its conditions, tested in their order, and else gives the fields
pub record ParsesOrRefuses (k : Kind) (c : Bool) (p : List ℕ) : Type 0 where
  pub nine : well_formed k p ≡ false → parsing k c p ≡ refused 9
  pub twelve : well_formed k p ≡ true → most_octets < length p → parsing k c p ≡ refused 12
  pub fifteen : well_formed k p ≡ true → length p ≤ most_octets → against_check k (fields_of k c p) ≡ true → parsing k c p ≡ refused 15
  pub given : well_formed k p ≡ true → length p ≤ most_octets → against_check k (fields_of k c p) ≡ false → parsing k c p ≡ gives (measured (fields_of k c p))

abbrev pub ParsedIsFormed : Type 0
ParsedIsFormed =
    (k : Kind) (c : Bool) (p : List ℕ) (x : Parsed) → parsing k c p ≡ gives x
    → (well_formed k p ≡ true) × (length p ≤ most_octets) × (against_check k (fields_of k c p) ≡ false)

-- building is refused exactly on its conditions, tested in their order, and else gives the packet
pub record BuildsOrRefuses (k : Kind) (x : Fields) : Type 0 where
  pub ten : against_spi k x ≡ true → building k x ≡ refused 10
  pub eleven : against_spi k x ≡ false → misfit k x ≡ true → building k x ≡ refused 11
  pub fifteen : against_spi k x ≡ false → misfit k x ≡ false → against_check k x ≡ true → building k x ≡ refused 15
  pub twelve : against_spi k x ≡ false → misfit k x ≡ false → against_check k x ≡ false → most_octets < length (packet_of k x) → building k x ≡ refused 12
  pub given : against_spi k x ≡ false → misfit k x ≡ false → against_check k x ≡ false → length (packet_of k x) ≤ most_octets → building k x ≡ gives (packet_of k x)

-- ---- splitting
-- one message: the packet is its own octets; several: each part is read as that part of the series, and joined in order they are the packet
pub record MessagesRead (k : Kind) (width reference : ℕ) (p : List ℕ) (sender : ℕ) : Type 0 where
  pub alone : (number : ℕ) → parts width (length p) ≡ 1 → read_message k sender (user_data k width reference p number) ≡ gives (single 3)
  pub whole : (number : ℕ) → parts width (length p) ≡ 1 → drop 3 (user_data k width reference p number) ≡ p
  pub each : (number : ℕ) → (parts width (length p) ≡ 1 → ⊥) → 1 ≤ number → number ≤ parts width (length p)
      → read_message k sender (user_data k width reference p number)
      ≡ gives (part (message_key sender (says k width reference p number)) (parts width (length p)) number (own_from k width reference p number))
  pub octets : (number : ℕ) → drop (own_from k width reference p number) (user_data k width reference p number) ≡ part_octets width p number
  pub joins : joined (part_octets width p) (parts width (length p)) ≡ p

abbrev pub SplitMessages : Type 0
SplitMessages =
    (k : Kind) (width reference : ℕ) (p : List ℕ) (sender : ℕ) → reference_fits width reference ≡ true → length p ≤ most_split width
    → MessagesRead k width reference p sender

pub record PagesRead (serial identifier dcs : ℕ) (p : List ℕ) : Type 0 where
  pub alone : (number : ℕ) → 1 ≤ number → number ≤ pages (length p) → pages (length p) ≡ 1 → read_page Command (page_written serial identifier dcs p number) ≡ gives (single page_header)
  pub each : (number : ℕ) → (pages (length p) ≡ 1 → ⊥) → 1 ≤ number → number ≤ pages (length p)
      → read_page Command (page_written serial identifier dcs p number) ≡ gives (part (page_key serial identifier) (pages (length p)) number page_header)
  pub octets : (number : ℕ) → drop page_header (page_written serial identifier dcs p number) ≡ content_of p number
  pub joins : joined (content_of p) (pages (length p)) ≡ p ++ replicate (page_content * pages (length p) - length p) 0x00

abbrev pub SplitPages : Type 0
SplitPages =
    (serial identifier dcs : ℕ) (p : List ℕ) → identifier_in_range identifier ≡ true → length p ≤ most_pages → PagesRead serial identifier dcs p
