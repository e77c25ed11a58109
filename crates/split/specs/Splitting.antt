-- Splitting (01, "Splitting", "Pages"). A width is its concatenation element and its room; packet kind and width are parameters of one rule.
use Rattle.std.specs.declared.result.Result.{Result}
use Rattle.std.specs.declared.result.Result.TheVariants.{Ok, Err}
use Rattle.types.specs.declared.Refusal.{Refusal}
use Rattle.std.specs.Prelude.{ℕ, ◌+◌, ◌-◌, ◌*◌, ◌/◌, Bool, not, cond, ◌||◌, List, [], ◌∷◌, ◌++◌, length, take, drop, replicate, eqb, ltb, leb}
use Rattle.octets.specs.Octets.{pair_of}
use Rattle.types.specs.declared.Kind.{Kind}
use Rattle.types.specs.declared.Kind.TheVariants.{Command, Response}
use Rattle.types.specs.Refusals.{Outcome, refused, gives, refuse◌when◌otherwise◌, refusal_number}
use Rattle.packet.specs.Packets.{well_formed}
use Rattle.arrival.specs.Message.{most_user_data, most_parts}
use Rattle.arrival.specs.Page.{page_octets, page_content, identifier_in_range}
use Rattle.arrival.specs.Keys.{room, reference_fits}
use Rattle.types.specs.declared.WrittenPart as declared

-- ---- what writing a part comes to
-- the number of parts, and the octets written
pub record Piece : Type 0 where
  pub total : ℕ
  pub octets : List ℕ

-- "Writing answers with the number of parts and the octets written": the answer, and the lent buffer afterwards. "What lies past the written
-- user data in the lent 140 octets is unchanged", and a refusal alters nothing.
pub record Told : Type 0 where
  pub total : ℕ
  pub size : ℕ

abbrev pub told : Result declared.WrittenPart Refusal → Outcome Told
told (Ok x) = gives (record { total = x.total; size = x.length })
told (Err r) = refused (refusal_number r)

pub record Written : Type 0 where
  pub answer : Outcome Told
  pub buffer : List ℕ

abbrev pub written : Outcome Told → List ℕ → Written
written a b = record { answer = a; buffer = b }

abbrev pub writes_part : Outcome Piece → List ℕ → Written
writes_part (refused n) buffer = written (refused n) buffer
writes_part (gives x) buffer =
    written (gives (record { total = x.total; size = length x.octets })) (x.octets ++ drop (length x.octets) buffer)

-- ---- user data
-- "Up to 137 octets: one message"
abbrev pub most_single : ℕ
most_single = 137

-- "Beyond: part 1 holds 132 octets .., later parts 134 ..; with 16-bit references 131 and 133": each as much as its header leaves room for.
-- "Every part but the last is full."
abbrev pub parts : ℕ → ℕ → ℕ
parts width size = cond (leb size most_single) 1 (1 + (size - room width 1 + room width 2 - 1) / room width 2)

-- where the octets of part `number` begin in the packet, and which they are
abbrev pub part_from : ℕ → ℕ → ℕ
part_from width number = cond (eqb number 1) 0 (room width 1 + (number - 2) * room width 2)

unfoldable pub part_octets : ℕ → List ℕ → ℕ → List ℕ
part_octets width p number =
    cond (leb (length p) most_single) p (take (room width number) (drop (part_from width number) p))

-- "02 70 00 (71 for responses)", "07 00 03 ref total 01 70 00", "05 00 03 ref total number", "08 08 04 ..", "06 08 04 .."
abbrev pub identifier_element : Kind → List ℕ
identifier_element Command = 0x70 ∷ 0x00 ∷ []
identifier_element Response = 0x71 ∷ 0x00 ∷ []

abbrev pub concatenation_element : ℕ → ℕ → ℕ → ℕ → List ℕ
concatenation_element width reference total number =
    cond (eqb width 16)
    (0x08 ∷ 0x04 ∷ (pair_of reference).0 ∷ (pair_of reference).1 ∷ total ∷ number ∷ [])
    (0x00 ∷ 0x03 ∷ reference ∷ total ∷ number ∷ [])

abbrev pub elements_of : Kind → ℕ → ℕ → ℕ → ℕ → List ℕ
elements_of k width reference total number =
    cond (eqb total 1) (identifier_element k)
    (cond (eqb number 1)
    (concatenation_element width reference total number ++ identifier_element k)
    (concatenation_element width reference total number))

-- the header: UDHL, and the elements that it counts
abbrev pub header_of : Kind → ℕ → ℕ → ℕ → ℕ → List ℕ
header_of k width reference total number =
    length (elements_of k width reference total number) ∷ elements_of k width reference total number

unfoldable pub user_data : Kind → ℕ → ℕ → List ℕ → ℕ → List ℕ
user_data k width reference p number =
    header_of k width reference (parts width (length p)) number ++ part_octets width p number

-- 12: "packet over 2,142 octets, over 2,126 with 16-bit references": as many as sixteen parts hold
abbrev pub most_split : ℕ → ℕ
most_split width = room width 1 + (most_parts - 1) * room width 2

-- 14: "part or page number 0 or above the total"
abbrev pub no_such_part : ℕ → ℕ → Bool
no_such_part total number = eqb number 0 || ltb total number

-- Writing user data: 1, 13, 9, 12, 14.
unfoldable pub writing : Kind → ℕ → ℕ → List ℕ → ℕ → List ℕ → Outcome Piece
writing k width reference p number buffer =
    refuse 1 when not (eqb (length buffer) most_user_data) otherwise
    refuse 13 when not (reference_fits width reference) otherwise
    refuse 9 when not (well_formed k p) otherwise
    refuse 12 when ltb (most_split width) (length p) otherwise
    refuse 14 when no_such_part (parts width (length p)) number otherwise
    gives (record { total = parts width (length p); octets = user_data k width reference p number })

unfoldable pub write_message : Kind → ℕ → ℕ → List ℕ → ℕ → List ℕ → Written
write_message k width reference p number buffer = writes_part (writing k width reference p number buffer) buffer

-- ---- pages
-- "A packet in t pages has 82(t − 1) + 1 to 82t octets"; "Pages are full, the last filled with 00".
abbrev pub pages : ℕ → ℕ
pages size = (size + page_content - 1) / page_content

abbrev pub filled : List ℕ → List ℕ
filled o = o ++ replicate (page_content - length o) 0x00

unfoldable pub content_of : List ℕ → ℕ → List ℕ
content_of p number = filled (take page_content (drop (page_content * (number - 1)) p))

-- "a single page has page parameter 11": high four bits page number, low four total
abbrev pub parameter : ℕ → ℕ → ℕ
parameter total number = number * 16 + total

unfoldable pub page_written : ℕ → ℕ → ℕ → List ℕ → ℕ → List ℕ
page_written serial identifier dcs p number =
    (pair_of serial).0 ∷ (pair_of serial).1 ∷ (pair_of identifier).0 ∷ (pair_of identifier).1 ∷ dcs ∷ parameter (pages (length p)) number ∷ content_of p number

-- 12: "over 1,230 in pages": as many as fifteen pages hold
abbrev pub most_pages : ℕ
most_pages = 15 * page_content

-- Writing a page: 1, 5, 9, 12, 14. Command packets only.
unfoldable pub writing_page : ℕ → ℕ → ℕ → List ℕ → ℕ → List ℕ → Outcome Piece
writing_page serial identifier dcs p number buffer =
    refuse 1 when not (eqb (length buffer) page_octets) otherwise
    refuse 5 when not (identifier_in_range identifier) otherwise
    refuse 9 when not (well_formed Command p) otherwise
    refuse 12 when ltb most_pages (length p) otherwise
    refuse 14 when no_such_part (pages (length p)) number otherwise
    gives (record { total = pages (length p); octets = page_written serial identifier dcs p number })

unfoldable pub write_page : ℕ → ℕ → ℕ → List ℕ → ℕ → List ℕ → Written
write_page serial identifier dcs p number buffer = writes_part (writing_page serial identifier dcs p number buffer) buffer
