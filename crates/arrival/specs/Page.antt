-- What a page brings (01, "Pages"; TS 23.041): 2, 4, 5 in this order.
use Rattle.std.specs.Prelude.{ℕ, ◌/◌, ◌%◌, List, Bool, true, false, not, cond, ◌&&◌, ◌||◌, length, get_or, eqb, ltb, leb}
use Rattle.octets.specs.Octets.{number_of}
use Rattle.types.specs.declared.Kind.{Kind}
use Rattle.types.specs.declared.Kind.TheVariants.{Command, Response}
use Rattle.types.specs.Refusals.{Outcome, gives, refuse◌when◌otherwise◌}
use Rattle.types.specs.declared.Key.{Key}
use Rattle.arrival.specs.Arrivals.{Brought, single, part}

-- "Page: exactly 88 octets, 6 of header and 82 of content."
abbrev pub page_octets : ℕ
page_octets = 88

abbrev pub page_header : ℕ
page_header = 6

abbrev pub page_content : ℕ
page_content = 82

-- "Header: serial number, message identifier, DCS, page parameter."
abbrev pub serial_in : List ℕ → ℕ
serial_in page = number_of (get_or page 0 0) (get_or page 1 0)

abbrev pub identifier_in : List ℕ → ℕ
identifier_in page = number_of (get_or page 2 0) (get_or page 3 0)

abbrev pub parameter_in : List ℕ → ℕ
parameter_in page = get_or page 5 0

-- "Page parameter: high four bits page number, low four total; zero in either means page 1 of 1."
abbrev pub one_of_one : ℕ → Bool
one_of_one p = eqb (p / 16) 0 || eqb (p % 16) 0

abbrev pub page_number : ℕ → ℕ
page_number p = cond (one_of_one p) 1 (p / 16)

abbrev pub page_total : ℕ → ℕ
page_total p = cond (one_of_one p) 1 (p % 16)

-- "The identifier must lie in 1080 to 109F."
abbrev pub identifier_in_range : ℕ → Bool
identifier_in_range i = leb 0x1080 i && leb i 0x109F

-- 5: "page for a response record"
abbrev pub no_pages : Kind → Bool
no_pages Command = false
no_pages Response = true

-- "Key: .. for pages serial number and message identifier"
abbrev pub page_key : ℕ → ℕ → Key
page_key serial identifier =
    record { sender = 0; width = 0; reference = 0; serial = record { 0 = serial }; identifier = record { 0 = identifier } }

unfoldable pub read_page : Kind → List ℕ → Outcome Brought
read_page k page =
    refuse 2 when not (eqb (length page) page_octets) otherwise
    refuse 4 when ltb (page_total (parameter_in page)) (page_number (parameter_in page)) otherwise
    refuse 5 when no_pages k || not (identifier_in_range (identifier_in page)) otherwise
    cond (eqb (page_total (parameter_in page)) 1)
    (gives (single page_header))
    (gives (part (page_key (serial_in page) (identifier_in page)) (page_total (parameter_in page)) (page_number (parameter_in page)) page_header))

-- 5 of a page
abbrev pub misdirected : Kind → ℕ → Bool
misdirected k identifier = no_pages k || not (identifier_in_range identifier)
