-- Which keys, totals and lengths of parts a well-formed record can hold (01, "Numbers"), and so what reading admits.
use Rattle.std.specs.Prelude.{ℕ, ◌-◌, Bool, not, cond, ◌&&◌, ◌||◌, eqb, ltb, leb}
use Rattle.types.specs.declared.Kind.{Kind}
use Rattle.types.specs.declared.Key.{Key}
use Rattle.arrival.specs.Message.{most_parts}
use Rattle.arrival.specs.Page.{identifier_in_range, no_pages, page_content}

-- width 0 tells a page's key
abbrev pub of_pages : Key → Bool
of_pages x = eqb x.width 0

-- "references fit their width"
abbrev pub reference_fits : ℕ → ℕ → Bool
reference_fits width reference = (eqb width 8 && ltb reference 256) || (eqb width 16 && ltb reference 65536)

-- What a key does not use is zero; "references fit their width, message identifiers lie in range"; "a response record holds no page series".
abbrev pub message_key_formed : Key → Bool
message_key_formed x = reference_fits x.width x.reference && eqb x.serial.0 0 && eqb x.identifier.0 0

abbrev pub page_key_formed : Kind → Key → Bool
page_key_formed k x = not (no_pages k) && eqb x.sender 0 && eqb x.reference 0 && identifier_in_range x.identifier.0

unfoldable pub key_formed : Kind → Key → Bool
key_formed k x = cond (of_pages x) (page_key_formed k x) (message_key_formed x)

-- "a total of 2 to 16 .. pages: .. total at most 15"
abbrev pub total_fits : Key → ℕ → Bool
total_fits x t = leb 2 t && leb t (cond (of_pages x) 15 most_parts)

-- "at most 134, with 16-bit references 133 (part 1: 132 and 131; pages: exactly 82 ..)". Of 140 octets of user data UDHL takes one and the
-- concatenation element five, with a 16-bit reference six; in part 1 the packet identifier takes two more: 140 - 1 - 5 = 134, 140 - 1 - 6 - 2 = 131.
abbrev pub room : ℕ → ℕ → ℕ
room width number = cond (eqb width 16) 133 134 - cond (eqb number 1) 2 0

unfoldable pub length_fits : Key → ℕ → ℕ → Bool
length_fits x number n = cond (of_pages x) (eqb n page_content) (leb n (room x.width number))
