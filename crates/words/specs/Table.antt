-- The kinds of lines, as a table: a row is a name behind the names of an earlier row, and the sorts of the words that follow. A new kind of
-- line is a new row.
use Rattle.std.specs.Prelude.{ℕ, ◌+◌, ◌*◌, ◌/◌, ◌%◌, Bool, cond, List, [], ◌∷◌, map, eqb, drop, get_or}
use Prim.Native.String.{String}
use Rattle.words.specs.Letters.{letters}

-- ---- sorts of words
-- a name; a number up to 4,294,967,295, 65,535, 16,384, 255, 4 or 15; parts of a slot; octets, any number of them or so many; and a number or octets
-- that may be left out at a line's end
abbrev pub name : ℕ
name = 1

abbrev pub number : ℕ
number = 2

abbrev pub pair : ℕ
pair = 3

abbrev pub up_to_lent : ℕ
up_to_lent = 4

abbrev pub octet : ℕ
octet = 5

abbrev pub place : ℕ
place = 6

abbrev pub entry : ℕ
entry = 7

abbrev pub slot_parts : ℕ
slot_parts = 15

abbrev pub any : ℕ
any = 32

abbrev pub octets : ℕ → ℕ
octets n = 32 + n

abbrev pub or_none : ℕ → ℕ
or_none sort = 16 + sort

abbrev pub may_lack : ℕ → Bool
may_lack sort = eqb (sort / 16 % 2) 1

-- the greatest number of each sort; no name has more than eleven letters
abbrev pub mosts : List ℕ
mosts = 0 ∷ 36028797018963967 ∷ 4294967295 ∷ 65535 ∷ 16384 ∷ 255 ∷ 4 ∷ 15 ∷ []

abbrev pub most_of : ℕ → ℕ
most_of sort = get_or mosts (sort % 8) 0

-- the line's end
abbrev pub end : ℕ
end = 0

-- several sorts, one after the other, are one number: six bits each, the first lowest
infixr 40 ◌then◌
abbrev pub ◌then◌ : ℕ → ℕ → ℕ
a then b = a + 64 * b

-- ---- the rows
pub record Row : Type 0 where
  pub earlier : ℕ
  pub named : String
  pub sorts : ℕ

abbrev pub row : ℕ → String → ℕ → Row
row e n s = record { earlier = e; named = n; sorts = s }

-- counted from 0, where a line begins
abbrev pub rows : List Row
rows =
    row 0 "" name ∷
    row 0 "message" (octets 4 then any) ∷
    row 0 "page" any ∷
    row 0 "fresh" name ∷
    row 3 "command" (or_none number) ∷
    row 3 "response" (or_none number) ∷
    row 0 "fill" (octets 1) ∷
    row 0 "lend" name ∷
    row 7 "cells" up_to_lent ∷
    row 7 "output" up_to_lent ∷
    row 7 "buffer" up_to_lent ∷
    row 7 "right" end ∷
    row 0 "number" end ∷
    row 0 "slot" (place then octet then octet then octets 4 then octet then pair then octets 2 then octets 2 then octet then slot_parts) ∷
    row 0 "record" end ∷
    row 0 "formed" end ∷
    row 0 "cells" (number then number) ∷
    row 0 "output" (number then number) ∷
    row 0 "buffer" (number then number) ∷
    row 0 "command" any ∷
    row 0 "response" name ∷
    row 20 "plain" any ∷
    row 20 "ciphered" any ∷
    row 0 "show" name ∷
    row 23 "command" any ∷
    row 23 "response" name ∷
    row 25 "plain" any ∷
    row 25 "ciphered" any ∷
    row 0 "checksum" name ∷
    row 28 "command" any ∷
    row 28 "response" name ∷
    row 30 "plain" any ∷
    row 30 "ciphered" any ∷
    row 0 "build" name ∷
    row 33 "command" name ∷
    row 33 "response" name ∷
    row 34 "plain" (octets 2 then octets 1 then octets 1 then octets 3 then octets 5 then octets 1 then any then any) ∷
    row 34 "ciphered" (octets 2 then octets 1 then octets 1 then octets 3 then number then any) ∷
    row 35 "plain" (octets 3 then octets 5 then octets 1 then octets 1 then any then any) ∷
    row 35 "ciphered" (octets 3 then number then any) ∷
    row 0 "write" name ∷
    row 40 "command" (number then number then number then any) ∷
    row 40 "response" (number then number then number then any) ∷
    row 40 "page" (octets 2 then octets 2 then octets 1 then number then any) ∷
    row 0 "read" name ∷
    row 44 "command" (octets 4 then any) ∷
    row 44 "response" (octets 4 then any) ∷
    row 44 "page" name ∷
    row 47 "command" any ∷
    row 47 "response" any ∷
    row 0 "slots" octet ∷
    row 0 "report" (octets 2 then number then any then or_none number) ∷
    row 0 "announces" any ∷
    row 0 "counter" (entry then octets 3 then octets 5) ∷
    row 0 "counters" (or_none octet) ∷
    row 0 "judge" any ∷
    row 0 "beat" octet ∷
    row 0 "sent" (octets 4 then octets 3 then octets 5) ∷
    row 0 "answered" (octets 4 then any) ∷
    row 0 "outstanding" (or_none octet then or_none (octets 4) then octets 3 then octets 5) ∷
    row 0 "captured" (octets 4 then any) ∷
    row 0 "ussd" name ∷
    row 61 "read" (octets 1 then octets 1 then any) ∷
    row 23 "ussd" (octets 1 then octets 1 then any) ∷
    row 61 "checksum" any ∷
    row 61 "write" (octets 1 then name) ∷
    row 65 "plain" (octets 2 then octets 1 then octets 1 then octets 3 then octets 5 then octets 1 then any then any) ∷
    row 65 "ciphered" (octets 2 then octets 1 then octets 1 then octets 3 then number then any) ∷
    row 0 "engine" name ∷
    row 68 "first" end ∷
    row 68 "card" end ∷
    row 68 "plain" end ∷
    row 68 "both" end ∷
    row 7 "log" up_to_lent ∷
    row 0 "entry" (octet then any) ∷
    row 0 "entries" octet ∷
    []

-- how many there are
abbrev pub row_count : ℕ
row_count = 76

-- the key of a name behind an earlier row
abbrev pub name_after : ℕ → ℕ → ℕ
name_after earlier n = earlier % 256 * 36028797018963968 + n % 36028797018963968

abbrev pub keys : List ℕ
keys = map (λ r. name_after r.earlier (letters 0 r.named)) rows

abbrev pub all_sorts : List ℕ
all_sorts = map (λ r. r.sorts) rows

-- the row of a key among keys that are counted from i; 0 if there is none
unfoldable pub row_from : ℕ → ℕ → List ℕ → ℕ
row_from key i [] = 0
row_from key i (k ∷ ks) = cond (eqb k key) i (row_from key (i + 1) ks)

abbrev pub row_of : ℕ → ℕ
row_of key = row_from key 1 (drop 1 keys)
