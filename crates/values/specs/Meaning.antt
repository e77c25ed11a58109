-- What a line that was read means: which call takes its octets, how many slots it asks for, and whether its words can be meant together.
use Rattle.std.specs.declared.option.Option as option
use Rattle.std.specs.declared.option.Option.TheVariants.{Some, None}
use Rattle.std.specs.Prelude.{ℕ, ◌+◌, min, Bool, not, cond, ◌&&◌, ◌||◌, List, eqb, ltb, length, drop}
use Rattle.types.specs.declared.Captured.{Captured}
use Rattle.types.specs.declared.Captured.TheVariants.{UserData, Page}
use Rattle.skelmarix.specs.Rules.{default_slots, record_head, record_in}

-- row 1 `message SENDER UD`, row 2 `page PAGE`, row 60 `captured SENDER RECORD`: a message or a page, as the record of the capture is one
abbrev pub captured_way : ℕ → option.Option Captured → ℕ
captured_way row (Some (UserData start)) = 1
captured_way row (Some (Page start)) = 2
captured_way row None = row

abbrev pub way_of : ℕ → List ℕ → ℕ
way_of row octets = cond (eqb row 60) (captured_way row (record_in (drop 4 octets))) row

-- its own octets stand behind the sender, and behind mark and head
abbrev pub own_at : ℕ → ℕ
own_at row = cond (eqb row 60) (4 + record_head) (cond (eqb row 1) 4 0)

-- a number of slots: five if the line has none, and the greatest that the call takes if it is greater
abbrev pub slots_asked : ℕ → ℕ → ℕ
slots_asked count value = cond (eqb count 0) default_slots (min value 255)

-- the words of a line that was read can be meant: an entry of row 59 is one of eight, the record of row 60 is sound by itself, and an entry of row 74 is
-- one of eighty, with no more octets than it has
abbrev pub meant : ℕ → ℕ → ℕ → List ℕ → Bool
meant row count n octets =
    not (eqb row 59 && ltb 1 count && ltb 7 n) && not (eqb (way_of row octets) 60) && not (eqb row 74 && (ltb 79 n || ltb 151 (length octets)))

-- an engine, by its number: the first, 0, the card's, 1, the plain one, 2, and all of them, 3. Row 8 `lend cells N`, row 13 `slot ..`, row 15 `formed` and
-- row 50 `slots N` are no lines of the plain one; rows 73 to 75 `lend log N`, `entry I OCTETS`, `entries N` are its own.
abbrev pub of_record : ℕ → Bool
of_record row = eqb row 8 || eqb row 13 || eqb row 15 || eqb row 50

abbrev pub suits : ℕ → ℕ → Bool
suits engine row = not (ltb 1 engine && of_record row) && not (ltb 72 row && not (eqb engine 2))
