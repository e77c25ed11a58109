-- What is kept from line to line, and what a line that is understood leaves of it, by its row: record, cells and output are those of the library's
-- rule for the call that the line asks for, and so are the tables of counters and of outstanding commands.
use Rattle.std.specs.Prelude.{ℕ, ◌-◌, ◌%◌, false, true, cond, ◌&&◌, List, [], ◌∷◌, ◌++◌, eqb, ltb, leb, length, take, drop, get_or, set, replicate}
use Rattle.types.specs.declared.Kind.{Kind}
use Rattle.types.specs.declared.Kind.TheVariants.{Command}
use Rattle.types.specs.declared.Record.{Record}
use Rattle.types.specs.declared.Counters.{Counters}
use Rattle.types.specs.declared.Outstanding.{Outstanding}
use Rattle.skelmarix.specs.Rules.{most_octets, cells_size, default_slots, is_slot_number, fresh_record, State, After, state, take_message, take_page, beat, no_counters, no_commands}
use Rattle.values.specs.Fields.{kind_by, sender_of}
use Rattle.values.specs.Meaning.{way_of, own_at, slots_asked}
use Rattle.values.specs.Tables.{counters_by, commands_after}
use Rattle.lines.specs.Lent.{right, lent_of}
use Rattle.changes.specs.declared.Bench.{Bench}

-- ---- what is held
-- beside the record, the two tables, how much is lent and the flag, all octets of the cells and of the output
pub record Held : Type 0 where
  pub bench : Bench
  pub cells : List ℕ
  pub output : List ℕ

abbrev pub held : Bench → List ℕ → List ℕ → Held
held b cells output = record { bench = b; cells = cells; output = output }

-- cells, output, buffer and log are lent with the right numbers
abbrev pub all_right : List ℕ
all_right = right ∷ right ∷ right ∷ right ∷ []

abbrev pub at_start : Bench
at_start = record { «record» = fresh_record default_slots Command; counters = no_counters; outstanding = no_commands; lent = all_right; numbered = false }

abbrev pub lent_cells : Held → ℕ
lent_cells h = lent_of (get_or h.bench.lent 0 0) (cells_size h.bench.«record».count) (length h.cells)

abbrev pub lent_output : Held → ℕ
lent_output h = lent_of (get_or h.bench.lent 1 0) most_octets (length h.output)

-- the record, and what is lent
abbrev pub called : Held → State
called h = state h.bench.«record» (take (lent_cells h) h.cells) (take (lent_output h) h.output)

abbrev pub with_record : Bench → Record → Bench
with_record b r = record { «record» = r; counters = b.counters; outstanding = b.outstanding; lent = b.lent; numbered = b.numbered }

abbrev pub with_lent : Bench → List ℕ → Bench
with_lent b l = record { «record» = b.«record»; counters = b.counters; outstanding = b.outstanding; lent = l; numbered = b.numbered }

abbrev pub with_counters : Bench → Counters → Bench
with_counters b c = record { «record» = b.«record»; counters = c; outstanding = b.outstanding; lent = b.lent; numbered = b.numbered }

abbrev pub with_outstanding : Bench → Outstanding → Bench
with_outstanding b t = record { «record» = b.«record»; counters = b.counters; outstanding = t; lent = b.lent; numbered = b.numbered }

abbrev pub now_numbered : Bench → Bench
now_numbered b = record { «record» = b.«record»; counters = b.counters; outstanding = b.outstanding; lent = b.lent; numbered = true }

-- ---- what is held afterwards, by the line's row
-- row 1 `message SENDER UD`, row 2 `page PAGE`, row 60 `captured SENDER RECORD`: a message or a page is taken
abbrev pub call : ℕ → ℕ → List ℕ → State → After
call way at octets s =
    cond (eqb way 1) (take_message s.rec.count s (sender_of octets) (drop at octets)) (take_page s.rec.count s (drop at octets))

-- what a taking left of what was lent, and the rest as it was
abbrev pub held_taken : Held → After → Held
held_taken h a =
    held (with_record h.bench a.state.rec) (a.state.cells ++ drop (lent_cells h) h.cells) (a.state.output ++ drop (lent_output h) h.output)

-- every octet of cells and output
abbrev pub all_filled : Held → Bench → ℕ → Held
all_filled h b x = held b (replicate (length h.cells) x) (replicate (length h.output) x)

-- a record that the library makes, and cells and output all 00; where it makes none, all stays as it is
abbrev pub fresh_made : Kind → ℕ → Held → Held
fresh_made k n h = cond (is_slot_number n) (all_filled h (with_record h.bench (fresh_record n k)) 0) h

-- the record with another number of slots, whatever they hold
abbrev pub with_count : Record → ℕ → Record
with_count r n = record { kind = r.kind; count = n; slots = r.slots }

-- row 11 `lend right`, row 12 `number`, row 50 `slots N`
abbrev pub row_noted : ℕ → ℕ → Bench → Bench
row_noted row n b =
    cond (eqb row 11) (with_lent b all_right)
    (cond (eqb row 12) (now_numbered b)
    (cond (eqb row 50) (with_record b (with_count b.«record» (n % 256))) b))

-- and rows 8 to 10 `lend cells N`, `lend output N`, `lend buffer N`, row 73 `lend log N`
abbrev pub lent_noted : ℕ → ℕ → Bench → Bench
lent_noted row n b =
    cond (ltb 7 row && ltb row 11) (with_lent b (set b.lent (row - 8) n))
    (cond (eqb row 73) (with_lent b (set b.lent 3 n)) (row_noted row n b))

-- the lines that leave cells and output as they are; row 56 `beat LIMIT`
abbrev pub kept_notes : ℕ → ℕ → ℕ → List ℕ → Bench → Bench
kept_notes row count n octets b =
    cond (leb 53 row && leb row 55) (with_counters b (counters_by row count n octets b.counters))
    (cond (eqb row 56) (with_record b (beat b.«record».count b.«record» (n % 256)).rec)
    (cond (leb 57 row && leb row 59) (with_outstanding b (commands_after row count n octets b.outstanding))
    (lent_noted row n b)))

-- and row 4 `fresh command N`, row 5 `fresh response N`, row 6 `fill HH`; the lines of other rows leave all as it is. n is the first number of the
-- line, and count how many words there are behind the names.
unfoldable pub row_changes : ℕ → ℕ → ℕ → List ℕ → Held → Held
row_changes row count n octets h =
    cond (ltb (way_of row octets) 3) (held_taken h (call (way_of row octets) (own_at row) octets (called h)))
    (cond (ltb row 6) (fresh_made (kind_by (eqb row 5)) (slots_asked count n) h)
    (cond (eqb row 6) (all_filled h h.bench (get_or octets 0 0))
    (held (kept_notes row count n octets h.bench) h.cells h.output)))
