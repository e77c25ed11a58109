-- Captures (02, [14]): which octets of a file are sound records, what of it is copied, and what is skipped.
use Rattle.std.specs.declared.option.Option as option
use Rattle.std.specs.declared.option.Option.TheVariants.{Some, None}
use Rattle.std.specs.Prelude.{ℕ, zero, suc, ◌+◌, ◌-◌, Bool, true, false, not, cond, ◌&&◌, ◌||◌, List, [], ◌∷◌, length, get_or, drop, eqb, ltb, leb}
use Rattle.types.specs.Refusals.{Lent, refuse◌when◌otherwise◌, gives, writes}
use Rattle.types.specs.declared.SkippedRun.{SkippedRun}
use Rattle.types.specs.declared.Captured.{Captured}
use Rattle.types.specs.declared.Captured.TheVariants.{UserData, Page}

-- ---- a record, in the octets from its position to the file's end
-- "a mark of two octets, A5 5A": both octets are there
abbrev pub has_mark : List ℕ → Bool
has_mark o = eqb (get_or o 0 0) 0xA5 && eqb (get_or o 1 0) 0x5A

-- "then kind (1 user data, 2 page) and length, an octet each, and that many octets"
abbrev pub record_head : ℕ
record_head = 4

abbrev pub kind_of : List ℕ → ℕ
kind_of o = get_or o 2 0

abbrev pub own_length : List ℕ → ℕ
own_length o = get_or o 3 0

abbrev pub record_length : List ℕ → ℕ
record_length o = record_head + own_length o

-- "kind 1: 0 to 140, kind 2: 88"
abbrev pub right_head : (kind own : ℕ) → Bool
right_head kind own = (eqb kind 1 && leb own 140) || (eqb kind 2 && eqb own 88)

-- "mark, kind and length are right"
abbrev pub begins_right : List ℕ → Bool
begins_right o = has_mark o && right_head (kind_of o) (own_length o)

-- "At a position a record is sound if mark, kind and length are right and it ends at the file's end or where another mark stands."
unfoldable pub sound : List ℕ → Bool
sound o = begins_right o && (eqb (length o) (record_length o) || has_mark (drop (record_length o) o))

-- ---- a file
-- "A sound record is copied and reading goes on after it, otherwise one octet is skipped": of each octet in turn, whether it is copied. `left`
-- octets of a sound record are still to come.
unfoldable pub fates : (left : ℕ) → List ℕ → List Bool
fates left [] = []
fates (suc left) (x ∷ o) = true ∷ fates left o
fates zero (x ∷ o) = cond (sound (x ∷ o)) (true ∷ fates (record_length (x ∷ o) - 1) o) (false ∷ fates zero o)

-- the octets of which that is true
unfoldable pub chosen : List Bool → List ℕ → List ℕ
chosen (true ∷ f) (x ∷ o) = x ∷ chosen f o
chosen (false ∷ f) (x ∷ o) = chosen f o
chosen (c ∷ f) [] = []
chosen [] o = []

-- what is copied of a file
abbrev pub salvaged : List ℕ → List ℕ
salvaged file = chosen (fates 0 file) file

-- how many at the front are c
unfoldable pub leading : Bool → List Bool → ℕ
leading c [] = 0
leading true (true ∷ f) = suc (leading true f)
leading true (false ∷ f) = 0
leading false (true ∷ f) = 0
leading false (false ∷ f) = suc (leading false f)

-- The next "longest run skipped" from a position on: reading begins there as at a file's start; the octets copied at the front are passed, and
-- those skipped behind them are the run. "First position (from 0)", count, and where to go on. With no octet skipped the count is 0, and the
-- first position is the file's end, or the position itself if it is past that.
unfoldable pub next_run : List ℕ → ℕ → SkippedRun
next_run file at =
    let f = fates 0 (drop at file) in
    let first = at + leading true f in
    let count = leading false (drop (leading true f) f) in
    record { first = first; count = count; next = first + count }

-- ---- salvaging
-- "The library handles a lent file of at most 65,536 octets."
abbrev pub most_capture : ℕ
most_capture = 65536

-- "Refusals: 24 for a longer one, then 1 for an output buffer not of the file's length, whose rest stays."
unfoldable pub salvaging : (file output : List ℕ) → Lent
salvaging file output =
    writes
    (refuse 24 when ltb most_capture (length file) otherwise
    refuse 1 when not (eqb (length output) (length file)) otherwise
    gives (salvaged file)) output

-- ---- one record by itself
-- all of the octets are one sound record, which ends at their end
abbrev pub sound_alone : List ℕ → Bool
sound_alone o = begins_right o && eqb (length o) (record_length o)

-- what it is, and where its own octets begin
unfoldable pub record_in : List ℕ → option.Option Captured
record_in o = cond (sound_alone o) (cond (eqb (kind_of o) 1) (Some (UserData record_head)) (Some (Page record_head))) None
