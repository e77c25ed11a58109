-- What the functions on the lent octets cite of one another: an entry's octets, and what a walk looks for and finds.
use Rattle.std.specs.Prelude.{ℕ, ◌+◌, ◌*◌, Bool, cond, ◌&&◌, ◌||◌, List, get_or, take, drop, eqb, ltb, leb}
use Rattle.std.proofs.Math.Option.{Option, none, some}
use Rattle.types.specs.declared.Kind.{Kind}
use Rattle.arrival.specs.Keys.{key_formed, total_fits, length_fits}
use Rattle.formed.specs.Formed.{most_beats}
use Rattle.slots.specs.Below.{all_below}
use Rattle.logs.specs.declared.walks.Sought.{Sought}
use Rattle.logs.specs.declared.walks.Sought.TheVariants.{OfKey, OfSlot, OfPart, OfRank, Against, Dead}
use Rattle.plain.specs.Entries.{Entry, entry_octets, log_entry_at}
use Rattle.plain.specs.Log.{has_key, of_slot, is_part, of_rank, has_entry, dead}
use Rattle.plain.specs.Engine.{against}

-- the octets of entry i, and one of them
abbrev pub entry_octets_at : List ℕ → ℕ → List ℕ
entry_octets_at lent i = take entry_octets (drop (i * entry_octets) lent)

abbrev pub entry_octet : List ℕ → ℕ → ℕ → ℕ
entry_octet lent i k = get_or (entry_octets_at lent i) k 0

-- what is looked for; an entry that stands against another is looked for by the place of the other
abbrev pub seek : List ℕ → Sought → Entry → Bool
seek lent (OfKey key) = has_key key
seek lent (OfSlot i) = of_slot i
seek lent (OfPart i number) = is_part i number
seek lent (OfRank r) = of_rank r
seek lent (Against i) = against (log_entry_at lent i)
seek lent (Dead i limit) = dead limit i

-- a place among m entries, and the place m for none
abbrev pub found_at : List ℕ → ℕ → ℕ → Option Entry
found_at lent m i = cond (ltb i m) (some (log_entry_at lent i)) none

abbrev pub free_at : ℕ → ℕ → Option ℕ
free_at n i = cond (ltb i n) (some i) none

-- of `log_complete` and `lacks_one`: each part of slot i up to the total is in the log, or has the number
abbrev pub all_in_log : ℕ → ℕ → List Entry → ℕ → Bool
all_in_log i number log total = all_below total (λ j. eqb (j + 1) number || has_entry (is_part i (j + 1)) log)

-- ---- the test of an entry
-- of `entry_fits`: what an entry says of its series, and of its part
abbrev pub series_fits : ℕ → Kind → Entry → Bool
series_fits n k e =
    ltb e.slot n && ltb 0 e.rank && leb e.rank n && leb e.beats most_beats && key_formed k e.key && total_fits e.key e.total

abbrev pub part_fits : Entry → Bool
part_fits e = ltb 0 e.number && leb e.number e.total && length_fits e.key e.number e.size
