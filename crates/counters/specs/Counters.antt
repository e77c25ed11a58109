-- Counter judgement (02, [8]; TS 102 225): CNTR of a plain command against the value that is stored for its TAR.
use Rattle.std.specs.declared.result.Result.{Result}
use Rattle.std.specs.declared.result.Result.TheVariants.{Ok, Err}
use Rattle.types.specs.declared.Refusal.{Refusal}
use Rattle.std.specs.Prelude.{ℕ, suc, ◌+◌, ◌/◌, ◌%◌, Bool, true, false, not, cond, ◌&&◌, ◌||◌, List, [], ◌∷◌, length, get_or, take, set, replicate, eqb, ltb, leb}
use Rattle.octets.specs.Octets.{number_of}
use Rattle.types.specs.declared.Kind.TheVariants.{Command}
use Rattle.types.specs.declared.Tar.{Tar}
use Rattle.types.specs.declared.Cntr.{Cntr}
use Rattle.types.specs.declared.CounterEntry.{CounterEntry}
use Rattle.types.specs.declared.Counters.{Counters}
use Rattle.types.specs.Refusals.{Outcome, refused, gives, refuse◌when◌otherwise◌, refusal_number}
use Rattle.packet.specs.Packets.{ciphered_command, readable}

-- ---- counters
-- a counter as a number: five octets, big-endian (01, "Ground covered")
unfoldable pub counter_number : Cntr → ℕ
counter_number n = number_of (number_of (number_of (number_of n.0 n.1) n.2) n.3) n.4

-- "all ones": FF FF FF FF FF, the greatest of these numbers, 2⁴⁰ − 1
abbrev pub all_ones : ℕ
all_ones = 1099511627775

-- ---- the table
-- "a table of up to 16 TARs with a count in use": the first entries, as many as the count says
abbrev pub most_counters : ℕ
most_counters = 16

abbrev pub in_use : Counters → List CounterEntry
in_use c = take c.count c.entries

abbrev pub zero_entry : CounterEntry
zero_entry = record { tar = (0, 0, 0); cntr = (0, 0, 0, 0, 0) }

abbrev pub entry_at : List CounterEntry → ℕ → CounterEntry
entry_at es i = get_or es i zero_entry

-- an empty table, all zero
abbrev pub no_counters : Counters
no_counters = record { count = 0; entries = replicate most_counters zero_entry }

abbrev pub same_tar : Tar → Tar → Bool
same_tar a b = eqb a.0 b.0 && eqb a.1 b.1 && eqb a.2 b.2

-- how many entries stand before the first with that TAR; all of them, if none has it
unfoldable pub place_of : Tar → List CounterEntry → ℕ
place_of t [] = 0
place_of t (e ∷ es) = cond (same_tar e.tar t) 0 (suc (place_of t es))

-- one of the entries has that TAR
abbrev pub has_tar : Tar → List CounterEntry → Bool
has_tar t es = ltb (place_of t es) (length es)

-- "a TAR named twice": one that an entry has, and another behind it
unfoldable pub named_twice : List CounterEntry → Bool
named_twice [] = false
named_twice (e ∷ es) = has_tar e.tar es || named_twice es

-- 19: "a count over 16 or a TAR named twice"
abbrev pub unfit_counters : Counters → Bool
unfit_counters c = ltb most_counters c.count || named_twice (in_use c)

-- the table with another counter at place i
abbrev pub with_counter : Counters → ℕ → Cntr → Counters
with_counter c i n = record { count = c.count; entries = set c.entries i (record { tar = (entry_at c.entries i).tar; cntr = n }) }

-- ---- the command
-- TAR and CNTR, where they stand in a command (packet/specs/Packets.antt)
abbrev pub command_tar : List ℕ → Tar
command_tar p = (get_or p 7 0, get_or p 8 0, get_or p 9 0)

abbrev pub command_counter : List ℕ → Cntr
command_counter p = (get_or p 10 0, get_or p 11 0, get_or p 12 0, get_or p 13 0, get_or p 14 0)

-- "SPI's first octet, bits 5 and 4": the 16s and the 8s place, as a number
abbrev pub counter_bits : List ℕ → ℕ
counter_bits p = get_or p 3 0 / 8 % 4

-- "00 and 01 no check": with 10 and 11, which are 2 and 3, there is one; "11 exactly one higher"
abbrev pub checks_counter : ℕ → Bool
checks_counter bits = leb 2 bits

abbrev pub wants_next : ℕ → Bool
wants_next bits = eqb bits 3

-- ---- the status
infixr 10 answers◌when◌otherwise◌
abbrev pub answers◌when◌otherwise◌ : ℕ → Bool → ℕ → ℕ
answers n when true otherwise s = n
answers n when false otherwise s = s

-- "With 10 and 11: a stored value of all ones answers status 04, a counter not higher 02, with 11 a counter more than one higher 03 .. Otherwise
-- status 00."
unfoldable pub counter_status : (bits stored counter : ℕ) → ℕ
counter_status bits stored counter =
    answers 0x00 when not (checks_counter bits) otherwise
    answers 0x04 when eqb stored all_ones otherwise
    answers 0x02 when leb counter stored otherwise
    answers 0x03 when wants_next bits && ltb (stored + 1) counter otherwise
    0x00

-- "each leaves the table. Otherwise status 00, and with 10 and 11 the counter is stored."
abbrev pub stored_by : ℕ → ℕ → Counters → ℕ → Cntr → Counters
stored_by bits status c i n = cond (checks_counter bits && eqb status 0) (with_counter c i n) c

-- against the entry at place i: the status, and the table afterwards
abbrev pub judged_at : Counters → ℕ → List ℕ → ℕ × Counters
judged_at c i p =
    let s = counter_status (counter_bits p) (counter_number (entry_at c.entries i).cntr) (counter_number (command_counter p)) in
    (s, stored_by (counter_bits p) s c i (command_counter p))

-- "An unknown TAR answers 09 before any other judgement."
unfoldable pub judged_by : Counters → List ℕ → ℕ × Counters
judged_by c p = cond (has_tar (command_tar p) (in_use c)) (judged_at c (place_of (command_tar p) (in_use c)) p) (0x09, c)

-- ---- the outcome
-- the answer, a status or a refusal, and the table as it is afterwards
pub record Assessed : Type 0 where
  pub answer : Outcome ℕ
  pub counters : Counters

abbrev pub assessed : Outcome ℕ → Counters → Assessed
assessed o c = record { answer = o; counters = c }

-- a refusal alters nothing
abbrev pub or_leaves : Counters → Outcome (ℕ × Counters) → Assessed
or_leaves c (refused n) = assessed (refused n) c
or_leaves c (gives (status, after)) = assessed (gives status) after

-- "Refusals: parsing's, then 10 for a ciphered body, then 19 for a count over 16 or a TAR named twice."
unfoldable pub judge_counter : Counters → List ℕ → Assessed
judge_counter c p =
    or_leaves c
    (readable Command (ciphered_command p) p
    (refuse 10 when ciphered_command p otherwise
    refuse 19 when unfit_counters c otherwise
    gives (judged_by c p)))

-- what the enum of the answer says
abbrev pub told_judgement : Result ℕ Refusal → Outcome ℕ
told_judgement (Ok s) = gives s
told_judgement (Err r) = refused (refusal_number r)
