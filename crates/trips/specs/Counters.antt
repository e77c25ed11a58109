-- Counter judgement (02, [8]): each refusal and each status on its condition, and what is so over any sequence of calls.
use Rattle.std.specs.Prelude.{ℕ, ◌+◌, ◌≤◌, ◌<◌, ◌≡◌, Bool, true, false, cond, ◌&&◌, ◌||◌, List, [], ◌∷◌, ◌++◌, ◌⊎◌, length, replicate, set, eqb, ltb}
use Rattle.std.proofs.Math.Option.{Option, none, some}
use Rattle.octets.specs.Octets.{Octets}
use Rattle.types.specs.declared.Kind.TheVariants.{Command}
use Rattle.types.specs.declared.Tar.{Tar}
use Rattle.types.specs.declared.Cntr.{Cntr}
use Rattle.types.specs.declared.Counters.{Counters}
use Rattle.types.specs.Refusals.{refused, gives}
use Rattle.packet.specs.Packets.{Parsed, ciphered_command, parsing}
use Rattle.packet.specs.Told.{counter_octets}
use Rattle.counters.specs.Counters.{counter_number, all_ones, most_counters, in_use, zero_entry, entry_at, place_of, has_tar, command_tar, command_counter, counter_bits, checks_counter, counter_status, judged_by, assessed, or_leaves, judge_counter}

-- ---- each refusal on its condition
-- a table that is not refused: no more entries in use than there are, and no two of those in use with one TAR
pub record FitTable (c : Counters) : Type 0 where
  pub few : c.count ≤ most_counters
  pub differ : (i j : ℕ) → i < j → j < c.count → (entry_at c.entries i).tar ≡ (entry_at c.entries j).tar → ⊥

-- "Refusals: parsing's, then 10 for a ciphered body, then 19 for a count over 16 or a TAR named twice." Each leaves the table.
pub record JudgesOrRefuses (c : Counters) (p : List ℕ) : Type 0 where
  pub parsings : (n : ℕ) → parsing Command (ciphered_command p) p ≡ refused n → judge_counter c p ≡ assessed (refused n) c
  pub ten : (x : Parsed) → parsing Command (ciphered_command p) p ≡ gives x → ciphered_command p ≡ true → judge_counter c p ≡ assessed (refused 10) c
  pub nineteen_many : (x : Parsed) → parsing Command (ciphered_command p) p ≡ gives x → ciphered_command p ≡ false → most_counters < c.count
      → judge_counter c p ≡ assessed (refused 19) c
  pub nineteen_twice : (x : Parsed) → parsing Command (ciphered_command p) p ≡ gives x → ciphered_command p ≡ false
      → (i j : ℕ) → i < j → j < c.count → j < length c.entries → (entry_at c.entries i).tar ≡ (entry_at c.entries j).tar
      → judge_counter c p ≡ assessed (refused 19) c
  pub given : (x : Parsed) → parsing Command (ciphered_command p) p ≡ gives x → ciphered_command p ≡ false → FitTable c
      → judge_counter c p ≡ or_leaves c (gives (judged_by c p))

-- ---- each status on its condition
pub record EachStatus : Type 0 where
  -- "00 and 01 no check"
  pub unchecked : (bits stored counter : ℕ) → bits < 2 → counter_status bits stored counter ≡ 0x00
  -- "a stored value of all ones answers status 04"
  pub blocked : (bits counter : ℕ) → 2 ≤ bits → counter_status bits all_ones counter ≡ 0x04
  -- "a counter not higher 02"
  pub low : (bits stored counter : ℕ) → 2 ≤ bits → stored < all_ones → counter ≤ stored → counter_status bits stored counter ≡ 0x02
  -- "10 the counter must be higher than the stored one; 11 exactly one higher"
  pub higher : (stored counter : ℕ) → stored < all_ones → stored < counter → counter_status 2 stored counter ≡ 0x00
  pub next : (stored : ℕ) → stored < all_ones → counter_status 3 stored (stored + 1) ≡ 0x00
  -- "with 11 a counter more than one higher 03"
  pub high : (stored counter : ℕ) → stored < all_ones → stored + 1 < counter → counter_status 3 stored counter ≡ 0x03

-- An unknown TAR answers 09 "before any other judgement", whatever the bits and the counters are, and leaves the table.
abbrev pub UnknownTar : Type 0
UnknownTar = (c : Counters) (p : List ℕ) → ((i : ℕ) → i < c.count → (entry_at c.entries i).tar ≡ command_tar p → ⊥) → judged_by c p ≡ (0x09, c)

-- ---- counters as numbers
-- the first octet in which two rows of octets differ decides which comes before the other
unfoldable pub precedes : List ℕ → List ℕ → Bool
precedes [] o = false
precedes (a ∷ o) [] = false
precedes (a ∷ o) (b ∷ q) = ltb a b || (eqb a b && precedes o q)

-- so it is of counters, since they are big-endian; and the greatest of them is that of all ones
pub record CountersAsNumbers : Type 0 where
  pub ordered : (a b : Cntr) → Octets (counter_octets a []) → Octets (counter_octets b [])
      → ltb (counter_number a) (counter_number b) ≡ precedes (counter_octets a []) (counter_octets b [])
  pub all_ones_lem : counter_number (0xFF, 0xFF, 0xFF, 0xFF, 0xFF) ≡ all_ones
  pub greatest : (a : Cntr) → Octets (counter_octets a []) → counter_number a ≤ all_ones

-- ---- over any sequence of calls
-- each call gets the table that the one before it left
abbrev pub counters_after : Counters → List (List ℕ) → Counters
counters_after c [] = c
counters_after c (p ∷ ps) = counters_after (judge_counter c p).counters ps

-- the counter that is stored for a TAR, if an entry in use has it
abbrev pub stored_for : Tar → Counters → Option ℕ
stored_for t c = cond (has_tar t (in_use c)) (some (counter_number (entry_at c.entries (place_of t (in_use c))).cntr)) none

-- "Over any sequence of calls a stored counter never falls": for every TAR, of every table
pub record NotLower (t : Tar) (n : ℕ) (c : Counters) : Type 0 where
  pub number : ℕ
  pub stored : stored_for t c ≡ some number
  pub higher : n ≤ number

abbrev pub NeverFalls : Type 0
NeverFalls = (c : Counters) (ps : List (List ℕ)) (t : Tar) (n : ℕ) → stored_for t c ≡ some n → NotLower t n (counters_after c ps)

-- no TAR and no count changes; and a counter changes only in an entry in use that has the TAR of one of the commands
abbrev pub OfNone : Tar → List (List ℕ) → Type 0
OfNone t ps = (u : List (List ℕ)) (p : List ℕ) (v : List (List ℕ)) → ps ≡ u ++ p ∷ v → t ≡ command_tar p → ⊥

pub record OthersStay (c : Counters) (ps : List (List ℕ)) : Type 0 where
  pub count : (counters_after c ps).count ≡ c.count
  pub entries : length (counters_after c ps).entries ≡ length c.entries
  pub tars : (i : ℕ) → (entry_at (counters_after c ps).entries i).tar ≡ (entry_at c.entries i).tar
  pub unused : (i : ℕ) → c.count ≤ i → entry_at (counters_after c ps).entries i ≡ entry_at c.entries i
  pub others : (i : ℕ) → OfNone (entry_at c.entries i).tar ps → entry_at (counters_after c ps).entries i ≡ entry_at c.entries i

-- "each leaves the table. Otherwise status 00, and with 10 and 11 the counter is stored."
pub record StoresOrLeaves (c : Counters) (p : List ℕ) : Type 0 where
  pub other_status : (s : ℕ) → (judge_counter c p).answer ≡ gives s → (s ≡ 0x00 → ⊥) → (judge_counter c p).counters ≡ c
  pub no_check : checks_counter (counter_bits p) ≡ false → (judge_counter c p).counters ≡ c
  pub stored : (judge_counter c p).answer ≡ gives 0x00 → checks_counter (counter_bits p) ≡ true
      → stored_for (command_tar p) (judge_counter c p).counters ≡ some (counter_number (command_counter p))

-- Once a command p was answered 00 with 10 or 11, no later command q of its TAR with 10 or 11 and a counter that is not higher is answered 00,
-- whatever comes in between: it is answered 02, or 04 if all ones are stored by then. So p itself is never answered 00 again.
abbrev pub NeverAgain : Type 0
NeverAgain =
    (c : Counters) (before between : List (List ℕ)) (p q : List ℕ)
    → (judge_counter (counters_after c before) p).answer ≡ gives 0x00 → checks_counter (counter_bits p) ≡ true
    → (x : Parsed) → parsing Command (ciphered_command q) q ≡ gives x → ciphered_command q ≡ false → checks_counter (counter_bits q) ≡ true
    → command_tar q ≡ command_tar p → counter_number (command_counter q) ≤ counter_number (command_counter p)
    → ((judge_counter (counters_after c (before ++ p ∷ between)) q).answer ≡ gives 0x02)
    ⊎ ((judge_counter (counters_after c (before ++ p ∷ between)) q).answer ≡ gives 0x04)

abbrev pub NeverTwice : Type 0
NeverTwice =
    (c : Counters) (before between : List (List ℕ)) (p : List ℕ)
    → (judge_counter (counters_after c before) p).answer ≡ gives 0x00 → checks_counter (counter_bits p) ≡ true
    → ((judge_counter (counters_after c (before ++ p ∷ between)) p).answer ≡ gives 0x02)
    ⊎ ((judge_counter (counters_after c (before ++ p ∷ between)) p).answer ≡ gives 0x04)

-- ---- examples, on both sides of each border
-- a table with one TAR, B0 00 10, and a command of sixteen octets for it, with SPI's first octet and a counter
abbrev one_stored : Cntr → Counters
one_stored n = record { count = 1; entries = set (replicate most_counters zero_entry) 0 (record { tar = (0xB0, 0x00, 0x10); cntr = n }) }

abbrev command_with : ℕ → Cntr → List ℕ
command_with spi n = 0x00 ∷ 0x0E ∷ 0x0D ∷ spi ∷ 0x00 ∷ 0x00 ∷ 0x00 ∷ 0xB0 ∷ 0x00 ∷ 0x10 ∷ counter_octets n (0x00 ∷ [])

-- SPI's first octet, what is stored, the command's counter; the status, and what is stored then
pub record CounterExample : Type 0 where
  pub spi : ℕ
  pub stored : Cntr
  pub counter : Cntr
  pub status : ℕ
  pub then : Cntr

abbrev judged_case : ℕ → Cntr → Cntr → ℕ → Cntr → CounterExample
judged_case x a b s d = record { spi = x; stored = a; counter = b; status = s; then = d }

abbrev five : Cntr
five = (0, 0, 0, 0, 5)

abbrev pub counter_examples : List CounterExample
counter_examples =
    -- 00 and 01: no check
    judged_case 0x00 five (0, 0, 0, 0, 4) 0x00 five
    ∷ judged_case 0x08 five (0, 0, 0, 0, 9) 0x00 five
    ∷ judged_case 0x00 (0xFF, 0xFF, 0xFF, 0xFF, 0xFF) five 0x00 (0xFF, 0xFF, 0xFF, 0xFF, 0xFF)
    -- 10: higher
    ∷ judged_case 0x10 five (0, 0, 0, 0, 4) 0x02 five
    ∷ judged_case 0x10 five five 0x02 five
    ∷ judged_case 0x10 five (0, 0, 0, 0, 6) 0x00 (0, 0, 0, 0, 6)
    ∷ judged_case 0x10 five (0, 0, 0, 0, 7) 0x00 (0, 0, 0, 0, 7)
    -- 11: exactly one higher
    ∷ judged_case 0x18 five (0, 0, 0, 0, 4) 0x02 five
    ∷ judged_case 0x18 five five 0x02 five
    ∷ judged_case 0x18 five (0, 0, 0, 0, 6) 0x00 (0, 0, 0, 0, 6)
    ∷ judged_case 0x18 five (0, 0, 0, 0, 7) 0x03 five
    -- the last counters
    ∷ judged_case 0x18 (0xFF, 0xFF, 0xFF, 0xFF, 0xFE) (0xFF, 0xFF, 0xFF, 0xFF, 0xFF) 0x00 (0xFF, 0xFF, 0xFF, 0xFF, 0xFF)
    ∷ judged_case 0x10 (0xFF, 0xFF, 0xFF, 0xFF, 0xFF) (0xFF, 0xFF, 0xFF, 0xFF, 0xFF) 0x04 (0xFF, 0xFF, 0xFF, 0xFF, 0xFF)
    ∷ judged_case 0x18 (0xFF, 0xFF, 0xFF, 0xFF, 0xFF) (0, 0, 0, 0, 0) 0x04 (0xFF, 0xFF, 0xFF, 0xFF, 0xFF)
    -- carries, and an octet at the low end that is higher
    ∷ judged_case 0x18 (0, 0, 0, 0, 0xFF) (0, 0, 0, 1, 0) 0x00 (0, 0, 0, 1, 0)
    ∷ judged_case 0x18 (0, 0, 0, 0xFF, 0xFF) (0, 0, 1, 0, 0) 0x00 (0, 0, 1, 0, 0)
    ∷ judged_case 0x18 (0, 0, 0xFF, 0xFF, 0xFF) (0, 1, 0, 0, 0) 0x00 (0, 1, 0, 0, 0)
    ∷ judged_case 0x18 (0, 0xFF, 0xFF, 0xFF, 0xFF) (1, 0, 0, 0, 0) 0x00 (1, 0, 0, 0, 0)
    ∷ judged_case 0x10 (1, 0, 0, 0, 0) (0, 0xFF, 0xFF, 0xFF, 0xFF) 0x02 (1, 0, 0, 0, 0)
    ∷ judged_case 0x10 (0, 0, 0, 1, 0) (0, 0, 0, 0, 0xFF) 0x02 (0, 0, 0, 1, 0)
    ∷ []

-- the claim about each
abbrev pub RightStatus : CounterExample → Type 0
RightStatus e = judge_counter (one_stored e.stored) (command_with e.spi e.counter) ≡ assessed (gives e.status) (one_stored e.then)

abbrev pub EveryStatus : List CounterExample → Type 0
EveryStatus [] = Unit {0}
EveryStatus (e ∷ es) = RightStatus e × EveryStatus es

-- ---- all of it
pub record CounterJudgement : Type 0 where
  pub judges_or_refuses : (c : Counters) (p : List ℕ) → JudgesOrRefuses c p
  pub each_status : EachStatus
  pub unknown_tar : UnknownTar
  pub as_numbers : CountersAsNumbers
  pub stores_or_leaves : (c : Counters) (p : List ℕ) → StoresOrLeaves c p
  pub never_falls : NeverFalls
  pub others_stay : (c : Counters) (ps : List (List ℕ)) → OthersStay c ps
  pub never_again : NeverAgain
  pub never_twice : NeverTwice
  pub examples : EveryStatus counter_examples
