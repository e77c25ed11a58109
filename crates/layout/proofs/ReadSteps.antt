-- What the proofs of reading and searching a state cite.
use Rattle.std.specs.declared.option.Option as option
use Rattle.std.specs.declared.option.Option.TheVariants.{Some, None}
use Rattle.std.specs.Prelude.{MatchOption}
use Prim.Native.Nat.{ℕ, ◌+◌, ◌≤◌, ◌<◌}
use mathlib.Core.Path.{◌≡◌, refl}
use mathlib.Core.Bool.{Bool, true, false, not, ◌&&◌}
use mathlib.Core.List.{List}
use native.Mathlib.Omega.{arith}
use lib.ListN.{length, get_or, take, drop}
use lib.Dec.{eqb}
use borrow.Author.Rules.{rules}
use borrow.Author.Tests.{eq-eqb, ne_eqb, lt-ltb, le-ltb}
use Rattle.types.specs.declared.Kind.TheVariants.{Command, Response}
use Rattle.types.specs.declared.Key.{Key}
use Rattle.types.specs.declared.Slot.{Slot}
use Rattle.slots.specs.Slots.{most_slots, slot_at, same_key, bears, is_least_recent, find_in, slots_in}
use Rattle.slots.specs.Found.{told_found}
use Rattle.slots.specs.BelowLaws.{fault_from, fault_more, fault_through}
use Rattle.slots.specs.SearchLaws.{search_finds, search_ends, search_laws}
use Rattle.layout.specs.Layout.{state_record, blank_at}
use Rattle.layout.specs.Laws.{slots_long, rank_read, beats_read, total_read, key_read, length_read, length_none, mark_read, mark_none, mark_number, mark_number_none, lengths_read, lengths_none}

-- ---- the record
module _ (s : List ℕ) where
  pub kind_command : get_or s 1 0 ≡ 0 → Command ≡ (state_record s).kind
  unfolding state_record
  kind_command e = rw (eq-eqb (get_or s 1 0) 0 e)

  pub kind_response : (get_or s 1 0 ≡ 0 → ⊥) → Response ≡ (state_record s).kind
  unfolding state_record
  kind_response e = rw (ne_eqb (get_or s 1 0) 0 e)

  pub count_read : get_or s 2 0 ≡ (state_record s).count
  unfolding state_record
  count_read = refl

  module _ (m n : ℕ) (e : m ≡ (state_record s).count) (f : n ≡ m) where
    pub slots_most : most_slots < n → most_slots ≡ slots_in (state_record s)
    slots_most l = rw (← e, ← f, lt-ltb most_slots n l)

    pub slots_own : n ≤ most_slots → n ≡ slots_in (state_record s)
    slots_own l = rw (← e, ← f, le-ltb most_slots n l)

-- ---- a blank slot
pub blank_wrong : (x : List ℕ) (p q : ℕ) → q ≡ get_or x (p + 1) 0 → not (eqb q 0) ≡ not (blank_at x p)
blank_wrong x p q e = rw e

-- ---- a part of a part
pub part_told : (s u r : List ℕ) (a n : ℕ) → u ≡ drop a s → r ≡ take n u → r ≡ take n (drop a s)
part_told s u r a n e f = rw (f, e)

-- ---- searching
pub bears_told : (x : Slot) (key k : Key) (r : ℕ) (b : Bool) → r ≡ x.rank → k ≡ x.key → b ≡ same_key k key → not (eqb r 0) && b ≡ bears key x
bears_told x key k r b e f g = rw (e, g, f)

pub rank_told : (x : Slot) (q r : ℕ) → q ≡ x.rank → eqb q r ≡ is_least_recent r x
rank_told x q r e = rw e

-- what `find` over the numbers of the slots says of the search, if each number is asked whether its slot passes
module _ (p : Slot → Bool) (m n : ℕ) (xs : List Slot) (long : length xs ≡ most_slots) (low : m ≤ most_slots) (is : m ≡ n) where
  pub found_in : (r : option.Option ℕ)
      → MatchOption r ((k : ℕ) → 0 ≤ k → k < m → p (slot_at xs k) ≡ false) (λ i. (0 ≤ i) × (i < m) × (p (slot_at xs i) ≡ true) × ((k : ℕ) → 0 ≤ k → k < i → p (slot_at xs k) ≡ false))
      → told_found r ≡ find_in n p xs
  found_in (Some i) h =
      search_finds p m xs i (record { long = omega arith; within = omega (arith, h.1); none_yet = λ k l. h.3 k (omega arith) l }) n _ is h.1 refl h.2
  found_in None h =
      search_ends p m xs m (record { long = omega arith; within = omega arith; none_yet = λ k l. h k (omega arith) l }) n is (omega arith)

pub ruleset read_steps = (
  rules,
  rank_read,
  beats_read,
  total_read,
  key_read,
  length_read,
  length_none,
  mark_read,
  mark_none,
  mark_number,
  mark_number_none,
  fault_from,
  fault_more,
  fault_through,
  blank_wrong,
  lengths_read,
  lengths_none,
  kind_command,
  kind_response,
  count_read,
  slots_most,
  slots_own,
  part_told,
)

pub ruleset find_steps = (
  rules,
  search_laws,
  slots_long,
  bears_told,
  rank_told,
)
