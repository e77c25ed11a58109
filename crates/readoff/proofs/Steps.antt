-- What the proofs of this crate search: one law for each return and each turn of a loop, over plain variables. A loop keeps that the places so far are
-- what is read off the log.
use Prim.Native.Nat.{ℕ, ◌+◌, ◌-◌, ◌≤◌, ◌<◌}
use mathlib.Core.Path.{◌≡◌, refl}
use mathlib.Core.Bool.{Bool, false}
use mathlib.Core.List.{List}
use native.Mathlib.Omega.{arith}
use lib.ListN.{length, set}
use borrow.Author.Rules.{rules}
use Rattle.types.specs.declared.Kind.{Kind}
use Rattle.types.specs.declared.Key.{Key}
use Rattle.types.specs.declared.Slot.{Slot}
use Rattle.types.specs.declared.Record.{Record}
use Rattle.arrival.specs.Message.{most_parts}
use Rattle.slots.specs.Slots.{most_slots, opened, free_slot}
use Rattle.plain.specs.Entries.{Entry, log_entry_at, entries_from}
use Rattle.plain.specs.Log.{first_entry, has_entry, of_slot, is_part}
use Rattle.plain.specs.ReadOff.{entry_size, slot_in_log, record_of}
use Rattle.logs.specs.Places.{found_at}
use Rattle.logs.specs.Laws.{found_some, found_none}
use Rattle.readoff.specs.Filling.{with_parts, Filled, fill_starts, fill_goes_on, fill_ends}

-- ---- a part's size
module _ (lent : List ℕ) (m slot number i : ℕ) (found : found_at lent m i ≡ first_entry (is_part slot number) (entries_from lent 0 (m - 0))) where
  pub size_there : (r : ℕ) → i < m → r ≡ (log_entry_at lent i).size → r ≡ entry_size (first_entry (is_part slot number) (entries_from lent 0 m))
  size_there r l e = rw (found_some (is_part slot number) lent m i found l) e

  pub size_none : m ≤ i → 0 ≡ entry_size (first_entry (is_part slot number) (entries_from lent 0 m))
  size_none l = rw (found_none (is_part slot number) lent m i found l)

-- ---- the parts of a slot, one after the other
module _ (log : List Entry) (slot : ℕ) (x : Slot) where
  -- y says of the series what x says, and of its first j parts what the log says
  pub record Parts (y : Slot) (j : ℕ) : Type 0 where
    pub rank : y.rank ≡ x.rank
    pub beats : y.beats ≡ x.beats
    pub key : y.key ≡ x.key
    pub total : y.total ≡ x.total
    pub sizes : Filled (λ j. entry_size (first_entry (is_part slot (j + 1)) log)) 0 most_parts j y.lengths
    pub marks : Filled (λ j. has_entry (is_part slot (j + 1)) log) false most_parts j y.held
    pub within : j ≤ most_parts

  pub parts_start : length x.lengths ≡ most_parts → length x.held ≡ most_parts → Parts x 0
  parts_start e f = record {
    rank = refl;
    beats = refl;
    key = refl;
    total = refl;
    sizes = fill_starts (λ j. entry_size (first_entry (is_part slot (j + 1)) log)) 0 most_parts x.lengths e;
    marks = fill_starts (λ j. has_entry (is_part slot (j + 1)) log) false most_parts x.held f;
    within = omega arith;
  }

  module _ (y : Slot) (j : ℕ) (w : Parts y j) where
    pub parts_end : most_parts ≤ j → y ≡ with_parts log slot x
    parts_end l =
        let e : j ≡ most_parts = omega (arith, w.within) in
        let s = rw e at w.sizes in
        let m = rw e at w.marks in
        let ls = fill_ends (λ j. entry_size (first_entry (is_part slot (j + 1)) log)) 0 most_parts y.lengths s in
        let hs = fill_ends (λ j. has_entry (is_part slot (j + 1)) log) false most_parts y.held m in
        λ d. record { rank = w.rank d; beats = w.beats d; key = w.key d; total = w.total d; lengths = ls d; held = hs d }

module _ (lent : List ℕ) (m slot : ℕ) (x y : Slot) (j : ℕ) (w : Parts (entries_from lent 0 m) slot x y j) where
  pub parts_go_on : (a : ℕ) (b : Bool) → j < most_parts → a ≡ entry_size (first_entry (is_part slot (j + 1)) (entries_from lent 0 m)) → b ≡ has_entry (is_part slot (j + 1)) (entries_from lent 0 m)
      → Parts (entries_from lent 0 m) slot x (record { rank = y.rank; beats = y.beats; key = y.key; total = y.total; lengths = set y.lengths j a; held = set y.held j b }) (j + 1)
  parts_go_on a b l e f = record {
    rank = w.rank;
    beats = w.beats;
    key = w.key;
    total = w.total;
    sizes = fill_goes_on (λ j. entry_size (first_entry (is_part slot (j + 1)) (entries_from lent 0 m))) 0 most_parts j y.lengths a w.sizes l e;
    marks = fill_goes_on (λ j. has_entry (is_part slot (j + 1)) (entries_from lent 0 m)) false most_parts j y.held b w.marks l f;
    within = omega arith;
  }

-- ---- a slot
module _ (lent : List ℕ) (m slot i : ℕ) (found : found_at lent m i ≡ first_entry (of_slot slot) (entries_from lent 0 (m - 0))) (y : Slot) where
  pub slot_there : (rank beats total : ℕ) (key : Key) (x : Slot) → i < m → key ≡ (log_entry_at lent i).key → total ≡ (log_entry_at lent i).total → x ≡ opened key total
      → rank ≡ (log_entry_at lent i).rank → beats ≡ (log_entry_at lent i).beats
      → y ≡ with_parts (entries_from lent 0 m) slot (record { rank = rank; beats = beats; key = x.key; total = x.total; lengths = x.lengths; held = x.held })
      → y ≡ slot_in_log (entries_from lent 0 m) slot
  unfolding slot_in_log
  slot_there rank beats total key x l k t o r b e = rw (found_some (of_slot slot) lent m i found l, ← k, ← t, ← r, ← b) (rw o at e)

  pub slot_none : m ≤ i → y ≡ free_slot → y ≡ slot_in_log (entries_from lent 0 m) slot
  unfolding slot_in_log
  slot_none l e = rw (found_none (of_slot slot) lent m i found l) e

-- ---- the slots, one after the other
pub record Slots (log : List Entry) (xs : List Slot) (i : ℕ) : Type 0 where
  pub read : Filled (slot_in_log log) free_slot most_slots i xs
  pub within : i ≤ most_slots

module _ (lent : List ℕ) (m : ℕ) (xs : List Slot) where
  pub slots_start : length xs ≡ most_slots → Slots (entries_from lent 0 m) xs 0
  slots_start e = record { read = fill_starts (slot_in_log (entries_from lent 0 m)) free_slot most_slots xs e; within = omega arith }

  module _ (i : ℕ) (w : Slots (entries_from lent 0 m) xs i) where
    pub slots_go_on : (y : Slot) → i < most_slots → y ≡ slot_in_log (entries_from lent 0 m) i → Slots (entries_from lent 0 m) (set xs i y) (i + 1)
    slots_go_on y l e = record { read = fill_goes_on (slot_in_log (entries_from lent 0 m)) free_slot most_slots i xs y w.read l e; within = omega arith }

    pub slots_end : (n : ℕ) (k : Kind) → most_slots ≤ i → ◌≡◌ {A = Record} (record { kind = k; count = n; slots = xs }) (record_of n k (entries_from lent 0 m))
    slots_end n k l =
        let e : i ≡ most_slots = omega (arith, w.within) in
        let f = rw e at w.read in
        rw (fill_ends (slot_in_log (entries_from lent 0 m)) free_slot most_slots xs f)

pub ruleset steps = (
  rules,
  size_there,
  size_none,
  parts_start,
  parts_go_on,
  parts_end,
  slot_there,
  slot_none,
  slots_start,
  slots_go_on,
  slots_end,
)
