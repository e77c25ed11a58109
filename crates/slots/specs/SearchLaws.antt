-- A search that goes over the first slots by index, as a loop does, and what it says of where a series is or goes. Whoever reads the slots
-- in another form, and knows of each what it is, searches by the same laws.
use Rattle.std.specs.declared.option.Option as option
use Rattle.std.specs.declared.option.Option.TheVariants.{Some, None}
use Prim.Native.Nat.{ℕ, zero, suc, ◌+◌, ◌≤◌, ◌<◌}
use Rattle.std.specs.Prelude.{◌≡◌, Bool, true, false, length, take}
use Rattle.std.proofs.Math.Path.{refl}
use Rattle.std.proofs.Common.{sym, ap, ◌∙◌, arith, length-take-le, below_more}
use mathlib.Core.List.{List, [], ◌∷◌}
use Rattle.std.proofs.Math.Option.{none, some}
use Rattle.types.specs.declared.Key.{Key}
use Rattle.types.specs.declared.Slot.{Slot}
use Rattle.slots.specs.Slots.{most_slots, slot_at, bears, is_free, find, find_in, is_least_recent, slot_or, least_recent}
use Rattle.slots.specs.FrontLaws.{slot_in_lem}
use Rattle.slots.specs.Found.{told_found, new_seat, seat_of, found_inside}
use Rattle.slots.specs.declared.find.Seat.{Seat}

module _ (p : Slot → Bool) where
  -- the first slot that passes is the one found
  pub find_at : (xs : List Slot) (i : ℕ) → i < length xs → ((k : ℕ) → k < i → p (slot_at xs k) ≡ false) → p (slot_at xs i) ≡ true
      → find p xs ≡ some i
  unfolding find
  find_at [] i l h e = absurd (omega arith)
  find_at (x ∷ xs) zero l h e = rw e
  find_at (x ∷ xs) (suc i) l h e =
      rw (h 0 (omega arith), find_at xs i (omega arith) (λ k m. h (suc k) (omega arith)) e)

  -- where none passes, none is
  pub find_none : (xs : List Slot) → ((k : ℕ) → k < length xs → p (slot_at xs k) ≡ false) → find p xs ≡ none
  unfolding find
  find_none [] h = refl
  find_none (x ∷ xs) h = rw (h 0 (omega arith), find_none xs (λ k m. h (suc k) (omega arith)))

  -- of the first n slots, none before i passes
  pub record Passed (n : ℕ) (xs : List Slot) (i : ℕ) : Type 0 where
    pub long : n ≤ length xs
    pub within : i ≤ n
    pub none_yet : (k : ℕ) → k < i → p (slot_at xs k) ≡ false

-- ---- a search, of the first m slots
module _ (p : Slot → Bool) (m : ℕ) (xs : List Slot) where
  pub search_starts : length xs ≡ most_slots → m ≤ most_slots → Passed p m xs 0
  search_starts e l = record { long = omega arith; within = omega arith; none_yet = λ k l. absurd (omega arith) }

  module _ (i : ℕ) (past : Passed p m xs i) where
    pub search_goes_on : (b : Bool) → i < m → b ≡ p (slot_at xs i) → b ≡ false → Passed p m xs (i + 1)
    search_goes_on b l e f =
        record { long = past.long; within = omega arith; none_yet = below_more _ i past.none_yet (sym e ∙ f) }

    size : length (take m xs) ≡ m
    size = length-take-le m xs past.long

    none_in : (k : ℕ) → k < m → k < i → p (slot_at (take m xs) k) ≡ false
    none_in k l h = ap p (slot_in_lem m xs k l) ∙ past.none_yet k h

    pub search_finds : (n : ℕ) (b : Bool) → m ≡ n → i < m → b ≡ p (slot_at xs i) → b ≡ true → some i ≡ find_in n p xs
    search_finds n b is l e t =
        rw (← is) (sym (find_at p (take m xs) i (omega (arith, size)) (λ k h. none_in k (omega arith) h) (ap p (slot_in_lem m xs i l) ∙ sym e ∙ t)))

    pub search_ends : (n : ℕ) → m ≡ n → m ≤ i → none ≡ find_in n p xs
    search_ends n is l = rw (← is) (sym (find_none p (take m xs) (λ k h. none_in k (omega (arith, size)) (omega (arith, size)))))

-- ---- what a search of a rank says of the least recent
module _ (m n : ℕ) (xs : List Slot) (f : option.Option ℕ) (told : told_found f ≡ find_in n (is_least_recent m) xs) (is : m ≡ n) where
  least : slot_or 0 (told_found f) ≡ least_recent n xs
  least = ap (slot_or 0) told ∙ ap (λ q. slot_or 0 (find_in n (is_least_recent q) xs)) is

  pub least_found : (i : ℕ) → f ≡ Some i → i ≡ least_recent n xs
  least_found i e = rw (← least, e)

  pub least_none : f ≡ None → 0 ≡ least_recent n xs
  least_none e = rw (← least, e)

-- where a new series goes
module _ (n : ℕ) (xs : List Slot) (f : option.Option ℕ) (told : told_found f ≡ find_in n is_free xs) where
  pub seat_free : (i : ℕ) → f ≡ Some i → record { slot = i; held = false; displaced = false } ≡ new_seat n xs
  seat_free i e = rw (← told, e)

  pub seat_least : (m : ℕ) → f ≡ None → m ≡ least_recent n xs → record { slot = m; held = false; displaced = true } ≡ new_seat n xs
  seat_least m e l = rw (← told, e, l)

module _ (n : ℕ) (xs : List Slot) (key : Key) (f : option.Option ℕ) (told : told_found f ≡ find_in n (bears key) xs) where
  pub seat_held : (i : ℕ) → f ≡ Some i → record { slot = i; held = true; displaced = false } ≡ seat_of n xs key
  seat_held i e = rw (← told, e)

  pub seat_new : (o : Seat) → f ≡ None → o ≡ new_seat n xs → o ≡ seat_of n xs key
  seat_new o e h = rw (← told, e) h

pub ruleset search_laws = (
  search_starts,
  search_goes_on,
  search_finds,
  search_ends,
  least_found,
  least_none,
  seat_free,
  seat_least,
  seat_held,
  seat_new,
  found_inside,
)
