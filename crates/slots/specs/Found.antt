-- What a search of the slots answers, in the words of the rules, where a series is or goes, and what owning the slots tells.
use Rattle.std.specs.declared.option.Option as option
use Rattle.std.specs.declared.option.Option.TheVariants.{Some, None}
use Rattle.std.specs.Prelude.{ℕ, ◌≤◌, ◌<◌, ◌≡◌, refl, List, map, true, false, cond, ◌||◌, length, eqb, ltb}
use Rattle.std.proofs.Common.{sym, ◌∙◌, arith, le-ltb, ne_eqb}
use Rattle.std.proofs.Math.Option.{Option, none, some}
use Rattle.std.proofs.lemmas.List.{length-map}
use Rattle.octets.specs.Tests.{clash}
use Rattle.arrival.specs.Message.{most_parts}
use Rattle.types.specs.declared.Key.{Key}
use Rattle.types.specs.declared.Slot.{Slot}
use Rattle.slots.specs.declared.find.Seat.{Seat}
use Rattle.slots.specs.Slots.{with_part, bears, is_free, find_in, is_least_recent, slot_or, least_recent}
use Rattle.slots.specs.FrontLaws.{FoundIn, hit_in, miss_in, find_in?}

abbrev pub told_found : option.Option ℕ → Option ℕ
told_found (Some i) = some i
told_found None = none

-- an index found is one of n
abbrev pub Inside : ℕ → option.Option ℕ → Type 0
Inside n (Some i) = i < n
Inside n None = Unit

-- "A new key takes the lowest free slot; with none free it displaces the least recent series."
abbrev pub new_seat_in : ℕ → List Slot → Option ℕ → Seat
new_seat_in n xs (some i) = record { slot = i; held = false; displaced = false }
new_seat_in n xs none = record { slot = least_recent n xs; held = false; displaced = true }

abbrev pub new_seat : ℕ → List Slot → Seat
new_seat n xs = new_seat_in n xs (find_in n is_free xs)

-- the slot that bears the key, or else the one that a new series takes
abbrev pub seat_in : ℕ → List Slot → Option ℕ → Seat
seat_in n xs (some i) = record { slot = i; held = true; displaced = false }
seat_in n xs none = new_seat n xs

abbrev pub seat_of : ℕ → List Slot → Key → Seat
seat_of n xs key = seat_in n xs (find_in n (bears key) xs)

-- a slot with part `number`, on every input: where no part has that number, the slot as it is
abbrev pub with_part_in : Slot → ℕ → ℕ → Slot
with_part_in x number n = cond (eqb number 0 || ltb most_parts number) x (with_part x number n)

pub with_part_in_lem : (x : Slot) (number n : ℕ) → 0 < number → number ≤ most_parts → with_part_in x number n ≡ with_part x number n
with_part_in_lem x number n l m = rw (ne_eqb number 0 (λ e. omega arith), le-ltb most_parts number m)

pub found_inside : (n : ℕ) (f : option.Option ℕ) (i : ℕ) → Inside n f → f ≡ Some i → i < n
found_inside n f i h e = rw e at h

-- what owning an array of structs tells of its length
pub length_of_map : (A B : Type 0) (f : A → B) (l : List A) (n : ℕ) → length (map f l) ≡ n → length l ≡ n
length_of_map A B f l n e = sym (length-map l f) ∙ e

-- the seat is one of the n slots
pub seat_inside : (n : ℕ) (xs : List Slot) (key : Key) → 1 ≤ n → n ≤ length xs → (seat_of n xs key).slot < n
seat_inside n xs key low enough = held_in (find_in n (bears key) xs) (find_in? n (bears key) xs enough)
  where
    least_in : (q : Option ℕ) → FoundIn n (is_least_recent n) xs q → slot_or 0 q < n
    least_in q (hit_in i l e f) = l
    least_in q (miss_in f) = low

    new_in : (q : Option ℕ) → FoundIn n is_free xs q → (new_seat_in n xs q).slot < n
    new_in q (hit_in i l e f) = l
    new_in q (miss_in f) = least_in (find_in n (is_least_recent n) xs) (find_in? n (is_least_recent n) xs enough)

    held_in : (q : Option ℕ) → FoundIn n (bears key) xs q → (seat_in n xs q).slot < n
    held_in q (hit_in i l e f) = l
    held_in q (miss_in f) = new_in (find_in n is_free xs) (find_in? n is_free xs enough)

-- what a seat tells of the search: the slot found, or that none was
module _ (n : ℕ) (xs : List Slot) (key : Key) (o : Seat) (is : o ≡ seat_of n xs key) where
  new_not_held : (q : Option ℕ) → (new_seat_in n xs q).held ≡ false
  new_not_held none = refl
  new_not_held (some i) = refl

  pub seat_found : o.held ≡ true → find_in n (bears key) xs ≡ some o.slot
  seat_found h = go (find_in n (bears key) xs) refl
    where
      go : (q : Option ℕ) → find_in n (bears key) xs ≡ q → q ≡ some o.slot
      go (some i) e = let s : o.slot ≡ i = rw (is, e) in rw s
      go none e = let f : o.held ≡ false = rw (is, e) (new_not_held (find_in n is_free xs)) in absurd (clash o.held h f)

  pub seat_not_found : o.held ≡ false → (find_in n (bears key) xs ≡ none) × (o ≡ new_seat n xs)
  seat_not_found h = go (find_in n (bears key) xs) refl
    where
      go : (q : Option ℕ) → find_in n (bears key) xs ≡ q → (q ≡ none) × (o ≡ new_seat n xs)
      go (some i) e = let t : o.held ≡ true = rw (is, e) in absurd (clash o.held t h)
      go none e = (refl, rw (is, e))
