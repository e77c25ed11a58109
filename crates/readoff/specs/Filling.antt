-- What reading a record off a log is made of: the parts of a slot that walks found, and an array of which the first places are filled.
use Rattle.std.specs.Prelude.{ℕ, ◌+◌, ◌<◌, ◌≡◌, List, length, get_or, set}
use Rattle.std.proofs.Common.{sym, subst, ◌∙◌, arith, length-set, get_or-set_same, get_or-set_other, ext_get_or}
use Rattle.octets.specs.Tests as tests
use Rattle.octets.specs.Tests.{same?}
use Rattle.types.specs.declared.Slot.{Slot}
use Rattle.arrival.specs.Message.{most_parts}
use Rattle.plain.specs.Entries.{Entry}
use Rattle.plain.specs.Log.{first_entry, has_entry, is_part}
use Rattle.plain.specs.ReadOff.{each, each_long, each_at, entry_size}

-- of `slot_from`: the series as x says it, with the parts of slot i that are in the log
abbrev pub with_parts : List Entry → ℕ → Slot → Slot
with_parts log i x = record {
  rank = x.rank;
  beats = x.beats;
  key = x.key;
  total = x.total;
  lengths = each (λ j. entry_size (first_entry (is_part i (j + 1)) log)) most_parts;
  held = each (λ j. has_entry (is_part i (j + 1)) log) most_parts;
}

-- ---- an array, filled place by place
module _ {A : Type 0} (f : ℕ → A) (d : A) (n : ℕ) where
  -- it has n places, and at each of the first i is what f says
  pub record Filled (i : ℕ) (xs : List A) : Type 0 where
    pub long : length xs ≡ n
    pub filled : (j : ℕ) → j < i → get_or xs j d ≡ f j

  pub fill_starts : (xs : List A) → length xs ≡ n → Filled 0 xs
  fill_starts xs e = record { long = e; filled = λ j l. absurd (omega arith) }

  pub fill_goes_on : (i : ℕ) (xs : List A) (a : A) → Filled i xs → i < n → a ≡ f i → Filled (i + 1) (set xs i a)
  fill_goes_on i xs a w l e = record { long = length-set xs i a ∙ w.long; filled = λ j b. go j b (same? j i) }
    where
      go : (j : ℕ) → j < i + 1 → tests.Same j i → get_or (set xs i a) j d ≡ f j
      go j b (tests.same t p) =
          subst (λ (k : ℕ). get_or (set xs i a) k d ≡ f k) (sym p) (get_or-set_same xs i a d (omega (arith, w.long)) ∙ e)
      go j b (tests.other t p) = get_or-set_other xs i j a d p ∙ w.filled j (omega arith)

  pub fill_ends : (xs : List A) → Filled n xs → xs ≡ each f n
  fill_ends xs w =
      ext_get_or d xs (each f n) (w.long ∙ sym (each_long f n))
      (λ i b. let l : i < n = omega (arith, w.long) in w.filled i l ∙ sym (each_at f d n i l))
