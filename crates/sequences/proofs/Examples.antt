-- 01's examples are right with any number of slots: the call is not refused 1, since the record is fresh and the lengths are right; what reading
-- gives is computed; and a part opens a series in the first slot, since all are free.
use Prim.Native.Nat.{ℕ, zero, suc}
use mathlib.Core.Path.{◌≡◌, refl, ◌∙◌}
use mathlib.Core.Bool.{Bool, false}
use mathlib.Core.List.{List, [], ◌∷◌}
use mathlib.Core.Option.{none, some}
use native.Mathlib.Omega.{arith}
use lib.ListN.{take, replicate}
use Rattle.types.specs.declared.Kind.TheVariants.{Command}
use Rattle.types.specs.declared.Slot.{Slot}
use Rattle.joined.specs.Fronts.{packet_in}
use Rattle.header.specs.Header.{elements_after, summary}
use Rattle.arrival.specs.Message.{judged, read_message}
use Rattle.arrival.specs.Page.{read_page}
use Rattle.slots.specs.Slots.{most_slots, free_slot, is_free, bears, find, find_in, aged, to_front, fresh_record}
use Rattle.formed.specs.Laws.{fresh_formed}
use Rattle.cells.specs.Cells.{joined, joined_octets}
use Rattle.series.specs.Taking.{state, taken, step, take_part}
use Rattle.series.specs.Calls.{octets_of, read}
use Rattle.sequences.specs.Runs.{Slots}
use Rattle.sequences.specs.Examples.{Example, examples, Every, Right}
use Rattle.sequences.proofs.Calls.{is_page, taking}

-- a search of free slots finds nothing, or the first
none_there : (p : Slot → Bool) → p free_slot ≡ false → (n m : ℕ) → find p (take n (replicate m free_slot)) ≡ none
unfolding find
none_there p e zero m = refl
none_there p e (suc n) zero = refl
none_there p e (suc n) (suc m) = rw (e, none_there p e n m)

first_there : (n : ℕ) → Slots n → find_in n is_free (replicate most_slots free_slot) ≡ some 0
unfolding find
first_there zero good = absurd (omega (arith, good.some))
first_there (suc n) good = refl

module _ (n : ℕ) (good : Slots n) where
  -- the call comes to what its reading says
  abbrev Reads : Example → Type 0
  Reads e =
      (cells output : List ℕ) → taken n (state (fresh_record n Command) cells output) (is_page e.input) (octets_of e.input) (read Command e.input)
      ≡ e.outcome n cells output

  -- with the right lengths it is not refused 1
  pub all_right : (es : List Example) → Every Reads es → Every (Right n) es
  all_right [] h = tt
  all_right (e ∷ es) (h, hs) = (
    (λ cells output c o.
        taking n (state (fresh_record n Command) cells output) (record { number = refl; formed = fresh_formed n Command good.some good.most; size = c }) o e.input
        ∙ h cells output),
    all_right es hs,
  )

  pub examples_right : Every (Right n) examples
  unfolding elements_after summary judged read_message read_page aged to_front joined joined_octets packet_in step take_part
  examples_right =
      all_right examples (
        (λ c o. refl),
        (
          (λ c o. refl),
          (
            (λ c o. refl),
            (
              (λ c o. refl),
              (
                (λ c o. refl),
                (
                  (λ c o. refl),
                  (
                    (λ c o. refl),
                    (
                      (λ c o. rw (none_there (bears _) refl n most_slots, first_there n good)),
                      (
                        (λ c o. refl),
                        (
                          (λ c o. refl),
                          ((λ c o. rw (none_there (bears _) refl n most_slots, first_there n good)), ((λ c o. refl), ((λ c o. refl), tt))),
                        ),
                      ),
                    ),
                  ),
                ),
              ),
            ),
          ),
        ),
      )
