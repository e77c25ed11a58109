-- Lists of numbers and of keys, as sets, and lists that are joined.
use Rattle.std.specs.Prelude.{ℕ, ◌+◌, Bool, false, cond, ◌||◌, List, [], ◌∷◌, ◌++◌, eqb}
use Rattle.types.specs.declared.Key.{Key}
use Rattle.slots.specs.Below.{all_below}
use Rattle.slots.specs.Slots.{same_key}

-- all, one behind the other
abbrev pub concat : List (List ℕ) → List ℕ
concat [] = []
concat (p ∷ ps) = p ++ concat ps

-- whether it is there
abbrev pub elem : ℕ → List ℕ → Bool
elem j [] = false
elem j (k ∷ l) = eqb j k || elem j l

abbrev pub elem_key : Key → List Key → Bool
elem_key X [] = false
elem_key X (Y ∷ l) = same_key X Y || elem_key X l

-- put in, where it is not there yet
abbrev pub add : ℕ → List ℕ → List ℕ
add k l = cond (elem k l) l (k ∷ l)

abbrev pub add_key : Key → List Key → List Key
add_key X l = cond (elem_key X l) l (X ∷ l)

-- all of 1 to t are there
abbrev pub complete : ℕ → List ℕ → Bool
complete t l = all_below t (λ i. elem (i + 1) l)

-- taken out
abbrev pub drop_key : Key → List Key → List Key
drop_key X [] = []
drop_key X (Y ∷ l) = cond (same_key X Y) l (Y ∷ drop_key X l)
