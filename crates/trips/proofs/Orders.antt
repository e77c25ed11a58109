-- The order of elements does not matter, except among the concatenation elements: a test of any does not see it, for two neighbours, and so for any
-- order by steps; and what the last concatenation element says is found among the concatenation elements alone.
use mathlib.Core.Path.{◌≡◌, refl, ap, ◌∙◌}
use mathlib.Core.Bool.{Bool, true, false, cond, ◌||◌}
use mathlib.Core.List.{List, [], ◌∷◌, ◌++◌}
use Rattle.header.specs.declared.Concatenation.{Concatenation}
use Rattle.header.specs.Header.{Item, has, is_concatenation, wrong_length, concatenation_in, any_of, last_concatenation, no_concatenation, summary}
use Rattle.arrival.specs.Message.{read_message}
use Rattle.trips.specs.Orders.{Reordered, as_they_are, swapped, and_then, concatenations, OrderFree}

-- ---- whether there is any
module _ (p : Item → Bool) where
  any_swapped : (front : List Item) (d e : Item) (rest : List Item) → any_of p (front ++ (d ∷ e ∷ rest)) ≡ any_of p (front ++ (e ∷ d ∷ rest))
  any_swapped [] d e rest = go (p d) (p e)
    where
      go : (a b : Bool) → a || (b || any_of p rest) ≡ b || (a || any_of p rest)
      go true true = refl
      go true false = refl
      go false b = refl
  any_swapped (x ∷ front) d e rest = ap (λ t. p x || t) (any_swapped front d e rest)

  any_reordered : (es fs : List Item) → Reordered es fs → any_of p es ≡ any_of p fs
  any_reordered es fs as_they_are = refl
  any_reordered es fs (swapped front d e rest) = any_swapped front d e rest
  any_reordered es gs (and_then {fs = fs} r s) = any_reordered es fs r ∙ any_reordered fs gs s

-- ---- the last concatenation element is the last of the concatenation elements
last_among : (es : List Item) (c : Concatenation) → last_concatenation c es ≡ last_concatenation c (concatenations es)
last_among [] c = refl
last_among (e ∷ es) c = go (is_concatenation e) refl (last_among es)
  where
    go : (b : Bool) → is_concatenation e ≡ b → ((c : Concatenation) → last_concatenation c es ≡ last_concatenation c (concatenations es))
        → last_concatenation (cond b (concatenation_in e) c) es ≡ last_concatenation c (cond b (e ∷ concatenations es) (concatenations es))
    go true q more =
        let chosen : concatenation_in e ≡ cond (is_concatenation e) (concatenation_in e) c = rw q in
        more (concatenation_in e) ∙ ap (λ x. last_concatenation x (concatenations es)) chosen
    go false q more = more c

-- ---- what they come to
same_summary : (es fs : List Item) → Reordered es fs → concatenations es ≡ concatenations fs → summary es ≡ summary fs
unfolding summary
same_summary es fs r c =
    rw (any_reordered wrong_length es fs r, any_reordered (has 0x70) es fs r, any_reordered (has 0x71) es fs r, last_among es no_concatenation, last_among fs no_concatenation, c)

pub order_free : OrderFree
unfolding read_message
order_free k sender ud vd es fs e f r c u l = rw (e, f, u, l, same_summary es fs r c)
