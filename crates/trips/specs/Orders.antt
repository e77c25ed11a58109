-- "The order of elements does not matter" (01, "User data header"; 000, 4.3), except among the concatenation elements, of which the last counts (02,
-- [2]): user data whose elements stand in another order that keeps the concatenation elements in theirs is read as the same.
use Rattle.std.specs.Prelude.{ℕ, List, [], ◌∷◌, ◌++◌, cond, ◌≡◌, length}
use Rattle.std.proofs.Math.Option.{some}
use Rattle.types.specs.declared.Kind.{Kind}
use Rattle.header.specs.Header.{Item, elements, is_concatenation}
use Rattle.arrival.specs.Message.{udhl, header_octets, read_message}

-- elements in another order: two neighbours change places, as often as one likes
pub data Reordered : List Item → List Item → Type 0 where
  as_they_are : {es : List Item} → Reordered es es
  swapped : (front : List Item) (d e : Item) (rest : List Item) → Reordered (front ++ (d ∷ e ∷ rest)) (front ++ (e ∷ d ∷ rest))
  and_then : {es fs gs : List Item} → Reordered es fs → Reordered fs gs → Reordered es gs

-- the concatenation elements among them, in their order
abbrev pub concatenations : List Item → List Item
concatenations [] = []
concatenations (e ∷ es) = cond (is_concatenation e) (e ∷ concatenations es) (concatenations es)

-- user data of the same lengths, whose headers hold the same elements in some order, the concatenation elements in the same, comes to the same:
-- answer, key, total, number, start
abbrev pub OrderFree : Type 0
OrderFree = (k : Kind) (sender : ℕ) (ud vd : List ℕ) (es fs : List Item)
    → elements (header_octets ud) ≡ some es → elements (header_octets vd) ≡ some fs → Reordered es fs → concatenations es ≡ concatenations fs
    → udhl ud ≡ udhl vd → length ud ≡ length vd → read_message k sender ud ≡ read_message k sender vd
