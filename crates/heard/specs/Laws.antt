-- What crosses: an array of fields is its octets, and the places of parts are where the parts are.
use Rattle.std.specs.Prelude.{ℕ, zero, suc, ◌+◌, ◌-◌, ◌≡◌, refl, Bool, true, false, List, [], ◌∷◌, length, get_or, take, drop, ltb}
use Rattle.std.proofs.Common.{ap, ◌∙◌, drop-drop}
use Rattle.std.proofs.Math.Seq.{take-length}
use Rattle.types.specs.declared.Kind.{Kind}
use Rattle.packet.specs.Packets.{before, least, chl, well_formed, fields_of, against_check, shown_check, shown_data, shown_opaque}
use Rattle.heard.specs.Given.{tar_given, clear_given, response_given, command_given}
use Rattle.heard.specs.Heard.{heard_places}

-- ---- arrays of fields
firsts : (from n : ℕ) → List ℕ → List ℕ
firsts i zero o = []
firsts i (suc n) o = get_or o i 0 ∷ firsts (suc i) n o

firsts_next : (i n x : ℕ) (o : List ℕ) → firsts (suc i) n (x ∷ o) ≡ firsts i n o
unfolding firsts
firsts_next i zero x o = refl
firsts_next i (suc n) x o = ap (λ (l : List ℕ). get_or o i 0 ∷ l) (firsts_next (suc i) n x o)

firsts_all : (o : List ℕ) → firsts 0 (length o) o ≡ o
unfolding firsts
firsts_all [] = refl
firsts_all (x ∷ o) = ap (λ (l : List ℕ). x ∷ l) (firsts_next 0 (length o) x o ∙ firsts_all o)

-- an array of as many octets as the fields have is these fields
pub tar_all : (o : List ℕ) → length o ≡ 3 → tar_given o ≡ o
unfolding firsts
tar_all o e = rw e at (firsts_all o)

pub clear_all : (o : List ℕ) → length o ≡ 7 → clear_given o ≡ o
unfolding firsts
clear_all o e = rw e at (firsts_all o)

pub response_all : (o : List ℕ) → length o ≡ 10 → response_given o ≡ o
unfolding firsts
response_all o e = rw e at (firsts_all o)

pub command_all : (o : List ℕ) → length o ≡ 13 → command_given o ≡ o
unfolding firsts
command_all o e = rw e at (firsts_all o)

-- ---- the places of parts
-- the octets of which the i-th pair of numbers says place and number
abbrev pub part_at : List ℕ → ℕ → List ℕ → List ℕ
part_at l i p = take (get_or l (i + 1) 0) (drop (get_or l i 0) p)

-- Octets at the places that are heard are the parts that the library shows; of a packet that is refused there are none.
pub record ShownThere (k : Kind) (c : Bool) (p : List ℕ) : Type 0 where
  pub check : part_at (heard_places k c p).1 0 p ≡ shown_check k c p
  pub secured : part_at (heard_places k c p).1 2 p ≡ shown_data k c p
  pub opaque : part_at (heard_places k c p).1 4 p ≡ shown_opaque k c p

whole_from : (a b : ℕ) (p : List ℕ) → take (length (drop a (drop b p))) (drop (b + a) p) ≡ drop a (drop b p)
whole_from a b p = rw (← drop-drop a b p) (take-length (drop a (drop b p)))

take_own : (n : ℕ) (o : List ℕ) → take (length (take n o)) o ≡ take n o
take_own zero o = refl
take_own (suc n) [] = refl
take_own (suc n) (x ∷ o) = ap (λ (l : List ℕ). x ∷ l) (take_own n o)

first_from : (n a b : ℕ) (p : List ℕ) → take (length (take n (drop a (drop b p)))) (drop (b + a) p) ≡ take n (drop a (drop b p))
first_from n a b p = rw (← drop-drop a b p) (take_own n (drop a (drop b p)))

pub shown_there : (k : Kind) (c : Bool) (p : List ℕ) → ShownThere k c p
unfolding shown_check shown_data shown_opaque
shown_there k c p = go (well_formed k p) (ltb 2142 (length p)) (against_check k (fields_of k c p)) c refl refl refl refl
  where
    go : (w l a b : Bool) → well_formed k p ≡ w → ltb 2142 (length p) ≡ l → against_check k (fields_of k c p) ≡ a → c ≡ b → ShownThere k c p
    go false l a b e f g h = record { check = rw e; secured = rw e; opaque = rw e }
    go true true a b e f g h = record { check = rw (e, f); secured = rw (e, f); opaque = rw (e, f) }
    go true false true b e f g h = record { check = rw (e, f, g); secured = rw (e, f, g); opaque = rw (e, f, g) }
    go true false false true e f g h =
        record { check = rw (e, f, g, h); secured = rw (e, f, g, h); opaque = rw (e, f, g, h) (whole_from (before k) 3 p) }
    go true false false false e f g h =
        record { check = rw (e, f, g, h) (first_from (chl p - least k) (least k) 3 p); secured = rw (e, f, g, h) (whole_from (chl p) 3 p); opaque = rw (e, f, g, h) }
