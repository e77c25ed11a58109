-- Laws that the proofs of the header's functions cite: one for each return or need, over plain variables.
use Prim.Native.Nat.{ℕ, ◌+◌, ◌≤◌, ◌<◌}
use mathlib.Core.Path.{◌≡◌, refl, sym, ◌∙◌}
use mathlib.Core.Bool.{Bool, true, false, cond, ◌&&◌, ◌||◌}
use mathlib.Core.List.{List, [], ◌∷◌}
use native.Mathlib.Omega.{arith}
use native.Mathlib.Nat.{add-zero}
use lib.ListN.{length, get_or, take}
use lib.Seq.{length-take-le}
use lib.Dec.{eqb, ltb}
use mir.Syntax.{w8, w16}
use mir.Val.{Fits}
use borrow.Author.Tests.{ltb-true, eq-eqb, ne_eqb}
use Rattle.types.specs.declared.Pair.{Pair}
use Rattle.octets.specs.Octets.{pair_of, after_put}
use Rattle.octets.specs.Laws.{put_fits}
use Rattle.types.specs.declared.Kind.{Kind}
use Rattle.arrival.specs.Keys.{reference_fits}
use Rattle.split.specs.Splitting.{identifier_element, header_of}
use Rattle.split.specs.Laws.{identifier_length}
use Rattle.octets.specs.Tests.{by_test}
use Rattle.split.specs.Within.{HeaderPut}

-- ---- UDHL
module _ (element number : ℕ) where
  pub udhl_first : number ≡ 1 → element + 2 ≡ element + cond (eqb number 1) 2 0
  udhl_first e = rw (eq-eqb number 1 e)

  pub udhl_later : (number ≡ 1 → ⊥) → element ≡ element + cond (eqb number 1) 2 0
  udhl_later n = rw (ne_eqb number 1 n) (sym (add-zero element))

-- ---- a header is put
pub header_put : (h d d' : List ℕ) (n : ℕ) → n ≡ length h → length h ≤ length d → d' ≡ after_put d 0 h → HeaderPut h n d d'
header_put h d d' n e l g = record { long = e; stands = g ∙ put_fits d 0 h (omega arith) }

pub counted_put : (l d d' : List ℕ) (n : ℕ) → get_or l 0 0 < length l → length l ≤ 9 → length d ≡ 140 → n ≡ get_or l 0 0 + 1
    → d' ≡ after_put d 0 (take n l) → HeaderPut (take (get_or l 0 0 + 1) l) n d d'
counted_put l d d' n m few lent e g =
    let c : length (take (get_or l 0 0 + 1) l) ≡ get_or l 0 0 + 1 = length-take-le (get_or l 0 0 + 1) l (omega arith) in
    header_put (take (get_or l 0 0 + 1) l) d d' n (e ∙ sym c) (omega (arith, c)) (rw e at g)

-- ---- the header of a width
only_second : (a b : Bool) → (a && b) || false ≡ true → b ≡ true
only_second true true e = refl
only_second true false e = e
only_second false b e = let z : ◌≡◌ {A = ℕ} 0 1 = cc in absurd (omega arith)

module _ (width reference : ℕ) (f : reference_fits width reference ≡ true) where
  pub wide_fits : width ≡ 16 → Fits w16 reference
  wide_fits e = let g : ltb reference 65536 ≡ true = rw e at f in omega (arith, ltb-true reference 65536 g)

  pub narrow_fits : (width ≡ 16 → ⊥) → Fits w8 reference
  narrow_fits n =
      let g = only_second (eqb width 8) (ltb reference 256) (rw (ne_eqb width 16 n) at f) in omega (arith, ltb-true reference 256 g)

module _ (k : Kind) (id : ℕ) (i : id ∷ 0 ∷ [] ≡ identifier_element k) (width reference total number n : ℕ) (d d' : List ℕ) where
  pub single_header_put : total ≡ 1 → HeaderPut (2 ∷ id ∷ 0 ∷ []) n d d' → HeaderPut (header_of k width reference total number) n d d'
  single_header_put e h = rw (e, identifier_length k) (rw i at h)

  module _ (several : total ≡ 1 → ⊥) (udhl : ℕ) where
    pub wide_header_put : width ≡ 16 → udhl ≡ 6 + cond (eqb number 1) 2 0 → (pair : Pair) → pair ≡ pair_of reference
        → HeaderPut (take (udhl + 1) (udhl ∷ 8 ∷ 4 ∷ pair.0 ∷ pair.1 ∷ total ∷ number ∷ id ∷ 0 ∷ [])) n d d'
        → HeaderPut (header_of k width reference total number) n d d'
    wide_header_put e u pair f h =
        let q : take (udhl + 1) (udhl ∷ 8 ∷ 4 ∷ pair.0 ∷ pair.1 ∷ total ∷ number ∷ id ∷ 0 ∷ []) ≡ header_of k width reference total number =
        rw f (by_test (eqb number 1) (λ t. rw (u, e, ne_eqb total 1 several, t, ← i)) (λ t. rw (u, e, ne_eqb total 1 several, t))) in
        rw q at h

    pub narrow_header_put : (width ≡ 16 → ⊥) → udhl ≡ 5 + cond (eqb number 1) 2 0
        → HeaderPut (take (udhl + 1) (udhl ∷ 0 ∷ 3 ∷ reference ∷ total ∷ number ∷ id ∷ 0 ∷ [])) n d d'
        → HeaderPut (header_of k width reference total number) n d d'
    narrow_header_put m u h =
        let q : take (udhl + 1) (udhl ∷ 0 ∷ 3 ∷ reference ∷ total ∷ number ∷ id ∷ 0 ∷ []) ≡ header_of k width reference total number =
        by_test (eqb number 1) (λ t. rw (u, ne_eqb width 16 m, ne_eqb total 1 several, t, ← i)) (λ t. rw (u, ne_eqb width 16 m, ne_eqb total 1 several, t)) in
        rw q at h
