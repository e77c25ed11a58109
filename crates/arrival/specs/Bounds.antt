-- How the laws of reading are shown: what the elements take of a header, what a concatenation says, and what was tested where something
-- is given. What follows for a message that is given stands in proofs/MessageLaws.antt.
use Rattle.std.specs.Prelude.{ℕ, zero, suc, ◌+◌, ◌*◌, ◌/◌, ◌%◌, ◌≤◌, ◌<◌, ◌≡◌, List, [], ◌∷◌, Bool, true, false, cond, ◌||◌, length, get_or, take, drop, eqb, ltb, leb}
use Rattle.std.proofs.Math.Path.{refl}
use Rattle.std.proofs.Common.{subst, arith, length-take-le, get_or-drop}
use Rattle.std.proofs.Math.Bool.{not, or-true}
use Rattle.std.proofs.Math.Option.{Option, none, some}
use borrow.Author.Tests.{eqb-true, not-false, eqb-false, lt-ltb, ltb-false, leb-false}
use Rattle.octets.specs.Tests.{neither}
use Rattle.types.specs.declared.Kind.{Kind}
use Rattle.types.specs.Refusals.{Outcome, gives, refuse◌when◌otherwise◌}
use Rattle.octets.specs.Octets.{Octets, number_of}
use Rattle.octets.specs.Laws.{number_fits}
use Rattle.header.specs.declared.Concatenation.{Concatenation}
use Rattle.header.specs.Laws.{by_number}
use Rattle.arrival.specs.Arrivals.{Brought, single, part}
use Rattle.header.specs.Header.{Item, item, ◌∷?◌, elements_after, elements, has, is_concatenation, wrong_length, concatenation_in, no_concatenation, any_of, last_concatenation, concatenation_of, summary}
use Rattle.arrival.specs.Message.{most_user_data, udhl, header_octets, after_header, judged, where_read, read_message}
use Rattle.arrival.specs.Page.{page_octets, page_header, serial_in, identifier_in, parameter_in, one_of_one, page_number, page_total, identifier_in_range, no_pages, page_key, read_page}
use Rattle.arrival.specs.Keys.{reference_fits}

-- ---- the elements fill the header
-- what elements take of a header: each its identifier, its length and its octets
abbrev pub space_of : List Item → ℕ
space_of [] = 0
space_of (e ∷ es) = 2 + length e.octets + space_of es

abbrev Fills : ℕ → Option (List Item) → ℕ → Type 0
Fills k none m = Unit {0}
Fills k (some es) m = k + space_of es ≡ m

fills_more : (a n : ℕ) (r : List ℕ) (o : Option (List Item)) → Fills n o (length r) → Fills 0 (item a (take n r) ∷? o) (suc (suc (length r)))
fills_more a n r none f = tt
fills_more a n r (some es) f = let m : n ≤ length r = omega arith in omega (arith, length-take-le n r m)

fills_suc : (k : ℕ) (o : Option (List Item)) (m : ℕ) → Fills k o m → Fills (suc k) o (suc m)
fills_suc k none m f = tt
fills_suc k (some es) m f = omega arith

fills : (k : ℕ) (l : List ℕ) → Fills k (elements_after k l) (length l)
unfolding elements_after
fills zero [] = refl
fills (suc k) [] = tt
fills zero (a ∷ []) = tt
fills zero (a ∷ n ∷ r) = fills_more a n r (elements_after n r) (fills n r)
fills (suc k) (a ∷ r) = fills_suc k (elements_after k r) (length r) (fills k r)

pub elements_taken : (h : List ℕ) (es : List Item) → elements h ≡ some es → space_of es ≡ length h
elements_taken h es e = let f : Fills 0 (some es) (length h) = rw e at (fills 0 h) in omega arith

-- ---- what a concatenation element and packet identifiers take of a header at least
abbrev pub bit : Bool → ℕ
bit b = cond b 1 0

bit_or : (a b : Bool) → bit (a || b) ≤ bit a + bit b
bit_or true b = omega arith
bit_or false b = omega arith

-- what a concatenation element takes, by the width that it tells: identifier, length and three octets, or four
abbrev pub cost : ℕ → ℕ
cost w = cond (eqb w 8) 5 (cond (eqb w 16) 6 0)

-- the length that an element which counts must have
right_length : (n m : ℕ) (b : Bool) → not (eqb n m) || b ≡ false → n ≡ m
right_length n m b e = eqb-true n m (not-false (eqb n m) (neither (not (eqb n m)) b e).0)

Costs : Concatenation → List ℕ → ℕ → Type 0
Costs c o a =
    wrong_length (item a o) ≡ false
    → cost (cond (is_concatenation (item a o)) (concatenation_in (item a o)) c).width + 2 * bit (eqb a 0x70) + 2 * bit (eqb a 0x71) ≤ cost c.width + (2 + length o)

costs : (c : Concatenation) (o : List ℕ) (a : ℕ) → Costs c o a
unfolding Costs
costs c o a =
    by_number (Costs c o) a 0x00 (λ w. omega (arith, right_length (length o) 3 false (neither (not (eqb (length o) 3) || false) false w).0)) λ not00.
    by_number (Costs c o) a 0x08 (λ w. omega (arith, right_length (length o) 4 false w)) λ not08.
    by_number (Costs c o) a 0x70 (λ w. omega arith) λ not70.
    by_number (Costs c o) a 0x71 (λ w. omega arith) λ not71.
    rw (not00, not08, not70, not71) (λ w. omega arith)

pub spent : (es : List Item) (c : Concatenation) → any_of wrong_length es ≡ false
    → cost (last_concatenation c es).width + 2 * bit (any_of (has 0x70) es) + 2 * bit (any_of (has 0x71) es) ≤ cost c.width + space_of es
unfolding Costs
spent [] c w = omega arith
spent (e ∷ es) c w =
    let (here, there) = neither (wrong_length e) (any_of wrong_length es) w in
    omega (arith, spent es (cond (is_concatenation e) (concatenation_in e) c) there, costs c e.octets e.id here, bit_or (has 0x70 e) (any_of (has 0x70) es), bit_or (has 0x71 e) (any_of (has 0x71) es))

-- ---- octets
octets_take : (n : ℕ) (l : List ℕ) → Octets l → Octets (take n l)
octets_take zero l b i = omega arith
octets_take (suc n) [] b i = omega arith
octets_take (suc n) (x ∷ l) b zero = b 0
octets_take (suc n) (x ∷ l) b (suc i) = octets_take n l (λ j. b (suc j)) i

pub octets_header : (ud : List ℕ) → Octets ud → Octets (header_octets ud)
octets_header ud b = octets_take (udhl ud) (drop 1 ud) (λ i. rw get_or-drop (b (1 + i)))

abbrev pub EachItem : (List ℕ → Type 0) → List Item → Type 0
EachItem q [] = Unit {0}
EachItem q (e ∷ es) = q e.octets × EachItem q es

abbrev pub OctetsIn : Option (List Item) → Type 0
OctetsIn none = Unit {0}
OctetsIn (some es) = EachItem Octets es

octets_more : (e : Item) (o : Option (List Item)) → Octets e.octets → OctetsIn o → OctetsIn (e ∷? o)
octets_more e none b f = tt
octets_more e (some es) b f = (b, f)

pub octets_in_lem : (k : ℕ) (l : List ℕ) → Octets l → OctetsIn (elements_after k l)
unfolding elements_after
octets_in_lem zero [] b = tt
octets_in_lem (suc k) [] b = tt
octets_in_lem zero (a ∷ []) b = tt
octets_in_lem zero (a ∷ n ∷ r) b =
    octets_more (item a (take n r)) (elements_after n r) (octets_take n r (λ i. b (suc (suc i)))) (octets_in_lem n r (λ i. b (suc (suc i))))
octets_in_lem (suc k) (a ∷ r) b = octets_in_lem k r (λ i. b (suc i))

-- ---- what the last concatenation element of a header says
-- T holds of it where it holds of each that is there, given q of its octets, and of what stands in for none
module _ (q : List ℕ → Type 0) (T : Concatenation → Type 0) (narrow : (o : List ℕ) → q o → T (concatenation_in (item 0x00 o)))
    (wide : (o : List ℕ) → q o → T (concatenation_in (item 0x08 o))) where
  one_holds : (c : Concatenation) (o : List ℕ) (a : ℕ) → q o → T c → T (cond (is_concatenation (item a o)) (concatenation_in (item a o)) c)
  one_holds c o a b t =
      let P : ℕ → Type 0 = λ a. T (cond (is_concatenation (item a o)) (concatenation_in (item a o)) c) in
      by_number P a 0x00 (narrow o b) λ not00. by_number P a 0x08 (wide o b) λ not08. rw (not00, not08) t

  last_holds : (es : List Item) (c : Concatenation) → EachItem q es → T c → T (last_concatenation c es)
  last_holds [] c b t = t
  last_holds (e ∷ es) c b t = last_holds es (cond (is_concatenation e) (concatenation_in e) c) b.1 (one_holds c e.octets e.id b.0 t)

-- it is none, or its reference fits its width
abbrev pub Says : Concatenation → Type 0
Says c = eqb c.total 0 || reference_fits c.width c.reference ≡ true

pub items_say : (es : List Item) → EachItem Octets es → Says (concatenation_of es)
items_say es b =
    last_holds Octets Says (λ o b. rw (lt-ltb (get_or o 0 0) 256 (b 0)) (or-true (eqb (get_or o 1 0) 0)))
    (λ o b. rw (lt-ltb (number_of (get_or o 0 0) (get_or o 1 0)) 65536 (number_fits (get_or o 0 0) (get_or o 1 0) (b 0) (b 1))) (or-true (eqb (get_or o 2 0) 0)))
    es no_concatenation b refl

-- it is none, or has a width
abbrev pub HasWidth : Concatenation → Type 0
HasWidth c = eqb c.total 0 || not (eqb c.width 0) ≡ true

pub has_width : (es : List Item) → HasWidth (concatenation_of es)
has_width es = last_holds (λ _. Unit {0}) HasWidth (λ o _. or-true (eqb (get_or o 1 0) 0)) (λ o _. or-true (eqb (get_or o 2 0) 0)) es no_concatenation (each es) refl
  where
    each : (es : List Item) → EachItem (λ _. Unit {0}) es
    each [] = tt
    each (e ∷ es) = (tt, each es)

-- a width that a reference fits is 8 or 16
pub by_width : (P : ℕ → Type 0) (w n : ℕ) → reference_fits w n ≡ true → P 8 → P 16 → P w
by_width P w n e eight sixteen = by_number P w 8 eight λ not8. by_number P w 16 sixteen λ not16. absurd (go not8 not16)
  where
    go : eqb w 8 ≡ false → eqb w 16 ≡ false → ⊥
    go p q = let f : false ≡ true = rw (p, q) at e in let z : ◌≡◌ {A = ℕ} 0 1 = cc in omega arith

-- ---- what was tested where something is given
pub not_refused : {A : Type 0} (n : ℕ) (b : Bool) (o : Outcome A) (x : A) → (refuse n when b otherwise o) ≡ gives x → (b ≡ false) × (o ≡ gives x)
not_refused n true o x e = let z : ◌≡◌ {A = ℕ} 0 1 = cc in absurd (omega arith)
not_refused n false o x e = (refl, e)

pub gives_same : {A : Type 0} {x y : A} → gives x ≡ gives y → x ≡ y
gives_same e = cc

pub record MessageRead (k : Kind) (sender : ℕ) (ud : List ℕ) (x : Brought) : Type 0 where
  pub es : List Item
  pub size : length ud ≤ most_user_data
  pub inside : udhl ud < length ud
  pub readable : elements (header_octets ud) ≡ some es
  pub verdict : judged k sender (after_header ud) (summary es) ≡ gives x

pub message_read : (k : Kind) (sender : ℕ) (ud : List ℕ) (x : Brought) → read_message k sender ud ≡ gives x → MessageRead k sender ud x
unfolding read_message
message_read k sender ud x e =
    let (size, e₁) = not_refused 2 (ltb most_user_data (length ud)) _ x e in
    let (inside, e₂) = not_refused 3 (leb (length ud) (udhl ud)) _ x e₁ in
    go (elements (header_octets ud)) refl (ltb-false most_user_data (length ud) size) (leb-false (length ud) (udhl ud) inside) e₂
  where
    go : (o : Option (List Item)) → elements (header_octets ud) ≡ o → length ud ≤ most_user_data → udhl ud < length ud
        → where_read (λ es. judged k sender (after_header ud) (summary es)) o ≡ gives x → MessageRead k sender ud x
    go none r l m e = let z : ◌≡◌ {A = ℕ} 0 1 = cc in absurd (omega arith)
    go (some es) r l m e = record { es = es; size = l; inside = m; readable = r; verdict = e }

-- ---- a page that is given
pub parameter_bounds : (p : ℕ) → (1 ≤ page_number p) × (1 ≤ page_total p) × (page_total p ≤ 15)
parameter_bounds p = go (one_of_one p) refl
  where
    go : (b : Bool) → one_of_one p ≡ b → (1 ≤ cond b 1 (p / 16)) × (1 ≤ cond b 1 (p % 16)) × (cond b 1 (p % 16) ≤ 15)
    go true q = (omega arith, omega arith, omega arith)
    go false q =
        let (no_number, no-total) = neither (eqb (p / 16) 0) (eqb (p % 16) 0) q in
        (omega (arith, eqb-false (p / 16) 0 no_number), omega (arith, eqb-false (p % 16) 0 no-total), omega arith)

-- what is known of a page that is given
pub record PageRead (k : Kind) (page : List ℕ) : Type 0 where
  pub size : length page ≡ page_octets
  pub high : page_number (parameter_in page) ≤ page_total (parameter_in page)
  pub kind : no_pages k ≡ false
  pub range : identifier_in_range (identifier_in page) ≡ true

module _ (k : Kind) (page : List ℕ) (x : Brought) (P : Brought → Type 0) (alone : PageRead k page → P (single page_header))
    (several : PageRead k page → (page_total (parameter_in page) ≡ 1 → ⊥)
    → P (part (page_key (serial_in page) (identifier_in page)) (page_total (parameter_in page)) (page_number (parameter_in page)) page_header)) where
  page_as : PageRead k page → (b : Bool) → eqb (page_total (parameter_in page)) 1 ≡ b
      → cond b (gives (single page_header))
      (gives (part (page_key (serial_in page) (identifier_in page)) (page_total (parameter_in page)) (page_number (parameter_in page)) page_header)) ≡ gives x
      → P x
  page_as r true q e = subst P (gives_same e) (alone r)
  page_as r false q e = subst P (gives_same e) (several r (eqb-false (page_total (parameter_in page)) 1 q))

  pub page_given_as : read_page k page ≡ gives x → P x
  unfolding read_page
  page_given_as e =
      let (size, e₁) = not_refused 2 (not (eqb (length page) page_octets)) _ x e in
      let (high, e₂) = not_refused 4 (ltb (page_total (parameter_in page)) (page_number (parameter_in page))) _ x e₁ in
      let (ours, e₃) = not_refused 5 (no_pages k || not (identifier_in_range (identifier_in page))) _ x e₂ in
      let (kind, range) = neither (no_pages k) (not (identifier_in_range (identifier_in page))) ours in
      let r : PageRead k page = record {
        size = eqb-true (length page) page_octets (not-false (eqb (length page) page_octets) size);
        high = ltb-false (page_total (parameter_in page)) (page_number (parameter_in page)) high;
        kind = kind;
        range = not-false (identifier_in_range (identifier_in page)) range;
      } in
      page_as r (eqb (page_total (parameter_in page)) 1) refl e₃
