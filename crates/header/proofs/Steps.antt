-- What the proofs of `header` cite: one law for each return and call, over plain variables.
use Rattle.std.specs.declared.option.Option as option
use Rattle.std.specs.declared.option.Option.TheVariants.{Some, None}
use Prim.Native.Nat.{ℕ, suc, ◌+◌, ◌≤◌, ◌<◌, ◌-◌}
use mathlib.Core.Path.{◌≡◌, refl, sym, ap, ◌∙◌}
use mathlib.Core.List.{List, [], ◌∷◌}
use mathlib.Core.Bool.{Bool, true, false, cond}
use mathlib.Core.Option.{Option, none, some}
use native.Mathlib.Omega.{arith}
use lib.ListN.{length, take, drop, length-drop, get_or, drop_of_length-le}
use lib.Seq.{drop-drop, drop-cons}
use lib.Dec.{leb}
use borrow.Author.Tests.{leb-true, le-leb, lt-leb, ne_eqb}
use Rattle.header.specs.declared.Seen.{Seen}
use Rattle.header.specs.declared.Cursor.{Cursor}
use Rattle.header.specs.declared.Element.{Element}
use Rattle.header.specs.Header.{Item, item, ◌∷?◌, elements}
use Rattle.header.specs.Reading.{element, first_element, wrong_seen, added, narrow_in, wide_in, concatenation_seen, command_seen, response_seen, collected, walked, told_walked, told_rest}
use Rattle.header.specs.Laws.{elements_lone, elements_more, elements_none}
use native.Mathlib.Numerals.{add-one, add-two}
use mir.Syntax.{w8, w16, w64}
use mir.Val.{Fits}
use borrow.Author.Rules.{rules}
use Rattle.types.specs.Refusals.{Outcome, refused, gives}
use Rattle.octets.specs.Octets.{number_of}
use Rattle.header.specs.declared.Concatenation.{Concatenation}

-- ---- the elements from a place on: the first, and the rest
abbrev pub and_then : List ℕ → option.Option Element → Option (List Item)
and_then h None = none
and_then h (Some e) = item e.id (take e.len (drop e.start h)) ∷? elements (drop e.next.at h)

then_cond : (h : List ℕ) (b : Bool) (e : option.Option Element) → and_then h (cond b e None) ≡ cond b (and_then h e) none
then_cond h true e = refl
then_cond h false e = refl

first_rest : (h : List ℕ) (i : ℕ) (l : List ℕ) → drop i h ≡ l → 0 < length l → elements l ≡ and_then h (first_element i l)
unfolding first_element
first_rest h i [] e p = absurd (omega arith)
first_rest h i (a ∷ []) e p = elements_lone a
first_rest h i (a ∷ n ∷ r) e p =
    let own : drop (i + 2) h ≡ r = sym (drop-drop 2 i h) ∙ ap (drop 2) e in
    let past : drop (i + 2 + n) h ≡ drop n r = sym (drop-drop n (i + 2) h) ∙ ap (drop n) own in
    rw (then_cond, own, past) (elements_more a n r)

pub elements_at : (h : List ℕ) (i : ℕ) → i < length h → elements (drop i h) ≡ and_then h (first_element i (drop i h))
elements_at h i l = first_rest h i (drop i h) refl (simp length-drop (omega arith))

-- where an element that was read stands
not_read : {x : Element} → ◌≡◌ {A = option.Option Element} None (Some x) → ⊥
not_read e = let z : ◌≡◌ {A = ℕ} 0 1 = cc in omega arith

pub record Stands (i b n at m : ℕ) : Type 0 where
  pub start : b ≡ i + 2
  pub next : at ≡ i + 2 + n
  pub inside : 2 + n ≤ m

pub read_place : (i : ℕ) (l : List ℕ) {x : Element} → first_element i l ≡ Some x → Stands i x.start x.len x.next.at (length l)
unfolding first_element
read_place i [] e = absurd (not_read e)
read_place i (a ∷ []) e = absurd (not_read e)
read_place i (a ∷ m ∷ r) {x} e = go (leb m (length r)) refl e
  where
    go : (t : Bool) → leb m (length r) ≡ t → cond t (Some (element a (i + 2) m (record { at = i + 2 + m }))) None ≡ Some x
        → Stands i x.start x.len x.next.at (suc (suc (length r)))
    go true q e =
        let same : ◌≡◌ {A = Element} (element a (i + 2) m (record { at = i + 2 + m })) x = cc in
        let starts : i + 2 ≡ x.start = ap (λ y. y.start) same in
        let lasts : m ≡ x.len = ap (λ y. y.len) same in
        let ends : i + 2 + m ≡ x.next.at = ap (λ y. y.next.at) same in
        record { start = sym starts; next = omega (arith, lasts, ends); inside = omega (arith, lasts, leb-true m (length r) q) }
    go false q e = absurd (not_read e)

-- an octet fits every wider number
pub octet_fits_16 : (l : List ℕ) (i : ℕ) → ((k : ℕ) → Fits w8 (get_or l k 0)) → Fits w16 (get_or l i 0)
octet_fits_16 l i f = omega (arith, f i)

pub octet_fits_64 : (l : List ℕ) (i : ℕ) → ((k : ℕ) → Fits w8 (get_or l k 0)) → Fits w64 (get_or l i 0)
octet_fits_64 l i f = omega (arith, f i)

-- ---- the element at a place, by the tests that `element` makes
module _ (h : List ℕ) (i : ℕ) where
  pub past_end : length h ≤ i → None ≡ first_element i (drop i h)
  unfolding first_element
  past_end l = rw (drop_of_length-le h l)

  pub past_lone : i < length h → length h ≤ i + 1 → None ≡ first_element i (drop i h)
  unfolding first_element
  past_lone l m = let m' : length h ≤ suc i = omega arith in rw (drop-cons h i 0 l, drop_of_length-le h m')

  drop_two : i + 1 < length h → drop i h ≡ get_or h i 0 ∷ get_or h (i + 1) 0 ∷ drop (i + 2) h
  drop_two l = rw (add-one, add-two, drop-cons h i 0 (omega arith), drop-cons h (suc i) 0 (omega arith))

  pub read_whole : i + 1 < length h → get_or h (i + 1) 0 ≤ length h - (i + 2)
      → Some (element (get_or h i 0) (i + 2) (get_or h (i + 1) 0) (record { at = i + 2 + get_or h (i + 1) 0 })) ≡ first_element i (drop i h)
  unfolding first_element
  read_whole l m = rw (drop_two l, length-drop, le-leb _ _ m)

  pub past_long : i + 1 < length h → length h - (i + 2) < get_or h (i + 1) 0 → None ≡ first_element i (drop i h)
  unfolding first_element
  past_long l m = rw (drop_two l, length-drop, lt-leb _ _ m)

-- ---- an element more, by its identifier and its length
module _ (s r : Seen) (a : ℕ) (o : List ℕ) where
  pub plus_narrow : a ≡ 0x00 → length o ≡ 3 → (c : Concatenation) → c ≡ narrow_in o → r ≡ concatenation_seen s c → r ≡ added s (item a o)
  unfolding added
  plus_narrow e l c f g = rw (e, l) (g ∙ ap (concatenation_seen s) f)

  pub plus_wide : a ≡ 0x08 → length o ≡ 4 → (c : Concatenation) → c ≡ wide_in o → r ≡ concatenation_seen s c → r ≡ added s (item a o)
  unfolding added
  plus_wide e l c f g = rw (e, l) (g ∙ ap (concatenation_seen s) f)

  pub plus_command : a ≡ 0x70 → length o ≡ 0 → r ≡ command_seen s → r ≡ added s (item a o)
  unfolding added
  plus_command e l g = rw (e, l) g

  pub plus_response : a ≡ 0x71 → length o ≡ 0 → r ≡ response_seen s → r ≡ added s (item a o)
  unfolding added
  plus_response e l g = rw (e, l) g

  pub wrong_narrow : a ≡ 0x00 → (length o ≡ 3 → ⊥) → r ≡ wrong_seen s → r ≡ added s (item a o)
  unfolding added
  wrong_narrow e l g = rw (e, ne_eqb _ _ l) g

  pub wrong_wide : a ≡ 0x08 → (length o ≡ 4 → ⊥) → r ≡ wrong_seen s → r ≡ added s (item a o)
  unfolding added
  wrong_wide e l g = rw (e, ne_eqb _ _ l) g

  pub wrong_command : a ≡ 0x70 → (length o ≡ 0 → ⊥) → r ≡ wrong_seen s → r ≡ added s (item a o)
  unfolding added
  wrong_command e l g = rw (e, ne_eqb _ _ l) g

  pub wrong_response : a ≡ 0x71 → (length o ≡ 0 → ⊥) → r ≡ wrong_seen s → r ≡ added s (item a o)
  unfolding added
  wrong_response e l g = rw (e, ne_eqb _ _ l) g

pub plus_other : (s : Seen) (a : ℕ) (o : List ℕ) → (a ≡ 0x00 → ⊥) → (a ≡ 0x08 → ⊥) → (a ≡ 0x70 → ⊥) → (a ≡ 0x71 → ⊥) → s ≡ added s (item a o)
unfolding added
plus_other s a o p q r t = rw (ne_eqb _ _ p, ne_eqb _ _ q, ne_eqb _ _ r, ne_eqb _ _ t)

-- ---- one step of reading the rest, at the place i: at the end, or below it, where r stands
pub rest_end : (h : List ℕ) (i : ℕ) (s : Seen) → length h ≤ i → gives s ≡ told_walked (walked h i s)
rest_end h i s l = rw (drop_of_length-le h l, elements_none)

collected_more : (s : Seen) (e : Item) (o : Option (List Item)) → collected (added s e) o ≡ collected s (e ∷? o)
collected_more s e none = refl
collected_more s e (some es) = refl

module _ (h : List ℕ) (i : ℕ) (r : option.Option Element) (l : i < length h) (rule : r ≡ first_element i (drop i h)) where
  pub rest_past : (s : Seen) → r ≡ None → refused 3 ≡ told_walked (walked h i s)
  rest_past s e = rw (elements_at h i l, ← rule, e)

  module _ (x : Element) (found : r ≡ Some x) where
    place : Stands i x.start x.len x.next.at (length h - i)
    place = rw length-drop at (read_place i (drop i h) (sym rule ∙ found))

    own_length_lem : x.next.at - x.start ≡ x.len
    own_length_lem = omega (arith, place)

    -- the element's own octets end where the next one begins
    pub own_start : x.start ≤ x.next.at
    own_start = omega (arith, place)

    pub own_end : x.next.at ≤ length h
    own_end = omega (arith, place)

    one_more_lem : (s : Seen) → walked h x.next.at (added s (item x.id (take x.len (drop x.start h)))) ≡ walked h i s
    one_more_lem s = rw (elements_at h i l, ← rule, found) (collected_more s (item x.id (take x.len (drop x.start h))) (elements (drop x.next.at h)))

    pub rest_read : (s s' : Seen) (o : Outcome Seen) → s' ≡ added s (item x.id (take (x.next.at - x.start) (drop x.start h)))
        → o ≡ told_walked (walked h x.next.at s') → o ≡ told_walked (walked h i s)
    rest_read s s' o e w =
        let same : walked h x.next.at s' ≡ walked h i s = rw (e, own_length_lem) (one_more_lem s) in
        w ∙ ap told_walked same

    pub step_falls : (t : ℕ) → length h - i ≡ t → length h - x.next.at < t
    step_falls t e = omega (arith, place)

-- ---- what was seen is taken up, has one element more, and is laid down
pub laid_more : (laid more seen s : Seen) (e : Item) → laid ≡ more → more ≡ added seen e → seen ≡ s → laid ≡ added s e
laid_more laid more seen s e down plus up = down ∙ plus ∙ ap (λ x. added x e) up

-- ---- the answer of `walk`, read back from the number
back_past : (w : option.Option Seen) (n : ℕ) → refused n ≡ told_walked w → None ≡ w
back_past None n e = refl
back_past (Some s) n e = let z : ◌≡◌ {A = ℕ} 0 1 = cc in absurd (omega arith)

back_header : (w : option.Option Seen) (s : Seen) → gives s ≡ told_walked w → Some s ≡ w
back_header None s e = let z : ◌≡◌ {A = ℕ} 0 1 = cc in absurd (omega arith)
back_header (Some t) s e = cc

module _ (h : List ℕ) (i n : ℕ) (after before s : Seen) (rest : told_rest n after ≡ told_walked (walked h i before)) (laid : before ≡ s) where
  pub answer_past : (n ≡ 0 → ⊥) → None ≡ walked h i s
  answer_past other =
      let number : refused n ≡ told_rest n after = rw (ne_eqb _ _ other) in
      back_past _ n (number ∙ rest) ∙ ap (walked h i) laid

  pub answer_header : (seen : Seen) → n ≡ 0 → seen ≡ after → Some seen ≡ walked h i s
  answer_header seen is_zero up =
      let number : gives seen ≡ told_rest n after = rw (is_zero, up) in
      back_header _ seen (number ∙ rest) ∙ ap (walked h i) laid

pub wide_told : (n : ℕ) (o : List ℕ) → n ≡ number_of (get_or o 0 0) (get_or o 1 0)
    → ◌≡◌ {A = Concatenation} (record { width = 16; reference = n; total = get_or o 2 0; number = get_or o 3 0 }) (wide_in o)
wide_told n o e = rw e

pub ruleset steps = (
  rules,
  octet_fits_16,
  octet_fits_64,
  past_end,
  past_lone,
  read_whole,
  past_long,
  plus_narrow,
  plus_wide,
  plus_command,
  plus_response,
  wrong_narrow,
  wrong_wide,
  wrong_command,
  wrong_response,
  plus_other,
  rest_end,
  rest_past,
  rest_read,
  own_start,
  own_end,
  step_falls,
  laid_more,
  answer_past,
  answer_header,
  wide_told,
)
