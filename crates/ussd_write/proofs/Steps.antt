-- What the proofs of `ussd_write` cite: one law for each return or call, over plain variables.
use Rattle.std.specs.declared.result.Result.{Result}
use Rattle.std.specs.declared.result.Result.TheVariants.{Ok, Err}
use Prim.Native.Nat.{ℕ, ◌+◌, ◌-◌, ◌%◌, ◌≤◌, ◌<◌}
use mathlib.Core.Path.{◌≡◌, refl, sym, ap, ◌∙◌}
use mathlib.Core.Bool.{Bool, true, false, ◌||◌}
use mathlib.Core.List.{List, [], ◌∷◌, ◌++◌, append-nil, append_assoc}
use native.Mathlib.Omega.{arith}
use lib.ListN.{length, get_or, length-append, get_or-append}
use lib.Dec.{ltb}
use borrow.Author.Rules.{rules}
use borrow.Author.Tests.{lt-ltb, le-ltb, ltb-true, ltb-false, lt-leb, le-leb}
use Rattle.octets.specs.Octets.{placed, after_put}
use Rattle.octets.specs.Laws.{put_fits, placed_start, placed_behind, put_behind}
use Rattle.octets.specs.Tests.{neither}
use Rattle.types.specs.declared.Kind.TheVariants.{Command}
use Rattle.types.specs.declared.Refusal.{Refusal}
use Rattle.types.specs.Refusals.{Outcome, refused, gives, refusal_number, Lent, lent, writes}
use Rattle.packet.specs.Packets.{Fields, plain, ciphered, against_bits, against_check, against_spi, misfit}
use Rattle.packet.specs.Judging.{and_then}
use Rattle.build.specs.Within.{against_octet, outside, ruled, told_ruling}
use Rattle.build.specs.Laws.{ruled_then, allowed, against_is}
use Rattle.ussd.specs.Ussd.{length_octets, coded_from, um_from, um_of, writing_ussd, written_ussd}
use Rattle.ussd_write.specs.Within.{lead_octets, over_um, tried_ussd}
use Rattle.ussd.specs.Laws.{Coded, one, two, coded}

-- ---- writing: lengths
pub coded_one : (n : ℕ) → n ≤ 127 → 1 ≡ length (length_octets n)
coded_one n l = rw (le-leb n 127 l)

pub coded_two : (n : ℕ) → 127 < n → 2 ≡ length (length_octets n)
coded_two n l = rw (lt-leb n 127 l)

coded_few : (n : ℕ) → length (length_octets n) ≤ 2
coded_few n = go (coded n)
  where
    go : Coded n → length (length_octets n) ≤ 2
    go (one l e) = rw e (omega arith)
    go (two l e) = rw e (omega arith)

module _ (d x : List ℕ) (n at : ℕ) (room : at + 2 ≤ length d) where
  pub one_put : n ≤ 127 → x ≡ after_put d at (n ∷ []) → x ≡ placed d at (length_octets n)
  one_put l f = f ∙ put_fits d at (n ∷ []) (omega arith) ∙ rw (le-leb n 127 l)

  pub two_put : 127 < n → x ≡ after_put d at (0x81 ∷ n ∷ []) → x ≡ placed d at (length_octets n)
  two_put l f = f ∙ put_fits d at (0x81 ∷ n ∷ []) (omega arith) ∙ rw (lt-leb n 127 l)

pub one_behind : (n at : ℕ) → n ≤ 127 → at + 1 ≡ at + length (length_octets n)
one_behind n at l = rw (le-leb n 127 l)

pub two_behind : (n at : ℕ) → 127 < n → at + 2 ≡ at + length (length_octets n)
two_behind n at l = rw (lt-leb n 127 l)

same_ltb : (a b c d : ℕ) → (a < b → c < d) → (b ≤ a → d ≤ c) → ltb a b ≡ ltb c d
same_ltb a b c d p q = go (ltb a b) refl
  where
    go : (t : Bool) → ltb a b ≡ t → ltb a b ≡ ltb c d
    go true e = e ∙ sym (lt-ltb c d (p (ltb-true a b e)))
    go false e = e ∙ sym (le-ltb c d (q (ltb-false a b e)))

-- a UM is over 159 if CPL is over 156: no CPL makes a UM of 130 octets, since 127 makes 129 and 128 makes 131
cpl_over : (n : ℕ) → ltb 159 (1 + (length (length_octets n) + n)) ≡ ltb 156 n
cpl_over n = go (coded n)
  where
    go : Coded n → ltb 159 (1 + (length (length_octets n) + n)) ≡ ltb 156 n
    go (one l e) = rw e (le-ltb 159 (1 + (1 + n)) (omega arith) ∙ sym (le-ltb 156 n (omega arith)))
    go (two l e) = rw e (same_ltb 159 (1 + (2 + n)) 156 n (λ p. omega arith) (λ p. omega arith))

module _ (h x f b s : ℕ) (e : (s ≡ length (length_octets h)) × (s ≤ 2)) (few : x ≤ 13) where
  over_is : over_um h (x + (f + b)) ≡ ltb 156 (s + (x + (f + b)))
  over_is = cpl_over (length (length_octets h) + (x + (f + b))) ∙ ap (λ (n : ℕ). ltb 156 (n + (x + (f + b)))) (sym e.0)

  pub over_front : 156 - s - x < f → true ≡ over_um h (x + (f + b))
  over_front l = sym (over_is ∙ lt-ltb 156 (s + (x + (f + b))) (omega (arith, e.1)))

  pub over_back : f ≤ 156 - s - x → ltb (156 - s - x - f) b ≡ over_um h (x + (f + b))
  over_back l = same_ltb (156 - s - x - f) b 156 (s + (x + (f + b))) (λ p. omega (arith, e.1)) (λ p. omega (arith, e.1)) ∙ sym over_is

-- ---- writing: what is before the fields, and the whole
module _ (d x y z : List ℕ) (pfi cpl h at r : ℕ) (size : length d ≡ 160) (e : x ≡ after_put d 0 (pfi ∷ 3 ∷ []))
    (f : ((at ≡ 2 + length (length_octets cpl)) × (at ≤ 2 + 2)) × (y ≡ placed x 2 (length_octets cpl)))
    (g : ((r ≡ at + length (length_octets h)) × (r ≤ at + 2)) × (z ≡ placed y at (length_octets h))) where
  pub whole_lead : ((r ≡ length (lead_octets pfi cpl h)) × (r ≤ 6)) × (z ≡ placed d 0 (lead_octets pfi cpl h))
  whole_lead =
      let n : length (length_octets cpl ++ length_octets h) ≡ length (length_octets cpl) + length (length_octets h) = length-append (length_octets cpl) (length_octets h) in
      let u : x ≡ placed d 0 (pfi ∷ 3 ∷ []) = e ∙ put_fits d 0 (pfi ∷ 3 ∷ []) (omega arith) in
      let v : y ≡ placed d 0 (pfi ∷ 3 ∷ length_octets cpl) = placed_behind d (pfi ∷ 3 ∷ []) (length_octets cpl) x y 2 u refl f.1 in
      let w : z ≡ placed d 0 (lead_octets pfi cpl h) = placed_behind d (pfi ∷ 3 ∷ length_octets cpl) (length_octets h) y z at v (omega (arith, f.0.0)) g.1 in
      ((omega (arith, n, f.0.0, g.0.0), omega (arith, f.0.1, g.0.1)), w)

module _ (h s a b c : ℕ) (e : (s ≡ length (length_octets h)) × (s ≤ 2)) (l : length (length_octets h) + (a + (b + c)) ≤ 156) where
  pub cpl_small : s + (a + (b + c)) ≤ 255
  cpl_small = omega (arith, e.0)

module _ (d f g b x z : List ℕ) (pfi h s at : ℕ) (size : (h ≤ 255) × (length d ≡ 160)) (e : (s ≡ length (length_octets h)) × (s ≤ 2))
    (few : length (length_octets h) + (length f + (length g + length b)) ≤ 156)
    (i : ((at ≡ length (lead_octets pfi (s + (length f + (length g + length b))) h)) × (at ≤ 6)) × (x ≡ placed d 0 (lead_octets pfi (s + (length f + (length g + length b))) h))) where
  rest_length : length (f ++ (g ++ b)) ≡ length f + (length g + length b)
  rest_length = simp length-append refl

  coded_length : length (coded_from h (f ++ (g ++ b))) ≡ s + (length f + (length g + length b))
  coded_length = length-append (length_octets h) (f ++ (g ++ b)) ∙ omega (arith, rest_length, e.0)

  lead_then : lead_octets pfi (s + (length f + (length g + length b))) h ++ (f ++ (g ++ b)) ≡ pfi ∷ um_from h (f ++ (g ++ b))
  lead_then = rw coded_length (ap (λ (o : List ℕ). pfi ∷ 3 ∷ o) (append_assoc (length_octets (s + (length f + (length g + length b)))) (length_octets h) (f ++ (g ++ b))))

  pub string_written : z ≡ after_put x at (f ++ (g ++ b))
      → lent (gives (at + (length f + (length g + length b)))) z ≡ writes (gives (pfi ∷ um_from h (f ++ (g ++ b)))) d
  string_written j =
      let lead = lead_octets pfi (s + (length f + (length g + length b))) h in
      let q = f ++ (g ++ b) in
      let n : length lead ≡ 2 + (length (length_octets (s + (length f + (length g + length b)))) + length (length_octets h)) =
      omega (arith, length-append (length_octets (s + (length f + (length g + length b)))) (length_octets h)) in
      let o : length lead + length q ≤ length d = omega (arith, n, coded_few (s + (length f + (length g + length b))), rest_length, size.1) in
      let v : z ≡ placed d 0 (pfi ∷ um_from h q) = rw lead_then at (put_behind d lead q x z at i.1 i.0.0 o j) in
      let n : length (pfi ∷ um_from h q) ≡ at + (length f + (length g + length b)) = ap length (sym lead_then) ∙ length-append lead q ∙ omega (arith, rest_length, i.0.0) in
      rw (n, v ∙ placed_start d (pfi ∷ um_from h q))

-- ---- writing: either body
module _ (d f g b : List ℕ) (a m u l : Bool) (size : ℕ) (s : l ≡ over_um size (length f + (length g + length b))) (j : Result Unit Refusal)
    (e : told_ruling j ≡ ruled 160 (length d) a m u l (gives 0)) (t : j ≡ (Ok tt)) where
  is_allowed : (length d ≡ 160) × (l ≡ false)
  is_allowed = allowed 160 (length d) a m u l (sym (ap told_ruling t) ∙ e)

  pub allowed_buffer : length d ≡ 160
  allowed_buffer = is_allowed.0

  pub allowed_size : length (length_octets size) + (length f + (length g + length b)) ≤ 156
  allowed_size =
      let n = length (length_octets size) + (length f + (length g + length b)) in
      ltb-false 156 n (sym (cpl_over n) ∙ (sym s ∙ is_allowed.1))

module _ (d f g b : List ℕ) (a m u l : Bool) (h size : ℕ) (same : size ≡ h) (s : l ≡ over_um size (length f + (length g + length b))) (j : Result Unit Refusal)
    (e : told_ruling j ≡ ruled 160 (length d) a m u l (gives 0)) where
  abbrev the_um : List ℕ
  the_um = um_from h (f ++ (g ++ b))

  module _ (pfi : ℕ) where
    as_ruled : tried_ussd pfi a m u the_um d ≡ writes (and_then (told_ruling j) (gives (pfi ∷ the_um))) d
    as_ruled =
        let o : length (f ++ (g ++ b)) ≡ length f + (length g + length b) = simp length-append refl in
        let c : length (coded_from h (f ++ (g ++ b))) ≡ length (length_octets h) + (length f + (length g + length b)) =
        length-append (length_octets h) (f ++ (g ++ b)) ∙ ap (λ (n : ℕ). length (length_octets h) + n) o in
        let k : length the_um ≡ 1 + (length (length_octets (length (coded_from h (f ++ (g ++ b))))) + length (coded_from h (f ++ (g ++ b)))) =
        omega (arith, length-append (length_octets (length (coded_from h (f ++ (g ++ b))))) (coded_from h (f ++ (g ++ b)))) in
        let q : ltb 159 (length the_um) ≡ l = ap (ltb 159) k ∙ rw c (rw same at (sym s)) in
        let v : ruled 160 (length d) a m u (ltb 159 (length the_um)) (gives (pfi ∷ the_um)) ≡ and_then (told_ruling j) (gives (pfi ∷ the_um)) =
        ap (λ (t : Bool). ruled 160 (length d) a m u t (gives (pfi ∷ the_um))) q ∙ ruled_then 160 (length d) a m u l (gives (pfi ∷ the_um))
        ∙ ap (λ (y : Outcome ℕ). and_then y (gives (pfi ∷ the_um))) (sym e) in
        ap (λ (y : Outcome (List ℕ)). writes y d) v

    pub tried_refused : (r : Refusal) → j ≡ Err r → lent (refused (refusal_number r)) d ≡ tried_ussd pfi a m u the_um d
    tried_refused r t = sym (as_ruled ∙ rw t)

    pub tried_written : j ≡ (Ok tt) → (w : Lent) → w ≡ writes (gives (pfi ∷ um_from size (f ++ (g ++ b)))) d → w ≡ tried_ussd pfi a m u the_um d
    tried_written t w v =
        v ∙ ap (λ (y : ℕ). writes (gives (pfi ∷ um_from y (f ++ (g ++ b)))) d) same
        ∙ sym (as_ruled ∙ ap (λ (y : Result Unit Refusal). writes (and_then (told_ruling y) (gives (pfi ∷ the_um))) d) t)

-- the fields of a command, and what is written of them
same_written : (pfi : ℕ) (x : Fields) (d q : List ℕ) (a m u : Bool) → against_spi Command x ≡ a → misfit Command x ≡ m → against_check Command x ≡ u
    → (m ≡ false → q ≡ um_of x) → tried_ussd pfi a m u q d ≡ written_ussd pfi x d
unfolding written_ussd writing_ussd
same_written pfi x d q a true u e f i g = rw (e, f)
same_written pfi x d q a false u e f i g = rw (e, f, i, g refl)

module _ (pfi : ℕ) (f d : List ℕ) (w : Lent) where
  module _ (n : length f ≡ 13) where
    whole : (c s : List ℕ) → length c ≤ 242 → um_from ((13 + length c) % 256) (f ++ (c ++ s)) ≡ um_of (plain f c s)
    unfolding um_of
    whole c s l = let k : (13 + length c) % 256 ≡ 13 + length c = omega arith in rw k

    pub plain_written : (c s : List ℕ) (u : Bool) → u ≡ against_bits Command (get_or f 0 0) (length c)
        → w ≡ tried_ussd pfi (against_octet Command (get_or f 0 0) false) (ltb 242 (length c)) u (um_from ((13 + length c) % 256) (f ++ (c ++ s))) d
        → w ≡ written_ussd pfi (plain f c s) d
    plain_written c s u i g =
        g ∙ same_written pfi (plain f c s) d (um_from ((13 + length c) % 256) (f ++ (c ++ s))) (against_octet Command (get_or f 0 0) false) (ltb 242 (length c)) u
        (against_is Command (plain f c s) ∙ ap (λ (y : ℕ). against_octet Command y false) (get_or-append f (c ++ s) 0 0 (omega arith))) refl (sym i)
        λ t. whole c s (ltb-false 242 (length c) t)

  module _ (n : length f ≡ 7) where
    opaque : (h : ℕ) (o : List ℕ) (m : Bool) → m ≡ outside Command h (length o) → m ≡ false → um_from (h % 256) (f ++ (o ++ [])) ≡ um_of (ciphered f h o)
    unfolding um_of
    opaque h o m e t =
        let (u, v) = neither (ltb h 13 || ltb 255 h) (ltb (length o) (h - 7)) (sym e ∙ t) in
        let l : h ≤ 255 = ltb-false 255 h (neither (ltb h 13) (ltb 255 h) u).1 in
        let k : h % 256 ≡ h = omega arith in rw (k, append-nil)

    pub opaque_written : (h : ℕ) (o : List ℕ) (m : Bool) → m ≡ outside Command h (length o)
        → w ≡ tried_ussd pfi (against_octet Command (get_or f 0 0) true) m false (um_from (h % 256) (f ++ (o ++ []))) d
        → w ≡ written_ussd pfi (ciphered f h o) d
    opaque_written h o m e g =
        g ∙ same_written pfi (ciphered f h o) d (um_from (h % 256) (f ++ (o ++ []))) (against_octet Command (get_or f 0 0) true) m false
        (against_is Command (ciphered f h o) ∙ ap (λ (y : ℕ). against_octet Command y true) (get_or-append f o 0 0 (omega arith))) (sym e) refl
        λ t. opaque h o m e t

pub ruleset steps = (
  rules,
  coded_one,
  coded_two,
  one_put,
  two_put,
  one_behind,
  two_behind,
  over_front,
  over_back,
  cpl_small,
  string_written,
  allowed_buffer,
  allowed_size,
  tried_refused,
  tried_written,
  plain_written,
  opaque_written,
)
