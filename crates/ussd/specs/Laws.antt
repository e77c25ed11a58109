-- Laws of USSD strings: lengths that are coded and decoded, what is behind the lengths, and the two round trips. The octets of a checksum, of
-- a string that is written, stand in proofs/ChecksumLaws.antt.
use Rattle.std.specs.Prelude.{ℕ, ◌+◌, ◌-◌, ◌≤◌, ◌<◌, ◌≡◌, refl, Bool, true, false, cond, not, ◌&&◌, ◌||◌, List, [], ◌∷◌, ◌++◌, length, get_or, take, drop, eqb, ltb, leb}
use Rattle.std.proofs.Common.{sym, ap, ◌∙◌, arith, length-append, length-drop, drop-drop, get_or-drop, eqb-true, eq-eqb, leb-true, leb-false, le-leb, ltb-false, le-ltb}
use Rattle.std.proofs.lemmas.Bool.{lt-leb}
use Rattle.octets.specs.Octets.{Octets, same_octets}
use Rattle.octets.specs.Laws.{same_self, same_true}
use Rattle.octets.specs.Tests.{both, clash}
use Rattle.types.specs.declared.Kind.TheVariants.{Command}
use Rattle.types.specs.Refusals.{Outcome, gives, refuse◌when◌otherwise◌}
use Rattle.packet.specs.Packets.{least, within, Fields, fields_behind, cipher_bit, ciphered_behind, against_check, header_length, behind, is_ciphered, misfit}
use Rattle.packet.specs.Laws.{FieldsWithin, within_told, RightLength, Fitted, fitting_gives, header_right, behind_fields, differ_none, fitting_again, same_header, same_behind}
use Rattle.ussd.specs.Ussd.{length_octets, length_size, length_value, length_formed, from_cpl, from_chl, um_behind, um_cpl, um_chl, um_start, um_formed, ciphered_um, um_fields, addressed, readable_ussd, coded_from, um_from, um_of, writing_ussd}

-- ---- lengths
-- a length is coded in one octet up to 127, and else in two
pub data Coded (n : ℕ) : Type 0 where
  one : n ≤ 127 → length_octets n ≡ n ∷ [] → Coded n
  two : 128 ≤ n → length_octets n ≡ 0x81 ∷ n ∷ [] → Coded n

pub coded : (n : ℕ) → Coded n
coded n = go (leb n 127) refl
  where
    go : (b : Bool) → leb n 127 ≡ b → Coded n
    go true e = one (leb-true n 127 e) (rw e)
    go false e = let l : 127 < n = leb-false n 127 e in two (omega arith) (rw e)

-- coding a length and decoding it gives the length, whatever follows
pub record Decodes (n : ℕ) (o : List ℕ) : Type 0 where
  pub formed : length_formed (length_octets n ++ o) ≡ true
  pub value : length_value (length_octets n ++ o) ≡ n
  pub size : length_size (length_octets n ++ o) ≡ length (length_octets n)
  pub rest : drop (length_size (length_octets n ++ o)) (length_octets n ++ o) ≡ o

pub coded_decodes : (n : ℕ) (o : List ℕ) → Decodes n o
coded_decodes n o = go (coded n)
  where
    go : Coded n → Decodes n o
    go (one l e) =
        let b : leb n 127 ≡ true = le-leb n 127 l in
        let c : leb 1 (length (n ∷ o)) ≡ true = le-leb 1 (length (n ∷ o)) (omega arith) in
        record { formed = rw (e, c, b); value = rw (e, b); size = rw (e, b); rest = rw (e, b) }
    go (two l e) =
        let b : leb 128 n ≡ true = le-leb 128 n l in
        let c : leb 1 (length (0x81 ∷ n ∷ o)) ≡ true = le-leb 1 (length (0x81 ∷ n ∷ o)) (omega arith) in
        record { formed = rw (e, c, b); value = rw e; size = rw e; rest = rw e }

-- decoding a length that is well formed and coding it gives the octets
pub decoded_codes : (o : List ℕ) → length_formed o ≡ true → length_octets (length_value o) ++ drop (length_size o) o ≡ o
decoded_codes [] e = absurd (clash false e refl)
decoded_codes (x ∷ o) e = let c : leb 1 (length (x ∷ o)) ≡ true = le-leb 1 (length (x ∷ o)) (omega arith) in go (leb x 127) refl (rw c at e)
  where
    go : (b : Bool) → leb x 127 ≡ b → (b || (eqb x 0x81 && leb 128 (get_or o 0 0))) ≡ true
        → length_octets (cond b x (get_or o 0 0)) ++ drop (cond b 1 2) (x ∷ o) ≡ x ∷ o
    go true f e = rw f
    go false f e = second o e
      where
        second : (o : List ℕ) → (eqb x 0x81 && leb 128 (get_or o 0 0)) ≡ true → length_octets (get_or o 0 0) ++ drop 2 (x ∷ o) ≡ x ∷ o
        second [] e = let (p, q) = both (eqb x 0x81) (leb 128 0) e in absurd (clash (leb 128 0) q refl)
        second (y ∷ o) e =
            let (p, q) = both (eqb x 0x81) (leb 128 y) e in
            let i : x ≡ 0x81 = eqb-true x 0x81 p in
            let l : 128 ≤ y = leb-true 128 y q in
            let m : leb y 127 ≡ false = lt-leb y 127 (omega arith) in rw (m, i)

-- ---- a UM
-- where what is behind the lengths begins
pub behind_start : (um : List ℕ) → drop (um_start um) um ≡ um_behind um
behind_start um = go (length_size (from_cpl um)) (length_size (from_chl um))
  where
    go : (a b : ℕ) → drop (1 + a + b) um ≡ drop b (drop a (drop 1 um))
    go a b = sym (ap (drop b) (drop-drop a 1 um) ∙ drop-drop b (1 + a) um)

-- what the lengths of a well-formed UM say
pub record UmLengths (um : List ℕ) : Type 0 where
  pub first : length_formed (from_cpl um) ≡ true
  pub counts : um_cpl um ≡ length (from_chl um)
  pub second : length_formed (from_chl um) ≡ true
  pub room : least Command ≤ um_chl um
  pub fits : um_chl um + length_size (from_chl um) ≤ um_cpl um

pub um_facts : (um : List ℕ) → um_formed um ≡ true → UmLengths um
um_facts um e =
    let a = length_formed (from_cpl um) in
    let b = eqb (um_cpl um) (length (from_chl um)) in
    let c = length_formed (from_chl um) in
    let d = leb (least Command) (um_chl um) in
    let (abcd, f) = both (a && b && c && d) (leb (um_chl um + length_size (from_chl um)) (um_cpl um)) e in
    let (abc, r) = both (a && b && c) d abcd in
    let (ab, s) = both (a && b) c abc in
    let (p, q) = both a b ab in
    record {
      first = p;
      counts = eqb-true (um_cpl um) (length (from_chl um)) q;
      second = s;
      room = leb-true (least Command) (um_chl um) r;
      fits = leb-true (um_chl um + length_size (from_chl um)) (um_cpl um) f;
    }

-- its header is within what is behind its lengths
pub um_inside : (um : List ℕ) → um_formed um ≡ true → FieldsWithin Command (um_chl um) (um_behind um)
um_inside um e =
    let f = um_facts um e in
    let n : length (um_behind um) ≡ length (from_chl um) - length_size (from_chl um) = length-drop (length_size (from_chl um)) (from_chl um) in
    let l : um_chl um ≤ length (um_behind um) = omega (arith, n, f.fits, f.counts) in record { room = f.room; fits = l }

pub um_within : (um : List ℕ) → um_formed um ≡ true → within Command (um_chl um) (um_behind um) ≡ true
um_within um e = let f = um_inside um e in within_told Command (um_chl um) (um_behind um) f.room f.fits

-- ---- writing, then reading
-- a UM that was made of a header length and octets that it ends within is read as these
pub record ReadsAs (um : List ℕ) (header : ℕ) (o : List ℕ) : Type 0 where
  pub formed : um_formed um ≡ true
  pub chl : um_chl um ≡ header
  pub behind_is : um_behind um ≡ o
  pub start : um_start um ≡ 1 + length (length_octets (length (coded_from header o))) + length (length_octets header)

pub made_reads : (h : ℕ) (o : List ℕ) → least Command ≤ h → h ≤ length o → ReadsAs (um_from h o) h o
made_reads h o l m = record { formed = formed; chl = rw (p.rest, q.value); behind_is = rw (p.rest, q.rest); start = rw (p.rest, p.size, q.size) }
  where
    n : ℕ
    n = length (coded_from h o)

    p : Decodes n (coded_from h o)
    p = coded_decodes n (coded_from h o)

    q : Decodes h o
    q = coded_decodes h o

    formed : um_formed (um_from h o) ≡ true
    formed =
        rw (p.formed, p.value, p.rest, q.formed, q.value, q.size, eq-eqb n n refl, le-leb (least Command) h l, le-leb (h + length (length_octets h)) n (rw length-append (omega arith)))

-- ---- reading, then writing
pub read_makes : (um : List ℕ) → get_or um 0 0 ≡ 3 → um_formed um ≡ true → um_from (um_chl um) (um_behind um) ≡ um
read_makes [] i e = let z : ◌≡◌ {A = ℕ} 0 3 = i in absurd (omega arith)
read_makes (x ∷ um) i e =
    let f = um_facts (x ∷ um) e in
    let c : coded_from (um_chl (x ∷ um)) (um_behind (x ∷ um)) ≡ from_chl (x ∷ um) = decoded_codes (from_chl (x ∷ um)) f.second in
    let d : length_octets (um_cpl (x ∷ um)) ++ from_chl (x ∷ um) ≡ from_cpl (x ∷ um) = decoded_codes (from_cpl (x ∷ um)) f.first in
    rw c (rw (← f.counts, d) (ap (λ (y : ℕ). y ∷ um) (sym i)))

-- ---- round trips of strings
same_fields : (c c' : Bool) (h h' : ℕ) (o o' : List ℕ) → c ≡ c' → h ≡ h' → o ≡ o' → fields_behind Command c h o ≡ fields_behind Command c' h' o'
same_fields c c' h h' o o' e f g = rw (e, f, g)

-- a string that is refused nothing in reading
pub record ReadableString (pfi dcs : ℕ) (s : List ℕ) : Type 0 where
  pub size : length s ≤ 160
  pub right : addressed pfi dcs s ≡ true
  pub formed : um_formed (drop 1 s) ≡ true
  pub checked : against_check Command (um_fields (drop 1 s)) ≡ false

pub string_reads : {A : Type 0} (pfi dcs : ℕ) (s : List ℕ) (o : Outcome A) → ReadableString pfi dcs s → readable_ussd pfi dcs s o ≡ o
string_reads pfi dcs s o r = rw (le-ltb 160 (length s) r.size, r.right, r.formed, r.checked)

pub string_gives : {A : Type 0} (pfi dcs : ℕ) (s : List ℕ) (x y : A) → readable_ussd pfi dcs s (gives x) ≡ gives y → ReadableString pfi dcs s × (x ≡ y)
string_gives pfi dcs s x y e =
    go (ltb 160 (length s)) (addressed pfi dcs s) (um_formed (drop 1 s)) (against_check Command (um_fields (drop 1 s))) refl refl refl refl e
  where
    go : (l a w b : Bool) → ltb 160 (length s) ≡ l → addressed pfi dcs s ≡ a → um_formed (drop 1 s) ≡ w → against_check Command (um_fields (drop 1 s)) ≡ b
        → (refuse 2 when l otherwise refuse 5 when not a otherwise refuse 9 when not w otherwise refuse 15 when b otherwise gives x) ≡ gives y
        → ReadableString pfi dcs s × (x ≡ y)
    go true a w b f g h i e = let z : ◌≡◌ {A = ℕ} 0 1 = cc in absurd (omega arith)
    go false false w b f g h i e = let z : ◌≡◌ {A = ℕ} 0 1 = cc in absurd (omega arith)
    go false true false b f g h i e = let z : ◌≡◌ {A = ℕ} 0 1 = cc in absurd (omega arith)
    go false true true true f g h i e = let z : ◌≡◌ {A = ℕ} 0 1 = cc in absurd (omega arith)
    go false true true false f g h i e = (record { size = ltb-false 160 (length s) f; right = g; formed = h; checked = i }, cc)

-- what was written was refused nothing, and is PFI and the UM
pub record WrittenString (pfi : ℕ) (x : Fields) (s : List ℕ) : Type 0 where
  pub fitted : Fitted Command x
  pub short : length (um_of x) ≤ 159
  pub is : s ≡ pfi ∷ um_of x

pub written_is : (pfi : ℕ) (x : Fields) (s : List ℕ) → writing_ussd pfi x ≡ gives s → WrittenString pfi x s
unfolding writing_ussd
written_is pfi x s e =
    let (f, (n, i)) = fitting_gives Command x (ltb 159 (length (um_of x))) (pfi ∷ um_of x) s e in
    record { fitted = f; short = ltb-false 159 (length (um_of x)) n; is = sym i }

pub um_reads : (x : Fields) → RightLength Command x → misfit Command x ≡ false → ReadsAs (um_of x) (header_length Command x) (behind x)
unfolding um_of
um_reads x r m = let h = header_right Command x r m in made_reads (header_length Command x) (behind x) h.0 h.1

pub um_fields_lem : (x : Fields) → RightLength Command x → Fitted Command x → um_fields (um_of x) ≡ x
um_fields_lem x r f =
    let a = um_reads x r f.fits in
    let c : ciphered_um (um_of x) ≡ is_ciphered x =
    ap ciphered_behind a.behind_is ∙ differ_none (cipher_bit (get_or (behind x) 0 0)) (is_ciphered x) f.agrees in
    same_fields (ciphered_um (um_of x)) (is_ciphered x) (um_chl (um_of x)) (header_length Command x) (um_behind (um_of x)) (behind x) c a.chl a.behind_is
    ∙ behind_fields Command x r

written_addressed : (pfi : ℕ) (x : Fields) → addressed pfi 0x96 (pfi ∷ um_of x) ≡ true
unfolding um_of
written_addressed pfi x = same_self (pfi ∷ 3 ∷ [])

-- and it is read as the fields
module _ (pfi : ℕ) (x : Fields) (s : List ℕ) (e : writing_ussd pfi x ≡ gives s) (r : RightLength Command x) where
  pub its_um : drop 1 s ≡ um_of x
  its_um = ap (drop 1) (written_is pfi x s e).is

  its_fields : um_fields (drop 1 s) ≡ x
  its_fields = ap um_fields its_um ∙ um_fields_lem x r (written_is pfi x s e).fitted

  pub written_readable : ReadableString pfi 0x96 s
  written_readable =
      let w = written_is pfi x s e in
      let n : length s ≡ 1 + length (um_of x) = ap length w.is ∙ omega arith in
      let a : addressed pfi 0x96 s ≡ true = ap (addressed pfi 0x96) w.is ∙ written_addressed pfi x in
      let b : um_formed (drop 1 s) ≡ true = ap um_formed its_um ∙ (um_reads x r w.fitted.fits).formed in
      let c : against_check Command (um_fields (drop 1 s)) ≡ false = ap (against_check Command) its_fields ∙ w.fitted.checked in
      record { size = omega (arith, n, w.short); right = a; formed = b; checked = c }

  pub written_reads : {A : Type 0} (f : Fields → A) → readable_ussd pfi 0x96 s (gives (f (um_fields (drop 1 s)))) ≡ gives (f x)
  written_reads f = string_reads pfi 0x96 s (gives (f (um_fields (drop 1 s)))) written_readable ∙ ap (λ (y : Fields). gives (f y)) its_fields

-- reading a string and writing its fields gives the string, octet for octet
octets_drop : (n : ℕ) (o : List ℕ) → Octets o → Octets (drop n o)
octets_drop n o b i = rw (get_or-drop n o i 0) (b (n + i))

value_octet : (o : List ℕ) → Octets o → length_value o < 256
value_octet o b = go (leb (get_or o 0 0) 127)
  where
    go : (t : Bool) → cond t (get_or o 0 0) (get_or o 1 0) < 256
    go true = b 0
    go false = b 1

begins : (pfi : ℕ) (s : List ℕ) → same_octets (take 2 s) (pfi ∷ 3 ∷ []) ≡ true → (s ≡ pfi ∷ drop 1 s) × (get_or (drop 1 s) 0 0 ≡ 3)
begins pfi [] e = absurd (same_none e)
  where
    same_none : same_octets [] (pfi ∷ 3 ∷ []) ≡ true → ⊥
    same_none e = let z : ◌≡◌ {A = ℕ} 0 2 = ap length (same_true [] (pfi ∷ 3 ∷ []) e) in omega arith
begins pfi (x ∷ []) e = let z : ◌≡◌ {A = ℕ} 1 2 = ap length (same_true (x ∷ []) (pfi ∷ 3 ∷ []) e) in absurd (omega arith)
begins pfi (x ∷ y ∷ s) e =
    let q = same_true (x ∷ y ∷ []) (pfi ∷ 3 ∷ []) e in
    let a : x ≡ pfi = ap (λ (o : List ℕ). get_or o 0 0) q in
    let b : y ≡ 3 = ap (λ (o : List ℕ). get_or o 1 0) q in (ap (λ (z : ℕ). z ∷ y ∷ s) a, b)

um_again : (um : List ℕ) → get_or um 0 0 ≡ 3 → um_formed um ≡ true → um_of (um_fields um) ≡ um
unfolding um_of
um_again um i e =
    let f = um_inside um e in
    same_um (header_length Command (um_fields um)) (um_chl um) (behind (um_fields um)) (um_behind um)
    (same_header Command (ciphered_um um) (um_chl um) (um_behind um) f) (same_behind Command (ciphered_um um) (um_chl um) (um_behind um) f) ∙ read_makes um i e
  where
    same_um : (h h' : ℕ) (o o' : List ℕ) → h ≡ h' → o ≡ o' → um_from h o ≡ um_from h' o'
    same_um h h' o o' e f = ap (λ (y : ℕ). um_from y o) e ∙ ap (um_from h') f

pub read_writes : (pfi dcs : ℕ) (s : List ℕ) → ReadableString pfi dcs s → Octets s → writing_ussd pfi (um_fields (drop 1 s)) ≡ gives s
unfolding writing_ussd
read_writes pfi dcs s r b =
    let um = drop 1 s in
    let t = (both (eqb dcs 0x96) (same_octets (take 2 s) (pfi ∷ 3 ∷ [])) r.right).1 in
    let (p, i) = begins pfi s t in
    let q : um_of (um_fields um) ≡ um = um_again um i r.formed in
    let n : length s ≡ 1 + length um = ap length p ∙ omega arith in
    let l : ltb 159 (length (um_of (um_fields um))) ≡ false = ap (λ (o : List ℕ). ltb 159 (length o)) q ∙ le-ltb 159 (length um) (omega (arith, n, r.size)) in
    let v : um_chl um < 256 = value_octet (from_chl um) (octets_drop (length_size (from_cpl um)) (from_cpl um) (octets_drop 1 um (octets_drop 1 s b))) in
    fitting_again Command (ciphered_um um) (um_chl um) (um_behind um) (um_inside um r.formed) (gives (pfi ∷ um_of (um_fields um))) (omega arith) r.checked (λ k. refl)
    (ltb 159 (length (um_of (um_fields um)))) l
    ∙ ap gives (ap (λ (o : List ℕ). pfi ∷ o) q ∙ sym p)
