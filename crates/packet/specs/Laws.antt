-- Laws of the rules for packets: the layout, what can be read, and what building and then reading, or reading and then writing, gives of the
-- fields. Those that rest on the rule of a packet's lengths, with the two round trips of whole packets, stand in proofs/PacketLaws.antt.
use Rattle.std.specs.Prelude.{ℕ, ◌+◌, ◌-◌, ◌≤◌, ◌≡◌, refl, Bool, true, false, ◌||◌, List, ◌++◌, length, get_or, take, drop, ltb, leb}
use Rattle.std.proofs.Common.{sym, arith, length-append, length-take, length-drop, take-append-drop, take_at, drop_at, drop-drop, leb-true, le-leb, ltb-false, le-ltb}
use Rattle.std.proofs.Math.Path.{ap}
use Rattle.std.proofs.Math.Nat.{add-sub_cancel_left}
use Rattle.std.proofs.Math.Seq.{take-append_seam, drop-append_seam, drop-append-add}
use Rattle.octets.specs.Tests.{both, neither}
use Rattle.types.specs.declared.Kind.{Kind}
use Rattle.types.specs.declared.Kind.TheVariants.{Command, Response}
use Rattle.types.specs.Refusals.{Outcome, gives, refuse◌when◌otherwise◌}
use Rattle.packet.specs.Packets.{before, least, cpl, chl, well_formed, within, Fields, plain, ciphered, fields_behind, fields_of, cipher_bit, ciphered_behind, ciphered_command, against_check, readable, header_length, behind, packet_from, packet_of, is_ciphered, differ, against_spi, misfit, fitting, building}

-- ---- the layout
-- something stands before CNTR; CNTR and PCNTR lie before the check field; what lies there is little
pub before_some : (k : Kind) → 1 ≤ before k
before_some Command = omega arith
before_some Response = omega arith

pub before_least : (k : Kind) → before k + 6 ≤ least k
before_least Command = omega arith
before_least Response = omega arith

pub least_most : (k : Kind) → least k ≤ 13
least_most Command = omega arith
least_most Response = omega arith

-- ---- behind the lengths
-- what a header within the octets behind the lengths is
pub record FieldsWithin (k : Kind) (header : ℕ) (o : List ℕ) : Type 0 where
  pub room : least k ≤ header
  pub fits : header ≤ length o

pub within_facts : (k : Kind) (h : ℕ) (o : List ℕ) → within k h o ≡ true → FieldsWithin k h o
within_facts k h o e =
    let (r, f) = both (leb (least k) h) (leb h (length o)) e in
    let r' = leb-true (least k) h r in
    let f' = leb-true h (length o) f in record { room = r'; fits = f' }

pub within_told : (k : Kind) (h : ℕ) (o : List ℕ) → least k ≤ h → h ≤ length o → within k h o ≡ true
within_told k h o l m = rw (le-leb (least k) h l, le-leb h (length o) m)

-- ---- well formed
-- what a well-formed packet's lengths are: CPL counts all but itself, the header has room for its fixed fields, and lies within the packet
pub record PacketLengths (k : Kind) (p : List ℕ) : Type 0 where
  pub whole : cpl p + 2 ≡ length p
  pub room : least k ≤ chl p
  pub inside : chl p + 3 ≤ length p

-- a well-formed packet that is not too long, and whose check bits agree with its check field, is refused nothing in reading
pub readable_formed : {A : Type 0} (k : Kind) (c : Bool) (p : List ℕ) (o : Outcome A) → well_formed k p ≡ true → length p ≤ 2142
    → against_check k (fields_of k c p) ≡ false → readable k c p o ≡ o
readable_formed k c p o w l a = rw (w, le-ltb 2142 (length p) l, a)

-- ---- building, then reading
-- the fields before the check field, or those in the clear, are as many as the kind has
abbrev pub RightLength : Kind → Fields → Type 0
RightLength k (plain f c d) = length f ≡ least k
RightLength k (ciphered f h o) = length f ≡ before k

-- fields that are refused nothing, whatever carries them
pub record Fitted (k : Kind) (x : Fields) : Type 0 where
  pub agrees : against_spi k x ≡ false
  pub fits : misfit k x ≡ false
  pub checked : against_check k x ≡ false

pub fitting_gives : {A : Type 0} (k : Kind) (x : Fields) (long : Bool) (y z : A) → fitting k x long (gives y) ≡ gives z
    → Fitted k x × ((long ≡ false) × (y ≡ z))
fitting_gives k x long y z e = go (against_spi k x) (misfit k x) (against_check k x) long refl refl refl e
  where
    go : (a m b l : Bool) → against_spi k x ≡ a → misfit k x ≡ m → against_check k x ≡ b
        → (refuse 10 when a otherwise refuse 11 when m otherwise refuse 15 when b otherwise refuse 12 when l otherwise gives y) ≡ gives z
        → Fitted k x × ((l ≡ false) × (y ≡ z))
    go true m b l i j c e = let z : ◌≡◌ {A = ℕ} 0 1 = cc in absurd (omega arith)
    go false true b l i j c e = let z : ◌≡◌ {A = ℕ} 0 1 = cc in absurd (omega arith)
    go false false true l i j c e = let z : ◌≡◌ {A = ℕ} 0 1 = cc in absurd (omega arith)
    go false false false true i j c e = let z : ◌≡◌ {A = ℕ} 0 1 = cc in absurd (omega arith)
    go false false false false i j c e = (record { agrees = i; fits = j; checked = c }, (refl, cc))

-- what was built was refused nothing
pub record Built (k : Kind) (x : Fields) (p : List ℕ) : Type 0 where
  pub fitted : Fitted k x
  pub short : length p ≤ 2142
  pub is : p ≡ packet_from (header_length k x) (behind x)

pub built_is : (k : Kind) (x : Fields) (p : List ℕ) → building k x ≡ gives p → Built k x p
unfolding building packet_of
built_is k x p e =
    let (f, (n, s)) = fitting_gives k x (ltb 2142 (length (packet_of k x))) (packet_of k x) p e in
    let s' : packet_from (header_length k x) (behind x) ≡ p = s in
    let m = ltb-false 2142 (length (packet_from (header_length k x) (behind x))) n in
    record { fitted = f; short = omega (arith, m, ap length s'); is = sym s' }

-- the header length has room for the fixed fields and lies within what stands behind the lengths
pub header_right : (k : Kind) (x : Fields) → RightLength k x → misfit k x ≡ false → (least k ≤ header_length k x) × (header_length k x ≤ length (behind x))
header_right k (plain f c d) r m = (omega arith, simp length-append (omega arith))
header_right k (ciphered f h o) r m =
    let (u, v) = neither (ltb h (least k) || ltb 255 h) (ltb (length o) (h - before k)) m in
    let l : least k ≤ h = ltb-false h (least k) (neither (ltb h (least k)) (ltb 255 h) u).0 in
    let n : h - before k ≤ length o = ltb-false (length o) (h - before k) v in (l, simp length-append (omega arith))

pub behind_fields : (k : Kind) (x : Fields) → RightLength k x → fields_behind k (is_ciphered x) (header_length k x) (behind x) ≡ x
behind_fields k (plain f c d) r =
    rw (← r, take-append_seam f (c ++ d), drop-append_seam f (c ++ d), add-sub_cancel_left, take-append_seam c d, drop-append-add f (c ++ d) (length c), drop-append_seam c d)
behind_fields k (ciphered f h o) r = rw (take_at f o (before k) r, drop_at f o (before k) r)

-- and reading it gives the same fields
pub built_fields : (k : Kind) (x : Fields) (p : List ℕ) → building k x ≡ gives p → RightLength k x → fields_of k (is_ciphered x) p ≡ x
built_fields k x p e r = let b = built_is k x p e in rw b.is (behind_fields k x r)

-- so its check bits agree with its check field
pub built_checked : (k : Kind) (x : Fields) (p : List ℕ) → building k x ≡ gives p → RightLength k x → against_check k (fields_of k (is_ciphered x) p) ≡ false
built_checked k x p e r = rw (built_fields k x p e r) (built_is k x p e).fitted.checked

pub differ_none : (a b : Bool) → differ a b ≡ false → a ≡ b
differ_none true true e = refl
differ_none true false e = e
differ_none false b e = sym e

-- a command says itself which body it has
pub built_cipher : (x : Fields) (p : List ℕ) → building Command x ≡ gives p → ciphered_command p ≡ is_ciphered x
built_cipher x p e =
    let b = built_is Command x p e in rw b.is (differ_none (cipher_bit (get_or (behind x) 0 0)) (is_ciphered x) b.fitted.agrees)

-- ---- reading, then building
pub differ_self : (a : Bool) → differ a a ≡ false
differ_self true = refl
differ_self false = refl

said : (k : Kind) (c : Bool) (h : ℕ) (o : List ℕ) → is_ciphered (fields_behind k c h o) ≡ c
said k true h o = refl
said k false h o = refl

behind_again : (k : Kind) (c : Bool) (h : ℕ) (o : List ℕ) → least k ≤ h → behind (fields_behind k c h o) ≡ o
behind_again k true h o l = take-append-drop (before k) o
behind_again k false h o l =
    let n : least k + (h - least k) ≡ h = omega arith in
    let s : drop h o ≡ drop (h - least k) (drop (least k) o) = sym (rw n at (drop-drop (h - least k) (least k) o)) in
    rw (s, take-append-drop (h - least k) (drop (least k) o)) (take-append-drop (least k) o)

header_again : (k : Kind) (c : Bool) (h : ℕ) (o : List ℕ) → least k ≤ h → h ≤ length o → header_length k (fields_behind k c h o) ≡ h
header_again k true h o l m = refl
header_again k false h o l m = simp (length-take, length-drop) (omega arith)

misfit_again : (k : Kind) (c : Bool) (h : ℕ) (o : List ℕ) → least k ≤ h → h ≤ 255 → h ≤ length o → misfit k (fields_behind k c h o) ≡ false
misfit_again k true h o l b m =
    rw (le-ltb h (least k) l, le-ltb 255 h b, length-drop, le-ltb (length o - before k) (h - before k) (omega arith))
misfit_again k false h o l b m =
    le-ltb (255 - least k) (length (take (h - least k) (drop (least k) o))) (simp (length-take, length-drop) (omega arith))

against_again : (k : Kind) (c : Bool) (h : ℕ) (o : List ℕ) → least k ≤ h → (k ≡ Command → c ≡ ciphered_behind o) → against_spi k (fields_behind k c h o) ≡ false
against_again Command c h o l s =
    rw (said Command c h o, behind_again Command c h o l) (rw (← s refl) (differ_self c))
against_again Response c h o l s = refl

-- the fields of octets that were read are refused nothing in writing, whatever carries them, and are the same octets behind the lengths
module _ (k : Kind) (c : Bool) (h : ℕ) (o : List ℕ) (f : FieldsWithin k h o) where
  pub fitting_again : {A : Type 0} (r : Outcome A) → h ≤ 255 → against_check k (fields_behind k c h o) ≡ false → (k ≡ Command → c ≡ ciphered_behind o)
      → (long : Bool) → long ≡ false → fitting k (fields_behind k c h o) long r ≡ r
  fitting_again r b a s long l = rw (against_again k c h o f.room s, misfit_again k c h o f.room b f.fits, a, l)

  pub same_behind : behind (fields_behind k c h o) ≡ o
  same_behind = behind_again k c h o f.room

  pub same_header : header_length k (fields_behind k c h o) ≡ h
  same_header = header_again k c h o f.room f.fits
