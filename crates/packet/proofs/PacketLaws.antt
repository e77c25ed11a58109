-- Laws of whole packets: what the lengths of a well-formed packet say, and the two round trips.
use Rattle.std.specs.declared.result.Result.{Result}
use Rattle.std.specs.declared.result.Result.TheVariants.{Ok}
use Rattle.types.specs.declared.Refusal.{Refusal}
use Rattle.std.specs.Prelude.{ℕ, suc, ◌+◌, ◌/◌, ◌%◌, ◌≤◌, ◌<◌, ◌≡◌, refl, Bool, true, false, ◌&&◌, List, [], ◌∷◌, ◌++◌, length, get_or, take, drop, eqb, ltb, leb}
use Rattle.std.proofs.Common.{sym, ◌∙◌, arith, length-append, length-drop, get_or-drop, eqb-true, eq-eqb, leb-true, le-leb, le-ltb}
use Rattle.std.proofs.Math.Path.{ap}
use Rattle.std.proofs.Math.Seq.{take-append_seam, drop-append_seam, drop-append-add}
use Rattle.octets.specs.Tests.{both}
use Rattle.octets.specs.Octets.{pair_of}
use Rattle.octets.specs.Laws.{number_of_pair}
use Rattle.types.specs.declared.Kind.{Kind}
use Rattle.types.specs.declared.Kind.TheVariants.{Command}
use Rattle.types.specs.Refusals.{gives}
use Rattle.packet.specs.Packets.{least, cpl, chl, well_formed, within, Fields, plain, fields_of, ciphered_command, measured, against_check, readable, parsing, shown, secured_of, check_of, opaque_of, shown_data, shown_check, shown_opaque, header_length, behind, packet_from, packet_of, is_ciphered, building, fixed_octets, without_check, checksum_octets}
use Rattle.packet.specs.Laws.{within_facts, within_told, PacketLengths, readable_formed, RightLength, built_is, header_right, built_fields, built_checked, fitting_again, same_behind, same_header}
use Rattle.packet.specs.Judging.{told_judged, readable_gives}

-- ---- well formed
pub formed_facts : (k : Kind) (p : List ℕ) → well_formed k p ≡ true → PacketLengths k p
formed_facts k p e =
    let (f, h) = both (eqb (cpl p + 2) (length p) && leb (least k) (chl p)) (leb (chl p + 1) (cpl p)) e in
    let (w, r) = both (eqb (cpl p + 2) (length p)) (leb (least k) (chl p)) f in
    let w' = eqb-true (cpl p + 2) (length p) w in
    let r' = leb-true (least k) (chl p) r in
    let h' = leb-true (chl p + 1) (cpl p) h in record { whole = w'; room = r'; inside = omega arith }

-- the header of a well-formed packet is within what is behind its lengths
pub formed_within : (k : Kind) (p : List ℕ) → well_formed k p ≡ true → within k (chl p) (drop 3 p) ≡ true
formed_within k p e = let f = formed_facts k p e in within_told k (chl p) (drop 3 p) f.room (rw length-drop (omega arith))

-- so of a packet that can be read
module _ (k : Kind) (c : Bool) (p : List ℕ) where
  module _ (j : Result ℕ Refusal) (e : told_judged j ≡ readable k c p (gives (chl p))) where
    module _ (h : ℕ) (t : j ≡ Ok h) where
      pub judged_formed : PacketLengths k p
      judged_formed = formed_facts k p (readable_gives k c p (chl p) h (sym (ap told_judged t) ∙ e)).0.formed

-- ---- building, then reading
from_formed : (k : Kind) (h : ℕ) (o : List ℕ) → least k ≤ h → h ≤ length o → well_formed k (packet_from h o) ≡ true
from_formed k h o l m =
    let n : cpl (packet_from h o) ≡ 1 + length o = number_of_pair (1 + length o) in
    rw (n, eq-eqb (1 + length o + 2) (length (packet_from h o)) (omega arith), le-leb (least k) h l, le-leb (h + 1) (1 + length o) (omega arith))

-- what building gives is well formed and no longer than a packet may be
pub built_formed : (k : Kind) (x : Fields) (p : List ℕ) → building k x ≡ gives p → RightLength k x → (well_formed k p ≡ true) × (length p ≤ 2142)
built_formed k x p e r =
    let b = built_is k x p e in
    let h = header_right k x r b.fitted.fits in (rw b.is (from_formed k (header_length k x) (behind x) h.0 h.1), b.short)

-- so parsing answers with these fields, and the parts shown are those given
module _ (k : Kind) (x : Fields) (p : List ℕ) (e : building k x ≡ gives p) (r : RightLength k x) where
  read_back : {A : Type 0} (f : Fields → A) → readable k (is_ciphered x) p (gives (f (fields_of k (is_ciphered x) p))) ≡ gives (f x)
  read_back f =
      let w = built_formed k x p e r in
      readable_formed k (is_ciphered x) p (gives (f (fields_of k (is_ciphered x) p))) w.0 w.1 (built_checked k x p e r)
      ∙ ap (λ (y : Fields). gives (f y)) (built_fields k x p e r)

  pub built_parsed : parsing k (is_ciphered x) p ≡ gives (measured x)
  unfolding parsing
  built_parsed = read_back measured

  pub built_data : shown_data k (is_ciphered x) p ≡ secured_of x
  unfolding shown_data
  built_data = ap shown (read_back secured_of)

  pub built_check : shown_check k (is_ciphered x) p ≡ check_of x
  unfolding shown_check
  built_check = ap shown (read_back check_of)

  pub built_opaque : shown_opaque k (is_ciphered x) p ≡ opaque_of x
  unfolding shown_opaque
  built_opaque = ap shown (read_back opaque_of)

-- ---- building plain fields, then the octets of a checksum
-- the packet without its check field: the two lengths, the fields before it, the data
without_check_lem : (a b h m : ℕ) (f c d : List ℕ) → length f ≡ m
    → take (3 + m) (a ∷ b ∷ h ∷ (f ++ (c ++ d))) ++ drop (3 + (m + length c)) (a ∷ b ∷ h ∷ (f ++ (c ++ d))) ≡ a ∷ b ∷ h ∷ (f ++ d)
without_check_lem a b h m f c d r =
    let x : 3 + m ≡ suc (suc (suc m)) = omega arith in
    let y : 3 + (m + length c) ≡ suc (suc (suc (m + length c))) = omega arith in
    rw (x, y, ← r, take-append_seam f (c ++ d), drop-append-add f (c ++ d) (length c), drop-append_seam c d)

pub built_checksum : (k : Kind) (f c d p : List ℕ) → length f ≡ least k → building k (plain f c d) ≡ gives p
    → checksum_octets k false p
    ≡ gives (fixed_octets k ++ ((pair_of (1 + (least k + length c + length d))).0 ∷ (pair_of (1 + (least k + length c + length d))).1 ∷ (least k + length c) ∷ (f ++ d)))
unfolding checksum_octets
built_checksum k f c d p r e =
    let b = built_is k (plain f c d) p e in
    let w = built_formed k (plain f c d) p e r in
    let n : 1 + length (f ++ (c ++ d)) ≡ 1 + (least k + length c + length d) = simp length-append (omega arith) in
    readable_formed k false p (gives (fixed_octets k ++ without_check k p)) w.0 w.1 (built_checked k (plain f c d) p e r)
    ∙ rw (b.is, without_check_lem (pair_of (1 + length (f ++ (c ++ d)))).0 (pair_of (1 + length (f ++ (c ++ d)))).1 (least k + length c) (least k) f c d r, n)

-- ---- reading, then building
three_more : (p : List ℕ) → 3 ≤ length p → get_or p 0 0 ∷ get_or p 1 0 ∷ get_or p 2 0 ∷ drop 3 p ≡ p
three_more [] l = absurd (omega arith)
three_more (a ∷ []) l = absurd (omega arith)
three_more (a ∷ b ∷ []) l = absurd (omega arith)
three_more (a ∷ b ∷ c ∷ p) l = refl

packet_again : (k : Kind) (p : List ℕ) → PacketLengths k p → get_or p 1 0 < 256 → packet_from (chl p) (drop 3 p) ≡ p
packet_again k p f l =
    let n : 1 + length (drop 3 p) ≡ cpl p = rw length-drop (omega arith) in
    let u : cpl p / 256 ≡ get_or p 0 0 = omega arith in
    let v : cpl p % 256 ≡ get_or p 1 0 = omega arith in rw (n, u, v) (three_more p (omega arith))

-- reading a packet that is refused nothing and building from its fields gives the packet, octet for octet
pub read_built : (k : Kind) (c : Bool) (p : List ℕ) → well_formed k p ≡ true → length p ≤ 2142 → against_check k (fields_of k c p) ≡ false
    → ((i : ℕ) → get_or p i 0 < 256) → (k ≡ Command → c ≡ ciphered_command p) → building k (fields_of k c p) ≡ gives p
unfolding building packet_of
read_built k c p w l a o s =
    let f = formed_facts k p w in
    let i = within_facts k (chl p) (drop 3 p) (formed_within k p w) in
    let q : packet_of k (fields_of k c p) ≡ p =
    rw (same_header k c (chl p) (drop 3 p) i, same_behind k c (chl p) (drop 3 p) i) (packet_again k p f (o 1)) in
    let b : chl p ≤ 255 = omega (arith, o 2) in
    let t : ltb 2142 (length (packet_of k (fields_of k c p))) ≡ false =
    ap (λ (x : List ℕ). ltb 2142 (length x)) q ∙ le-ltb 2142 (length p) l in
    fitting_again k c (chl p) (drop 3 p) i (gives (packet_of k (fields_of k c p))) b a (λ e. rw (get_or-drop 3 p 0 0) (s e))
    (ltb 2142 (length (packet_of k (fields_of k c p)))) t ∙ ap gives q
