-- Laws of USSD strings: the octets of a checksum, of a string that is written of plain fields.
use Rattle.std.specs.Prelude.{ℕ, ◌+◌, ◌≡◌, true, false, List, ◌∷◌, ◌++◌, length, get_or, take, drop, leb}
use Rattle.std.proofs.Common.{sym, ap, ◌∙◌, append_assoc, arith, length-append, take-add, le-leb}
use Rattle.std.proofs.Math.Seq.{take-append_seam, drop-append_seam, drop-append-add}
use Rattle.octets.specs.Tests.{both_hold}
use Rattle.types.specs.declared.Kind.TheVariants.{Command}
use Rattle.types.specs.Refusals.{gives}
use Rattle.packet.specs.Packets.{plain, cipher_bit, ciphered_behind, against_check, behind, runs_from}
use Rattle.packet.specs.Laws.{differ_none}
use Rattle.ussd.specs.Ussd.{length_octets, um_chl, um_start, um_formed, ciphered_um, um_fields, coded_from, um_of, writing_ussd, is_um, ussd_checksum_octets}
use Rattle.ussd.specs.Laws.{written_is, um_reads, um_fields_lem, its_um}

-- ---- the octets of a checksum
cut : (lead f c d : List ℕ) (n m : ℕ) → n ≡ length lead → m ≡ length f → take (n + m) (lead ++ (f ++ (c ++ d))) ++ drop (n + (m + length c)) (lead ++ (f ++ (c ++ d))) ≡ lead ++ (f ++ d)
cut lead f c d n m e g =
    rw (e, g, take-add (length lead) (length f) (lead ++ (f ++ (c ++ d))), take-append_seam lead (f ++ (c ++ d)), drop-append_seam lead (f ++ (c ++ d)), take-append_seam f (c ++ d), drop-append-add lead (f ++ (c ++ d)) (length f + length c), drop-append-add f (c ++ d) (length c), drop-append_seam c d, append_assoc)

runs_cut : (um lead f c d : List ℕ) (start h : ℕ) → um ≡ lead ++ (f ++ (c ++ d)) → start ≡ length lead → length f ≡ 13 → h ≡ 13 + length c
    → runs_from start Command h um ≡ lead ++ (f ++ d)
runs_cut um lead f c d start h e s r g = rw (e, g) (cut lead f c d start 13 s (sym r))

sum_given : (um : List ℕ) → is_um um ≡ true → against_check Command (um_fields um) ≡ false → ciphered_um um ≡ false
    → ussd_checksum_octets um ≡ gives (runs_from (um_start um) Command (um_chl um) um)
unfolding ussd_checksum_octets
sum_given um i a c = rw (i, a, c)

-- of a string written of plain fields: identifier, CPL, CHL, the fields before the check field, the data
pub written_checksum : (pfi : ℕ) (f c d s : List ℕ) → length f ≡ 13 → writing_ussd pfi (plain f c d) ≡ gives s
    → ussd_checksum_octets (drop 1 s)
    ≡ gives (0x03 ∷ (length_octets (length (coded_from (13 + length c) (f ++ (c ++ d)))) ++ (length_octets (13 + length c) ++ (f ++ d))))
unfolding um_of
written_checksum pfi f c d s r e =
    let x = plain f c d in
    let w = written_is pfi x s e in
    let a = um_reads x r w.fitted.fits in
    let h = 13 + length c in
    let q = f ++ (c ++ d) in
    let n = length (coded_from h q) in
    let lead : List ℕ = 3 ∷ (length_octets n ++ length_octets h) in
    let few : leb (length (um_of x)) 159 ≡ true = le-leb (length (um_of x)) 159 w.short in
    let i : is_um (um_of x) ≡ true = both_hold (leb (length (um_of x)) 159) (um_formed (um_of x)) few a.formed in
    let u : against_check Command (um_fields (um_of x)) ≡ false = ap (against_check Command) (um_fields_lem x r w.fitted) ∙ w.fitted.checked in
    let v : ciphered_um (um_of x) ≡ false = ap ciphered_behind a.behind_is ∙ differ_none (cipher_bit (get_or (behind x) 0 0)) false w.fitted.agrees in
    let o : um_of x ≡ lead ++ q = ap (λ (y : List ℕ). 3 ∷ y) (sym (append_assoc (length_octets n) (length_octets h) q)) in
    let l : um_start (um_of x) ≡ length lead = a.start ∙ omega (arith, length-append (length_octets n) (length_octets h)) in
    ap ussd_checksum_octets (its_um pfi x s e r) ∙ sum_given (um_of x) i u v
    ∙ ap gives (runs_cut (um_of x) lead f c d (um_start (um_of x)) (um_chl (um_of x)) o l r a.chl ∙ ap (λ (y : List ℕ). 3 ∷ y) (append_assoc (length_octets n) (length_octets h) (f ++ d)))
