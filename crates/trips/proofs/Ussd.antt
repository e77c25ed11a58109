-- Single USSD messages: by the laws of `ussd`, and the examples by computing.
use Prim.Native.Nat.{ℕ, ◌+◌, ◌≤◌, ◌<◌}
use mathlib.Core.Path.{◌≡◌, refl, sym, ap, ◌∙◌}
use mathlib.Core.Bool.{Bool, true, false, ◌&&◌}
use mathlib.Core.List.{List, [], ◌∷◌, ◌++◌}
use native.Mathlib.Omega.{arith}
use lib.ListN.{length, get_or, drop, length-append, length-drop}
use lib.Dec.{eqb, leb}
use borrow.Author.Tests.{lt-ltb, le-ltb, le-leb, lt-leb, eq-eqb, ne_eqb}
use Rattle.octets.specs.Octets.{Octets, same_octets}
use Rattle.octets.specs.Laws.{same_self, same_true}
use Rattle.octets.specs.Tests.{by_test}
use Rattle.types.specs.declared.CommandBody.{CommandBody}
use Rattle.types.specs.declared.CommandBody.TheVariants as command
use Rattle.types.specs.Refusals.{gives, writes}
use Rattle.packet.specs.Packets.{Fields, plain, ciphered, Parsed, measured, shown, secured_of, check_of, opaque_of}
use Rattle.packet.specs.Told.{command_fields}
use Rattle.ussd.specs.Ussd.{length_octets, length_formed, from_cpl, from_chl, um_cpl, um_formed, um_fields, addressed, readable_ussd, read_ussd, shown_ussd_data, shown_ussd_check, shown_ussd_opaque, coded_from, um_from, um_of, writing_ussd, written_ussd, is_um, ussd_checksum_octets}
use Rattle.ussd.specs.Laws.{Coded, one, two, coded, coded_decodes, decoded_codes, um_facts, string_reads, string_gives, written_readable, written_reads, read_writes}
use Rattle.ussd.proofs.ChecksumLaws.{written_checksum}
use Rattle.sequences.proofs.Written.{Small, done, and, small_octets}
use Rattle.trips.specs.RoundTrips.{fields_from}
use Rattle.trips.specs.Ussd.{LengthCoding, Addressing, ReadsOrRefuses, WritesOrRefuses, SumsOrRefuses, WriteThenRead, ReadThenWrite, ReadThenWriteCalls, UmLength, ussd_examples, EveryUssd, UssdMessages}

-- ---- lengths
coded_octets : (n : ℕ) → n ≤ 255 → Octets (length_octets n)
coded_octets n l = go (coded n)
  where
    last : Small (n ∷ [])
    last = and n (omega arith) done

    go : Coded n → Octets (length_octets n)
    go (one m e) = rw e (small_octets last)
    go (two m e) = rw e (small_octets (and 0x81 (omega arith) last))

first_only : (x : ℕ) (o : List ℕ) → 128 ≤ x → (eqb x 0x81 && leb 128 (get_or o 0 0)) ≡ false → length_formed (x ∷ o) ≡ false
first_only x o l e =
    let c : leb 1 (length (x ∷ o)) ≡ true = le-leb 1 (length (x ∷ o)) (omega arith) in
    let m : leb x 127 ≡ false = lt-leb x 127 (omega arith) in rw (c, m) e

length_coding : LengthCoding
length_coding = record {
  octets = coded_octets;
  coded_formed = λ n l o. (coded_decodes n o).formed;
  coded_value = λ n l o. (coded_decodes n o).value;
  coded_rest = λ n l o. (coded_decodes n o).rest;
  decoded_coded = decoded_codes;
  short = λ n l. rw (le-leb n 127 l);
  long = λ n l. rw (lt-leb n 127 (omega arith));
  none = refl;
  open_ended = λ o. first_only 0x80 o (omega arith) refl;
  alone = first_only 0x81 [] (omega arith) refl;
  longer_form = λ n o l. first_only 0x81 (n ∷ o) (omega arith) (lt-leb 128 n (omega arith));
  other_form = λ x o l. first_only x o (omega arith) (rw (ne_eqb x 0x81 (λ e. omega arith)));
}

-- ---- refusals
not_same : (a b : List ℕ) → (a ≡ b → ⊥) → same_octets a b ≡ false
not_same a b n = by_test (same_octets a b) (λ e. absurd (n (same_true a b e))) (λ e. e)

second_false : (a b : Bool) → b ≡ false → a && b ≡ false
second_false true b e = e
second_false false b e = refl

unlike : (pfi dcs : ℕ) (s t : List ℕ) → (t ≡ pfi ∷ 3 ∷ [] → ⊥) → eqb dcs 0x96 && same_octets t (pfi ∷ 3 ∷ []) ≡ false
unlike pfi dcs s t n = second_false (eqb dcs 0x96) (same_octets t (pfi ∷ 3 ∷ [])) (not_same t (pfi ∷ 3 ∷ []) n)

addressing : Addressing
addressing = record {
  other_dcs = λ pfi dcs s n. rw (ne_eqb dcs 0x96 n);
  no_pfi = λ pfi dcs. unlike pfi dcs [] [] (λ e. let z : ◌≡◌ {A = ℕ} 0 2 = ap length e in omega arith);
  other_pfi = λ pfi dcs x s n. other pfi dcs x s n;
  no_identifier = λ pfi dcs x. unlike pfi dcs (x ∷ []) (x ∷ []) (λ e. let z : ◌≡◌ {A = ℕ} 1 2 = ap length e in omega arith);
  other_identifier = λ pfi dcs x y s n. unlike pfi dcs (x ∷ y ∷ s) (x ∷ y ∷ []) (λ e. n (ap (λ (o : List ℕ). get_or o 1 0) e));
  right = λ pfi s. same_self (pfi ∷ 3 ∷ []);
}
  where
    other : (pfi dcs x : ℕ) (s : List ℕ) → (x ≡ pfi → ⊥) → addressed pfi dcs (x ∷ s) ≡ false
    other pfi dcs x [] n = unlike pfi dcs (x ∷ []) (x ∷ []) (λ e. n (ap (λ (o : List ℕ). get_or o 0 0) e))
    other pfi dcs x (y ∷ s) n = unlike pfi dcs (x ∷ y ∷ s) (x ∷ y ∷ []) (λ e. n (ap (λ (o : List ℕ). get_or o 0 0) e))

reads_or_refuses : (pfi dcs : ℕ) (s : List ℕ) → ReadsOrRefuses pfi dcs s
unfolding read_ussd
reads_or_refuses pfi dcs s = record {
  two = λ l. rw (lt-ltb 160 (length s) l);
  five = λ l a. rw (le-ltb 160 (length s) l, a);
  nine = λ l a w. rw (le-ltb 160 (length s) l, a, w);
  fifteen = λ l a w b. rw (le-ltb 160 (length s) l, a, w, b);
  given = λ l a w b. rw (le-ltb 160 (length s) l, a, w, b);
}

writes_or_refuses : (pfi : ℕ) (x : Fields) → WritesOrRefuses pfi x
unfolding writing_ussd
writes_or_refuses pfi x = record {
  ten = λ a. rw a;
  eleven = λ a m. rw (a, m);
  fifteen = λ a m u. rw (a, m, u);
  twelve = λ a m u l. rw (a, m, u, lt-ltb 159 (length (um_of x)) l);
  given = λ a m u l. rw (a, m, u, le-ltb 159 (length (um_of x)) l);
}

sums_or_refuses : (um : List ℕ) → SumsOrRefuses um
unfolding ussd_checksum_octets
sums_or_refuses um = record {
  nine = λ w. rw w;
  fifteen = λ w a. rw (w, a);
  ten = λ w a c. rw (w, a, c);
  given = λ w a c. rw (w, a, c);
  no_identifier = λ x o e n. ap is_um e ∙ rw (ne_eqb x 3 n);
  too_long = λ l. three (eqb (get_or um 0 0) 3) (leb (length um) 159) (um_formed um) (lt-leb (length um) 159 l);
  unformed = λ w. second_false (eqb (get_or um 0 0) 3 && leb (length um) 159) (um_formed um) w;
}
  where
    three : (a b c : Bool) → b ≡ false → a && b && c ≡ false
    three true b c e = rw e
    three false b c e = refl

-- ---- round trips
write_then_read : WriteThenRead
unfolding read_ussd shown_ussd_data shown_ussd_check shown_ussd_opaque
write_then_read pfi x s r e = record {
  size = (written_readable pfi x s e r).size;
  fields = written_reads pfi x s e r measured;
  secured = ap shown (written_reads pfi x s e r secured_of);
  check = ap shown (written_reads pfi x s e r check_of);
  opaque = ap shown (written_reads pfi x s e r opaque_of);
}

read_then_write : ReadThenWrite
unfolding read_ussd shown_ussd_data shown_ussd_check shown_ussd_opaque
read_then_write pfi dcs s p bytes e =
    let x = um_fields (drop 1 s) in
    let (r, y) = string_gives pfi dcs s (measured x) p e in
    let seen : (o : List ℕ) → shown (readable_ussd pfi dcs s (gives o)) ≡ o = λ o. ap shown (string_reads pfi dcs s (gives o) r) in
    ap (writing_ussd pfi) (together p (shown_ussd_check pfi dcs s) (shown_ussd_data pfi dcs s) (shown_ussd_opaque pfi dcs s) x y (seen (check_of x)) (seen (secured_of x)) (seen (opaque_of x)))
    ∙ read_writes pfi dcs s r bytes
  where
    same : (y : Fields) → fields_from (measured y) (check_of y) (secured_of y) (opaque_of y) ≡ y
    same (plain f c d) = refl
    same (ciphered f h o) = refl

    together : (p : Parsed) (c d o : List ℕ) (x : Fields) → measured x ≡ p → c ≡ check_of x → d ≡ secured_of x → o ≡ opaque_of x → fields_from p c d o ≡ x
    together p c d o x e f g h = rw (← e, f, g, h) (same x)

into_buffer : (pfi : ℕ) (x : Fields) (s buffer : List ℕ) → length buffer ≡ 160 → writing_ussd pfi x ≡ gives s → written_ussd pfi x buffer ≡ writes (gives s) buffer
unfolding written_ussd
into_buffer pfi x s buffer size e = rw (eq-eqb (length buffer) 160 size, e)

read_then_write_calls : ReadThenWriteCalls
read_then_write_calls pfi dcs s buffer bytes size = record {
  write_ussd = λ x b e i. into_buffer pfi _ s buffer size (read_then_write pfi dcs s (command_fields x.clear (command.Plain b)) bytes (sym e ∙ ap (λ (y : CommandBody). gives (command_fields x.clear y)) i));
  write_ciphered_ussd = λ x b e i. into_buffer pfi _ s buffer size (read_then_write pfi dcs s (command_fields x.clear (command.Ciphered b)) bytes (sym e ∙ ap (λ (y : CommandBody). gives (command_fields x.clear y)) i));
}

-- ---- how long a UM is
made_length : (h : ℕ) (o : List ℕ) → length (um_from h o) ≡ 1 + (length (length_octets (length (coded_from h o))) + length (coded_from h o))
made_length h o = omega (arith, length-append (length_octets (length (coded_from h o))) (coded_from h o))

abbrev sized : ℕ → ℕ
sized n = 1 + (length (length_octets n) + n)

one_more_lem : (n : ℕ) → n ≤ 127 → sized n ≡ 2 + n
one_more_lem n l = rw (le-leb n 127 l) (omega arith)

two_more : (n : ℕ) → 127 < n → sized n ≡ 3 + n
two_more n l = rw (lt-leb n 127 l) (omega arith)

module _ (f d : List ℕ) (r : length f ≡ 13) where
  no_check : length (coded_from 13 (f ++ d)) ≡ 14 + length d
  no_check = omega (arith, length-append f d)

  shorter : length d ≤ 113 → length (um_of (plain f [] d)) ≡ 16 + length d
  unfolding um_of
  shorter l = made_length 13 (f ++ d) ∙ ap sized no_check ∙ one_more_lem (14 + length d) (omega arith) ∙ omega arith

  longer : 114 ≤ length d → length (um_of (plain f [] d)) ≡ 17 + length d
  unfolding um_of
  longer l = made_length 13 (f ++ d) ∙ ap sized no_check ∙ two_more (14 + length d) (omega arith) ∙ omega arith

never_130 : (um : List ℕ) → length um ≡ 130 → um_formed um ≡ false
never_130 um n = by_test (um_formed um) (λ e. absurd (no e)) (λ e. e)
  where
    no : um_formed um ≡ true → ⊥
    no e =
        let f = um_facts um e in
        let a : length (from_cpl um) ≡ 129 = length-drop 1 um ∙ omega arith in
        let b : length (length_octets (um_cpl um) ++ from_chl um) ≡ 129 = ap length (decoded_codes (from_cpl um) f.first) ∙ a in
        let c : length (length_octets (um_cpl um)) + length (from_chl um) ≡ 129 = sym (length-append (length_octets (um_cpl um)) (from_chl um)) ∙ b in
        go (um_cpl um) (length (from_chl um)) (coded (um_cpl um)) f.counts c
      where
        go : (n m : ℕ) → Coded n → n ≡ m → length (length_octets n) + m ≡ 129 → ⊥
        go n m (one l g) e c = let z : 1 + m ≡ 129 = rw g at c in omega arith
        go n m (two l g) e c = let z : 2 + m ≡ 129 = rw g at c in omega arith

um_length : UmLength
um_length = record { one_octet = λ f d r l. shorter f d r l; two_octets = λ f d r l. longer f d r l; never_130 = never_130 }

-- ---- the examples, by computing
examples_right : EveryUssd ussd_examples
unfolding read_ussd same_octets
examples_right =
    (refl, (refl, (refl, (refl, (refl, (refl, (refl, (refl, (refl, (refl, (refl, (refl, (refl, (refl, (refl, (refl, (refl, (refl, (refl, (refl, (refl, (refl, tt))))))))))))))))))))))

pub ussd_messages : UssdMessages
ussd_messages = record {
  length_coding = length_coding;
  addressing = addressing;
  reads_or_refuses = reads_or_refuses;
  writes_or_refuses = writes_or_refuses;
  sums_or_refuses = sums_or_refuses;
  write_then_read = write_then_read;
  read_then_write = read_then_write;
  read_then_write_calls = read_then_write_calls;
  checksum_covers = written_checksum;
  um_length = um_length;
  examples = examples_right;
}
