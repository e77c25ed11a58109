-- What splitting writes, reading understands (01, "Splitting" against "User data header"): each part is read as that part of its series, and
-- a single message as the packet itself. Said once for both kinds and both widths.
use Rattle.std.specs.Prelude.{ℕ, suc, ◌≤◌, ◌≡◌, Bool, true, false, not, ◌&&◌, ◌⊎◌, List, ◌∷◌, ◌++◌, length, drop, eqb}
use Rattle.std.proofs.Common.{sym, ap, ◌∙◌, inl, inr, add-one, length-append}
use native.Mathlib.Omega.{arith}
use Rattle.std.proofs.Math.Seq.{take-append_seam}
use borrow.Author.Tests.{eqb-true, le-ltb, lt-leb, ne_eqb}
use Rattle.octets.specs.Laws.{number_of_pair}
use Rattle.types.specs.declared.Kind.{Kind}
use Rattle.types.specs.declared.Kind.TheVariants.{Command, Response}
use Rattle.types.specs.Refusals.{Outcome, gives}
use Rattle.header.specs.declared.Concatenation.{Concatenation}
use Rattle.header.specs.declared.Seen.{Seen}
use Rattle.arrival.specs.Arrivals.{Brought, single, part}
use Rattle.header.specs.Header.{elements, elements_after, summary}
use Rattle.arrival.specs.Message.{most_user_data, most_parts, alone, judged, message_key, where_read, read_message}
use Rattle.arrival.specs.Keys.{reference_fits}
use Rattle.split.specs.Splitting.{parts, part_octets, elements_of, header_of, user_data, most_split}
use Rattle.octets.specs.Tests.{by_test}
use Rattle.split.specs.Laws.{part_whole, identifier_length}
use Rattle.split.proofs.PartLaws.{some_part, single_size, most_parts_lem, user_data_fits}
use Rattle.split.specs.ReadBack.{own_from, own_octets, says}

-- a header that counts its elements, and octets behind it: the elements are read, and the octets begin behind them
header_read : (k : Kind) (sender : ℕ) (h q : List ℕ) → length (length h ∷ (h ++ q)) ≤ most_user_data
    → read_message k sender (length h ∷ (h ++ q)) ≡ where_read (λ es. judged k sender (suc (length h)) (summary es)) (elements h)
unfolding read_message
header_read k sender h q l =
    rw (le-ltb most_user_data (length (length h ∷ (h ++ q))) l, lt-leb (length (length h ∷ (h ++ q))) (length h) (simp length-append (omega arith)), take-append_seam h q, add-one (length h))

-- a single message's header
single_from : (k : Kind) (width reference total number : ℕ) → total ≡ 1 → length (header_of k width reference total number) ≡ 3
single_from k width reference total number e = rw (e, identifier_length k)

single_elements : (k : Kind) (sender width reference total number : ℕ) → total ≡ 1
    → where_read (λ es. judged k sender (length (header_of k width reference total number)) (summary es)) (elements (elements_of k width reference total number))
    ≡ gives (single 3)
unfolding elements_after summary judged
single_elements Command sender width reference total number e = rw e
single_elements Response sender width reference total number e = rw e

-- a part of several: its concatenation element is seen, and in part 1 the identifier of its kind
abbrev is_command : Kind → Bool
is_command Command = true
is_command Response = false

abbrev seen_written : Kind → Concatenation → Seen
seen_written k c = record {
  wrong = false;
  concatenation = c;
  command = eqb c.number 1 && is_command k;
  response = eqb c.number 1 && not (is_command k);
}

either_width : (width reference : ℕ) → reference_fits width reference ≡ true → (width ≡ 8) ⊎ (width ≡ 16)
either_width width reference e =
    by_test (eqb width 8) (λ f. inl (eqb-true width 8 f))
    (λ f. by_test (eqb width 16) (λ g. inr (eqb-true width 16 g)) (λ g. let z : false ≡ true = rw (f, g) at e in let y : ◌≡◌ {A = ℕ} 0 1 = cc in absurd (omega arith)))

module _ (reference total number : ℕ) (f : Seen → Outcome Brought) (n : total ≡ 1 → ⊥) where
  part_seen : (k : Kind) (width : ℕ) → (width ≡ 8) ⊎ (width ≡ 16)
      → where_read (λ es. f (summary es)) (elements (elements_of k width reference total number))
      ≡ f (seen_written k (record { width = width; reference = reference; total = total; number = number }))
  unfolding elements_after summary
  part_seen Command width (inl e) = by_test (eqb number 1) (λ h. simp (e, ne_eqb total 1 n, h)) (λ h. simp (e, ne_eqb total 1 n, h))
  part_seen Response width (inl e) = by_test (eqb number 1) (λ h. simp (e, ne_eqb total 1 n, h)) (λ h. simp (e, ne_eqb total 1 n, h))
  part_seen Command width (inr e) = by_test (eqb number 1) (λ h. simp (e, ne_eqb total 1 n, h, number_of_pair reference)) (λ h. simp (e, ne_eqb total 1 n, h, number_of_pair reference))
  part_seen Response width (inr e) = by_test (eqb number 1) (λ h. simp (e, ne_eqb total 1 n, h, number_of_pair reference)) (λ h. simp (e, ne_eqb total 1 n, h, number_of_pair reference))

module _ (sender start : ℕ) (c : Concatenation) (s : 2 ≤ c.total) (m : c.total ≤ most_parts) (o : 1 ≤ c.number) (l : c.number ≤ c.total) where
  counted : alone c ≡ false
  counted = rw (ne_eqb c.total 0 (omega arith), ne_eqb c.number 0 (omega arith), le-ltb c.total c.number l, ne_eqb c.total 1 (omega arith))

  part_judged : (k : Kind) → judged k sender start (seen_written k c) ≡ gives (part (message_key sender c) c.total c.number start)
  unfolding judged
  part_judged Command = by_test (eqb c.number 1) (λ e. simp (counted, e, le-ltb most_parts c.total m)) (λ e. simp (counted, e, le-ltb most_parts c.total m))
  part_judged Response = by_test (eqb c.number 1) (λ e. simp (counted, e, le-ltb most_parts c.total m)) (λ e. simp (counted, e, le-ltb most_parts c.total m))

module _ (k : Kind) (width reference : ℕ) (p : List ℕ) (number : ℕ) where
  -- of a single message the packet itself, behind three octets
  pub single_octets : parts width (length p) ≡ 1 → drop 3 (user_data k width reference p number) ≡ p
  single_octets e =
      let three = single_from k width reference (parts width (length p)) number e in
      let whole = part_whole width p number (single_size width (length p) e) in
      ap (λ (n : ℕ). drop n (user_data k width reference p number)) (sym three) ∙ own_octets k width reference p number ∙ whole

  module _ (sender : ℕ) where
    user_data_read : read_message k sender (user_data k width reference p number)
        ≡ where_read (λ es. judged k sender (own_from k width reference p number) (summary es)) (elements (elements_of k width reference (parts width (length p)) number))
    unfolding user_data
    user_data_read =
        header_read k sender (elements_of k width reference (parts width (length p)) number) (part_octets width p number)
        (user_data_fits k width reference p number)

    -- "Up to 137 octets: one message": it is read as a single message
    pub read_single : parts width (length p) ≡ 1 → read_message k sender (user_data k width reference p number) ≡ gives (single 3)
    read_single e = user_data_read ∙ single_elements k sender width reference (parts width (length p)) number e

    -- "Beyond": each part is read as that part of as many, of the series with the sender, the width and the reference
    pub read_part : reference_fits width reference ≡ true → length p ≤ most_split width → (parts width (length p) ≡ 1 → ⊥)
        → 1 ≤ number → number ≤ parts width (length p)
        → read_message k sender (user_data k width reference p number)
        ≡ gives (part (message_key sender (says k width reference p number)) (parts width (length p)) number (own_from k width reference p number))
    read_part f m n o l =
        let s : 2 ≤ parts width (length p) = omega (arith, some_part width (length p)) in
        user_data_read
        ∙ part_seen reference (parts width (length p)) number (judged k sender (own_from k width reference p number)) n k width (either_width width reference f)
        ∙ part_judged sender (own_from k width reference p number) (says k width reference p number) s (most_parts_lem width (length p) m) o l k
