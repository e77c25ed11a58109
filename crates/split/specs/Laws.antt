-- Laws of splitting: which part begins where and what it holds, how long its header is, that pages join to the packet, and that every part
-- can be had. Each is said once for both widths and both kinds. How many parts a packet has, and what follows of it, stands in
-- proofs/PartLaws.antt.
use Rattle.std.specs.Prelude.{ℕ, zero, suc, ◌+◌, ◌-◌, ◌*◌, ◌≤◌, ◌<◌, ◌≡◌, refl, true, List, [], ◌∷◌, ◌++◌, take, drop, replicate, eqb}
use Rattle.std.proofs.Common.{sym, ◌∙◌, arith, length-take, take_all, le-leb, le-ltb, eq-eqb, ne_eqb}
use Rattle.std.proofs.Math.Nat.{suc-sub-suc, sub-zero}
use Rattle.std.proofs.Math.ListN.{length, length-append, length-drop}
use Rattle.std.proofs.lemmas.List.{length-replicate}
use Rattle.std.proofs.Math.Seq.{drop-append-le}
use Rattle.std.proofs.lemmas.Bool.{lt-leb}
use Rattle.octets.specs.Joined.{joined, joined_cut}
use Rattle.octets.specs.Tests.{by_test}
use Rattle.types.specs.declared.Kind.{Kind}
use Rattle.types.specs.declared.Kind.TheVariants.{Command, Response}
use Rattle.arrival.specs.Message.{most_user_data}
use Rattle.types.specs.Refusals.{gives}
use Rattle.packet.specs.Packets.{well_formed}
use Rattle.arrival.specs.Page.{page_octets, page_content, identifier_in_range}
use Rattle.arrival.specs.Keys.{room, reference_fits}
use Rattle.split.specs.Splitting.{most_single, parts, part_from, part_octets, identifier_element, header_of, user_data, most_split, writing, pages, content_of, parameter, page_written, most_pages, writing_page}

-- ---- how many parts
-- "Up to 137 octets: one message"
pub one_part : (width size : ℕ) → size ≤ most_single → parts width size ≡ 1
one_part width size l = rw (le-leb size most_single l)

-- sixteen parts are reached: 2,142 octets, and 2,126 with 16-bit references
pub most_reached : (most_split 8 ≡ 2142) × (parts 8 2142 ≡ 16) × (most_split 16 ≡ 2126) × (parts 16 2126 ≡ 16)
most_reached = (refl, refl, refl, refl)

-- ---- the parts join to the packet
-- each part begins where the one before it ends
pub next_part : (width i : ℕ) → part_from width (suc (suc i)) ≡ part_from width (suc i) + room width (suc i)
next_part width zero = by_test (eqb width 16) (λ e. rw e) (λ e. rw e)
next_part width (suc i) =
    by_test (eqb width 16)
    (λ e. rw (e, ne_eqb (suc (suc (suc i))) 1 (omega arith), ne_eqb (suc (suc i)) 1 (omega arith)) (omega arith))
    (λ e. rw (e, ne_eqb (suc (suc (suc i))) 1 (omega arith), ne_eqb (suc (suc i)) 1 (omega arith)) (omega arith))

-- a part's octets: all of a packet that goes in one message, and else as many as there is room for from where the part begins
module _ (width : ℕ) (p : List ℕ) (number : ℕ) where
  pub part_whole : length p ≤ most_single → part_octets width p number ≡ p
  unfolding part_octets
  part_whole l = rw (le-leb (length p) most_single l)

  pub part_cut : most_single < length p → part_octets width p number ≡ take (room width number) (drop (part_from width number) p)
  unfolding part_octets
  part_cut l = rw (lt-leb (length p) most_single l)

-- ---- how long the parts are
-- "part 1 holds 132 octets .., later parts 134 ..; with 16-bit references 131 and 133"
pub part_room : (width : ℕ) (p : List ℕ) (number : ℕ) → most_single < length p → length (part_octets width p number) ≤ room width number
part_room width p number s = rw (part_cut width p number s) (simp length-take (omega arith))

-- The header and the room behind it are the 140 octets, and so are the header of a single message and the 137.
pub identifier_length : (k : Kind) → length (identifier_element k) ≡ 2
identifier_length Command = refl
identifier_length Response = refl

pub single_header : (k : Kind) (width reference number : ℕ) → length (header_of k width reference 1 number) + most_single ≡ most_user_data
single_header k width reference number = rw (identifier_length k)

pub header_room : (k : Kind) (width reference total number : ℕ) → (total ≡ 1 → ⊥)
    → length (header_of k width reference total number) + room width number ≡ most_user_data
header_room k width reference total number n =
    by_test (eqb width 16)
    (λ e. by_test (eqb number 1) (λ f. rw (ne_eqb total 1 n, e, f, identifier_length k)) (λ f. rw (ne_eqb total 1 n, e, f)))
    (λ e. by_test (eqb number 1) (λ f. rw (ne_eqb total 1 n, e, f, identifier_length k)) (λ f. rw (ne_eqb total 1 n, e, f)))

-- "02 70 00 (71 for responses)", "07 00 03 ref total 01 70 00", "05 00 03 ref total number", "08 08 04 ..", "06 08 04 .."
pub headers_written : (header_of Command 8 0x2A 1 1 ≡ 0x02 ∷ 0x70 ∷ 0x00 ∷ [])
    × (header_of Response 16 0x012A 1 1 ≡ 0x02 ∷ 0x71 ∷ 0x00 ∷ [])
    × (header_of Command 8 0x2A 3 1 ≡ 0x07 ∷ 0x00 ∷ 0x03 ∷ 0x2A ∷ 0x03 ∷ 0x01 ∷ 0x70 ∷ 0x00 ∷ [])
    × (header_of Response 8 0x2A 3 2 ≡ 0x05 ∷ 0x00 ∷ 0x03 ∷ 0x2A ∷ 0x03 ∷ 0x02 ∷ [])
    × (header_of Response 16 0x012A 3 1 ≡ 0x08 ∷ 0x08 ∷ 0x04 ∷ 0x01 ∷ 0x2A ∷ 0x03 ∷ 0x01 ∷ 0x71 ∷ 0x00 ∷ [])
    × (header_of Command 16 0x012A 3 2 ≡ 0x06 ∷ 0x08 ∷ 0x04 ∷ 0x01 ∷ 0x2A ∷ 0x03 ∷ 0x02 ∷ [])
headers_written = (refl, refl, refl, refl, refl, refl)

-- ---- pages
-- "A packet in t pages has 82(t − 1) + 1 to 82t octets": there are as few pages as hold the packet, and fifteen at most of one that is not
-- refused 12.
module _ (size : ℕ) where
  pub page_begins : 1 ≤ size → page_content * (pages size - 1) + 1 ≤ size
  page_begins o = omega arith

  pub page_ends : size ≤ page_content * pages size
  page_ends = omega arith

  pub most_pages_lem : size ≤ most_pages → pages size ≤ 15
  most_pages_lem m = omega arith

-- fifteen pages are reached, and a single page's parameter is 11
pub pages_reached : (most_pages ≡ 1230) × (pages 1230 ≡ 15) × (parameter 1 1 ≡ 0x11)
pages_reached = (refl, refl, refl)

-- "Pages are full": every content is 82 octets, and every page 88.
pub content_length : (p : List ℕ) (number : ℕ) → length (content_of p number) ≡ page_content
unfolding content_of
content_length p number = simp (length-append, length-replicate, length-take) (omega arith)

pub page_length : (serial identifier dcs : ℕ) (p : List ℕ) (number : ℕ) → length (page_written serial identifier dcs p number) ≡ page_octets
unfolding page_written
page_length serial identifier dcs p number = rw (content_length p number)

-- "the last filled with 00"
take_same : (n k x : ℕ) → n ≤ k → take n (replicate k x) ≡ replicate n x
take_same zero k x l = refl
take_same (suc n) zero x l = absurd (omega arith)
take_same (suc n) (suc k) x l = rw (take_same n k x (omega arith))

take_filled : (n : ℕ) (l : List ℕ) (k x : ℕ) → n ≤ length l + k → take n (l ++ replicate k x) ≡ take n l ++ replicate (n - length (take n l)) x
take_filled zero l k x m = refl
take_filled (suc n) [] k x m = rw sub-zero (take_same (suc n) k x (omega arith))
take_filled (suc n) (y ∷ l) k x m = rw (take_filled n l k x (omega arith), suc-sub-suc)

module _ (p : List ℕ) where
  -- the packet with its filler
  abbrev pub padded : List ℕ
  padded = p ++ replicate (page_content * pages (length p) - length p) 0x00

  content_cut : (i : ℕ) → i < pages (length p) → content_of p (suc i) ≡ take page_content (drop (page_content * i) padded)
  unfolding content_of
  content_cut i l =
      rw (suc-sub-suc i 0, sub-zero i, drop-append-le (page_content * i) p (replicate (page_content * pages (length p) - length p) 0x00) (omega arith))
      (sym (take_filled page_content (drop (page_content * i) p) (page_content * pages (length p) - length p) 0x00 (simp length-drop (omega arith))))

  -- the contents join to the packet, and then 00 up to the last page's end
  pub pages_join : joined (content_of p) (pages (length p)) ≡ padded
  pages_join =
      joined_cut padded (content_of p) (λ i. page_content * i) (λ i. page_content) refl (λ i. omega arith) (pages (length p)) content_cut
      ∙ take_all (page_content * pages (length p)) padded (simp (length-append, length-replicate) (omega arith))

-- ---- every part can be had
-- A part or a page whose number is not above the total is written, from any packet that is well formed and not too long.
pub message_given : (k : Kind) (width reference : ℕ) (p : List ℕ) (number : ℕ) (buffer : List ℕ) → length buffer ≡ most_user_data
    → reference_fits width reference ≡ true → well_formed k p ≡ true → length p ≤ most_split width → 1 ≤ number → number ≤ parts width (length p)
    → writing k width reference p number buffer ≡ gives (record { total = parts width (length p); octets = user_data k width reference p number })
unfolding writing
message_given k width reference p number buffer lent fits formed most o l =
    rw (eq-eqb (length buffer) most_user_data lent, fits, formed, le-ltb (most_split width) (length p) most, ne_eqb number 0 (omega arith), le-ltb (parts width (length p)) number l)

pub page_given : (serial identifier dcs : ℕ) (p : List ℕ) (number : ℕ) (buffer : List ℕ) → length buffer ≡ page_octets
    → identifier_in_range identifier ≡ true → well_formed Command p ≡ true → length p ≤ most_pages → 1 ≤ number → number ≤ pages (length p)
    → writing_page serial identifier dcs p number buffer ≡ gives (record { total = pages (length p); octets = page_written serial identifier dcs p number })
unfolding writing_page
page_given serial identifier dcs p number buffer lent inside formed most o l =
    rw (eq-eqb (length buffer) page_octets lent, inside, formed, le-ltb most_pages (length p) most, ne_eqb number 0 (omega arith), le-ltb (pages (length p)) number l)
