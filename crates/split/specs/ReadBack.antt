-- What splitting writes, reading understands (01, "Splitting" against "User data header" and "Pages"): each page is read as that page of its
-- series, and a part's or a page's own octets stand behind the header. Said once for both kinds and both widths. That user data is read as
-- that part stands in proofs/PartsReadBack.antt.
use Rattle.std.specs.Prelude.{ℕ, ◌/◌, ◌%◌, ◌≤◌, ◌≡◌, true, cond, List, ◌∷◌, length, get_or, drop, eqb}
use Rattle.std.proofs.Math.Path.{refl}
use native.Mathlib.Omega.{arith}
use Rattle.std.proofs.Math.Seq.{drop-append_seam}
use borrow.Author.Tests.{le-ltb, eq-eqb, ne_eqb}
use Rattle.octets.specs.Octets.{pair_of}
use Rattle.octets.specs.Laws.{number_of_pair}
use Rattle.types.specs.declared.Kind.{Kind}
use Rattle.types.specs.declared.Kind.TheVariants.{Command}
use Rattle.types.specs.Refusals.{gives}
use Rattle.header.specs.declared.Concatenation.{Concatenation}
use Rattle.arrival.specs.Arrivals.{single, part}
use Rattle.arrival.specs.Page.{page_content, page_header, identifier_in_range, page_key, read_page}
use Rattle.split.specs.Splitting.{parts, part_octets, header_of, user_data, pages, content_of, parameter, page_written, most_pages}
use Rattle.split.specs.Laws.{most_pages_lem, content_length}

-- ---- user data
module _ (k : Kind) (width reference : ℕ) (p : List ℕ) (number : ℕ) where
  -- where the part's own octets begin: behind the header
  abbrev pub own_from : ℕ
  own_from = length (header_of k width reference (parts width (length p)) number)

  pub own_octets : drop own_from (user_data k width reference p number) ≡ part_octets width p number
  unfolding user_data
  own_octets = drop-append_seam (header_of k width reference (parts width (length p)) number) (part_octets width p number)

  -- what the part's concatenation element says
  abbrev pub says : Concatenation
  says = record { width = width; reference = reference; total = parts width (length p); number = number }

-- ---- pages
-- a page of a total and a number that fit: number and total are read out of the page parameter, serial number and identifier out of their octets
module _ (serial identifier dcs total number : ℕ) (q : List ℕ) (full : length q ≡ page_content) (inside : identifier_in_range identifier ≡ true)
    (fits : total ≤ 15) (o : 1 ≤ number) (l : number ≤ total) where
  pub page_read : read_page Command ((pair_of serial).0 ∷ (pair_of serial).1 ∷ (pair_of identifier).0 ∷ (pair_of identifier).1 ∷ dcs ∷ parameter total number ∷ q)
      ≡ cond (eqb total 1) (gives (single page_header)) (gives (part (page_key serial identifier) total number page_header))
  unfolding read_page
  page_read =
      let n : parameter total number / 16 ≡ number = omega arith in
      let t : parameter total number % 16 ≡ total = omega arith in
      simp (full, n, t, ne_eqb number 0 (omega arith), ne_eqb total 0 (omega arith), le-ltb total number l, number_of_pair serial, number_of_pair identifier, inside)

module _ (serial identifier dcs : ℕ) (p : List ℕ) (number : ℕ) where
  pub content_octets : drop page_header (page_written serial identifier dcs p number) ≡ content_of p number
  unfolding page_written
  content_octets = refl

  -- "DCS is not judged", and it is the caller's
  pub page_dcs : get_or (page_written serial identifier dcs p number) 4 0 ≡ dcs
  unfolding page_written
  page_dcs = refl

  module _ (inside : identifier_in_range identifier ≡ true) (most : length p ≤ most_pages) (o : 1 ≤ number) (l : number ≤ pages (length p)) where
    either_page : read_page Command (page_written serial identifier dcs p number)
        ≡ cond (eqb (pages (length p)) 1) (gives (single page_header)) (gives (part (page_key serial identifier) (pages (length p)) number page_header))
    unfolding page_written
    either_page = page_read serial identifier dcs (pages (length p)) number (content_of p number) (content_length p number) inside (most_pages_lem (length p) most) o l

    -- "a single page has page parameter 11"
    pub read_single_page : pages (length p) ≡ 1 → read_page Command (page_written serial identifier dcs p number) ≡ gives (single page_header)
    read_single_page e = rw (either_page, eq-eqb (pages (length p)) 1 e)

    pub read_page_lem : (pages (length p) ≡ 1 → ⊥)
        → read_page Command (page_written serial identifier dcs p number) ≡ gives (part (page_key serial identifier) (pages (length p)) number page_header)
    read_page_lem n = rw (either_page, ne_eqb (pages (length p)) 1 n)
