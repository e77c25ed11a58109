-- Laws of reading, for readers and the crates above: how a header's elements unfold, that they fill it, and the bounds of what a page gives.
-- What they are shown from stands in `Bounds.antt`. The bounds of what a message gives stand in proofs/MessageLaws.antt.
use Rattle.std.specs.Prelude.{ℕ, ◌≤◌, ◌≡◌, List, length, drop}
use Rattle.std.proofs.Math.Path.{refl}
use Rattle.std.proofs.Math.Bool.{true}
use Rattle.std.proofs.Math.Option.{Option, none, some}
use Rattle.std.proofs.Common.{arith, length-drop}
use borrow.Author.Tests.{le-leb, eq-eqb}
use Rattle.types.specs.declared.Kind.{Kind}
use Rattle.types.specs.Refusals.{gives}
use Rattle.types.specs.declared.Key.{Key}
use Rattle.header.specs.declared.Seen.{Seen}
use Rattle.arrival.specs.Arrivals.{Brought, single, part}
use Rattle.arrival.specs.Message.{where_read}
use Rattle.arrival.specs.Page.{page_octets, page_header, page_content, parameter_in, page_total, page_number, serial_in, identifier_in, page_key, read_page}
use Rattle.arrival.specs.Keys.{of_pages, key_formed, total_fits, length_fits}
use Rattle.header.specs.Header.{Item, elements}
use Rattle.header.specs.Reading.{seen_after, collected, walked, told_walked}
use Rattle.arrival.specs.Bounds.{space_of, elements_taken, parameter_bounds, PageRead, page_given_as}

-- ---- the elements of a header
-- They fill it exactly: `taken` counts two octets and its own for each.
pub elements_fill : (h : List ℕ) (es : List Item) → elements h ≡ some es → space_of es ≡ length h
elements_fill = elements_taken

-- The walk refuses a header by the number, and on the elements, by which reading a message refuses it.
pub walk_refuses : (h : List ℕ) (i : ℕ) (s : Seen)
    → told_walked (walked h i s) ≡ where_read (λ (es : List Item). gives (seen_after s es)) (elements (drop i h))
walk_refuses h i s = go (elements (drop i h))
  where
    go : (o : Option (List Item)) → told_walked (collected s o) ≡ where_read (λ (es : List Item). gives (seen_after s es)) o
    go none = refl
    go (some es) = refl

-- ---- the bounds of what is given: what a well-formed record can hold
-- A part of `total`, the one with that number, whose own octets are these.
pub record Admitted (k : Kind) (key : Key) (total number : ℕ) (octets : List ℕ) : Type 0 where
  pub key_formed : key_formed k key ≡ true
  pub total_fits : total_fits key total ≡ true
  pub low : 1 ≤ number
  pub high : number ≤ total
  pub length_fits : length_fits key number (length octets) ≡ true

-- what a page brings, case by case
abbrev FromPage : Kind → List ℕ → Brought → Type 0
FromPage k page (single start) = (start ≡ page_header) × (length (drop start page) ≡ page_content)
FromPage k page (part key total number start) = (start ≡ page_header) × (of_pages key ≡ true) × Admitted k key total number (drop start page)

module _ (k : Kind) (page : List ℕ) (r : PageRead k page) where
  content : length (drop page_header page) ≡ page_content
  content = let size : length page ≡ page_octets = r.size in simp length-drop (omega arith)

  admitted_page : (page_total (parameter_in page) ≡ 1 → ⊥)
      → Admitted k (page_key (serial_in page) (identifier_in page)) (page_total (parameter_in page)) (page_number (parameter_in page)) (drop page_header page)
  unfolding key_formed length_fits
  admitted_page several =
      let (low, least, most) = parameter_bounds (parameter_in page) in
      record {
        key_formed = rw (r.kind, r.range);
        total_fits = rw (le-leb 2 (page_total (parameter_in page)) (omega arith), le-leb (page_total (parameter_in page)) 15 most);
        low = low;
        high = r.high;
        length_fits = eq-eqb (length (drop page_header page)) page_content content;
      }

from_page : (k : Kind) (page : List ℕ) (x : Brought) → read_page k page ≡ gives x → FromPage k page x
from_page k page x = page_given_as k page x (FromPage k page) (λ r. (refl, content k page r)) (λ r several. (refl, refl, admitted_page k page r several))

module _ (k : Kind) (page : List ℕ) where
  -- a page of several
  module _ (key : Key) (total number start : ℕ) (given : read_page k page ≡ gives (part key total number start)) where
    pub page_part : Admitted k key total number (drop start page)
    page_part = (from_page k page (part key total number start) given).2

    pub page_start : start ≡ page_header
    page_start = (from_page k page (part key total number start) given).0

    pub page_key_lem : of_pages key ≡ true
    page_key_lem = (from_page k page (part key total number start) given).1

  -- a single page
  pub page_single : (start : ℕ) → read_page k page ≡ gives (single start) → (start ≡ page_header) × (length (drop start page) ≡ page_content)
  page_single start given = from_page k page (single start) given
