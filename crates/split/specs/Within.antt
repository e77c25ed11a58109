-- What only the functions of this crate cite of one another.
use Rattle.std.specs.declared.result.Result.{Result}
use Rattle.std.specs.declared.result.Result.TheVariants.{Ok, Err}
use Rattle.types.specs.declared.Refusal.{Refusal}
use Rattle.std.specs.Prelude.{ℕ, ◌≤◌, ◌≡◌, true, not, List, [], ◌∷◌, ◌++◌, length, drop, eqb, ltb}
use Rattle.octets.specs.Octets.{pair_of, placed}
use Rattle.types.specs.declared.Kind.{Kind}
use Rattle.types.specs.declared.Kind.TheVariants.{Command}
use Rattle.types.specs.Refusals.{Outcome, refused, gives, refuse◌when◌otherwise◌, refusal_number}
use Rattle.packet.specs.Packets.{well_formed}
use Rattle.arrival.specs.Message.{most_user_data}
use Rattle.arrival.specs.Page.{page_octets, identifier_in_range}
use Rattle.arrival.specs.Keys.{reference_fits}
use Rattle.split.specs.Splitting.{parts, most_split, pages, most_pages, no_such_part}

-- what the answer to "is this part due" says: the number of parts, or the refusal
abbrev pub told_due : Result ℕ Refusal → Outcome ℕ
told_due (Ok total) = gives total
told_due (Err r) = refused (refusal_number r)

-- The refusals of writing user data, and of writing a page, of a buffer of `size` octets; where there is none, the number of parts.
abbrev pub judging : Kind → ℕ → ℕ → List ℕ → ℕ → ℕ → Outcome ℕ
judging k width reference p number size =
    refuse 1 when not (eqb size most_user_data) otherwise
    refuse 13 when not (reference_fits width reference) otherwise
    refuse 9 when not (well_formed k p) otherwise
    refuse 12 when ltb (most_split width) (length p) otherwise
    refuse 14 when no_such_part (parts width (length p)) number otherwise
    gives (parts width (length p))

abbrev pub judging_page : ℕ → List ℕ → ℕ → ℕ → Outcome ℕ
judging_page identifier p number size =
    refuse 1 when not (eqb size page_octets) otherwise
    refuse 5 when not (identifier_in_range identifier) otherwise
    refuse 9 when not (well_formed Command p) otherwise
    refuse 12 when ltb most_pages (length p) otherwise
    refuse 14 when no_such_part (pages (length p)) number otherwise
    gives (pages (length p))

-- ---- writing user data
-- What is so of a call that is not refused: the buffer and the reference are right, the total and the number fit an octet, and the number is
-- that of a part.
pub record Numbered (width reference total number size : ℕ) : Type 0 where
  pub lent : size ≡ 140
  pub fits : reference_fits width reference ≡ true
  pub most : total ≤ 16
  pub first : 1 ≤ number
  pub last : number ≤ total

pub record Writable (width reference : ℕ) (p : List ℕ) (total number size : ℕ) : Type 0 where
  pub numbered : Numbered width reference total number size
  pub some : 1 ≤ length p
  pub all : total ≡ parts width (length p)

-- a header h of n octets was put at the buffer's start
pub record HeaderPut (h : List ℕ) (n : ℕ) (before after : List ℕ) : Type 0 where
  pub long : n ≡ length h
  pub stands : after ≡ placed before 0 h

-- n octets o stand at the buffer's start, with the rest as it was
pub record Standing (o : List ℕ) (n : ℕ) (before after : List ℕ) : Type 0 where
  pub long : n ≡ length o
  pub stands : after ≡ o ++ drop (length o) before

-- ---- writing a page
-- what is so of a call that is not refused
pub record PageReady (p : List ℕ) (total number size : ℕ) : Type 0 where
  pub lent : size ≡ 88
  pub all : total ≡ pages (length p)
  pub most : total ≤ 15
  pub first : 1 ≤ number
  pub last : number ≤ total

-- "Header: serial number, message identifier, DCS, page parameter."
abbrev pub page_head : ℕ → ℕ → ℕ → ℕ → List ℕ
page_head serial identifier dcs parameter =
    (pair_of serial).0 ∷ (pair_of serial).1 ∷ (pair_of identifier).0 ∷ (pair_of identifier).1 ∷ dcs ∷ parameter ∷ []
