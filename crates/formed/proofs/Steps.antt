-- What the proofs of well-formedness cite: the laws of the tests of a record, and those of a key and of what its parts can be.
use Prim.Native.Nat.{ℕ}
use mathlib.Core.Path.{◌≡◌}
use mathlib.Core.Bool.{Bool, not, ◌&&◌}
use lib.Dec.{eqb, leb}
use borrow.Author.Rules.{rules}
use borrow.Author.Tests.{eq-eqb, ne_eqb}
use Rattle.types.specs.declared.Kind.{Kind}
use Rattle.types.specs.declared.Key.{Key}
use Rattle.arrival.specs.Message.{most_parts}
use Rattle.arrival.specs.Page.{identifier_in_range, no_pages, page_content}
use Rattle.arrival.specs.Keys.{reference_fits, message_key_formed, page_key_formed, key_formed, total_fits, room}
use Rattle.slots.specs.Found.{length_of_map}
use Rattle.formed.specs.Pieces.{fewest, most}
use Rattle.formed.specs.TestLaws.{test_laws}

-- ---- keys
pub message_key_told : (x : Key) (b : Bool) → b ≡ reference_fits x.width x.reference
    → b && eqb x.serial.0 0 && eqb x.identifier.0 0 ≡ message_key_formed x
message_key_told x b e = rw e

pub page_key_told : (k : Kind) (x : Key) (b inside : Bool) → b ≡ no_pages k → inside ≡ identifier_in_range x.identifier.0
    → not b && eqb x.sender 0 && eqb x.reference 0 && inside ≡ page_key_formed k x
page_key_told k x b inside e f = rw (e, f)

module _ (k : Kind) (x : Key) (b : Bool) where
  pub key_of_pages : x.width ≡ 0 → b ≡ page_key_formed k x → b ≡ key_formed k x
  unfolding key_formed
  key_of_pages w e = rw (eq-eqb x.width 0 w) e

  pub key_of_message : (x.width ≡ 0 → ⊥) → b ≡ message_key_formed x → b ≡ key_formed k x
  unfolding key_formed
  key_of_message w e = rw (ne_eqb x.width 0 w) e

module _ (x : Key) (t : ℕ) where
  pub total_of_pages : x.width ≡ 0 → leb 2 t && leb t 15 ≡ total_fits x t
  total_of_pages w = rw (eq-eqb x.width 0 w)

  pub total_of_message : (x.width ≡ 0 → ⊥) → leb 2 t && leb t most_parts ≡ total_fits x t
  total_of_message w = rw (ne_eqb x.width 0 w)

-- ---- lengths of parts
module _ (x : Key) where
  pub fewest_page : x.width ≡ 0 → page_content ≡ fewest x
  fewest_page w = rw (eq-eqb x.width 0 w)

  pub fewest_message : (x.width ≡ 0 → ⊥) → 0 ≡ fewest x
  fewest_message w = rw (ne_eqb x.width 0 w)

  pub most_page : (number : ℕ) → x.width ≡ 0 → page_content ≡ most x number
  most_page number w = rw (eq-eqb x.width 0 w)

  pub most_message : (number m : ℕ) → (x.width ≡ 0 → ⊥) → m ≡ room x.width number → m ≡ most x number
  most_message number m w e = rw (ne_eqb x.width 0 w) e

pub ruleset formed_steps = (
  rules,
  length_of_map,
  test_laws,
  message_key_told,
  page_key_told,
  key_of_pages,
  key_of_message,
  total_of_pages,
  total_of_message,
  fewest_page,
  fewest_message,
  most_page,
  most_message,
)
