-- The headers that 01, "Splitting", gives to parts: each is read as it was meant, up to user data that is full.
use Prim.Native.Nat.{ℕ, ◌+◌, ◌*◌, ◌≤◌}
use Rattle.std.specs.Prelude.{◌≡◌, Bool, true, false, length, eqb}
use Rattle.std.proofs.Math.Path.{refl}
use Rattle.std.proofs.Common.{ap, ◌∙◌, arith, length-append}
use mathlib.Core.List.{List, [], ◌∷◌, ◌++◌}
use Rattle.std.proofs.Math.Option.{some}
use borrow.Author.Tests.{le-ltb, ne_eqb}
use Rattle.types.specs.declared.Kind.{Kind}
use Rattle.types.specs.declared.Kind.TheVariants.{Command, Response}
use Rattle.types.specs.Refusals.{gives}
use Rattle.packet.specs.Laws.{differ_self}
use Rattle.octets.specs.Octets.{number_of}
use Rattle.header.specs.declared.Concatenation.{Concatenation}
use Rattle.header.specs.declared.Seen.{Seen}
use Rattle.arrival.specs.Arrivals.{part}
use Rattle.header.specs.Header.{Item, item, elements, elements_after, summary}
use Rattle.arrival.specs.Message.{most_user_data, alone, message_key, judged, read_message}
use Rattle.arrival.specs.Keys.{room}
use Rattle.arrival.specs.Bounds.{bit}
use Rattle.arrival.proofs.MessageLaws.{room_fills}
use Rattle.arrival.specs.Forms.{headed, headed_read, borne, narrow_element, wide_element, part_header, InBounds}

-- what is read and seen of such a header
abbrev borne_items : Kind → Bool → List Item
borne_items k false = []
borne_items Command true = item 0x70 [] ∷ []
borne_items Response true = item 0x71 [] ∷ []

abbrev heard : Kind → Bool → Concatenation → Seen
heard Command b c = record { wrong = false; concatenation = c; command = b; response = false }
heard Response b c = record { wrong = false; concatenation = c; command = false; response = b }

borne_length : (k : Kind) (b : Bool) → length (borne k b) ≡ 2 * bit b
borne_length k false = refl
borne_length Command true = refl
borne_length Response true = refl

by_kind : (P : Kind → Bool → Type 0) → P Command true → P Command false → P Response true → P Response false → (k : Kind) (b : Bool) → P k b
by_kind P ct cf rt rf Command true = ct
by_kind P ct cf rt rf Command false = cf
by_kind P ct cf rt rf Response true = rt
by_kind P ct cf rt rf Response false = rf

module _ (sender : ℕ) (c : Concatenation) (bounds : InBounds c) where
  together : alone c ≡ false
  together =
      let a : (c.total ≡ 0 → ⊥) = λ e. omega arith in
      let b : (c.total ≡ 1 → ⊥) = λ e. omega arith in
      let d : (c.number ≡ 0 → ⊥) = λ e. omega arith in
      rw (ne_eqb _ _ a, ne_eqb _ _ b, ne_eqb _ _ d, le-ltb _ _ bounds.high)

  heard_part_lem : (k : Kind) (start : ℕ) → judged k sender start (heard k (eqb c.number 1) c) ≡ gives (part (message_key sender c) c.total c.number start)
  unfolding judged
  heard_part_lem Command start = rw (together, differ_self (eqb c.number 1), le-ltb _ _ bounds.most)
  heard_part_lem Response start = rw (together, differ_self (eqb c.number 1), le-ltb _ _ bounds.most)

  -- the element h is read as the item e, and so c is seen
  module _ (h o : List ℕ) (e : Item) (elements-are : (k : Kind) (b : Bool) → elements (h ++ borne k b) ≡ some (e ∷ borne_items k b))
      (seen-is : (k : Kind) (b : Bool) → summary (e ∷ borne_items k b) ≡ heard k b c) where
    part_read : (k : Kind) → 1 + length h + 2 * bit (eqb c.number 1) + length o ≤ most_user_data
        → read_message k sender (headed (part_header k c.number h) o)
        ≡ gives (part (message_key sender c) c.total c.number (length (part_header k c.number h) + 1))
    part_read k l =
        let b : Bool = eqb c.number 1 in
        headed_read k sender (h ++ borne k b) o (e ∷ borne_items k b) (elements-are k b) (omega (arith, length-append h (borne k b), borne_length k b))
        ∙ ap (judged k sender (length (h ++ borne k b) + 1)) (seen-is k b)
        ∙ heard_part_lem k (length (h ++ borne k b) + 1)

-- A part within bounds that fits its room is read, with either width of reference.
module _ (k : Kind) (sender total number : ℕ) (o : List ℕ) where
  pub narrow_read : (reference : ℕ) → let c : Concatenation = record { width = 8; reference = reference; total = total; number = number } in
      InBounds c → length o ≤ room 8 number
      → read_message k sender (headed (part_header k number (narrow_element reference total number)) o)
      ≡ gives (part (message_key sender c) total number (length (part_header k number (narrow_element reference total number)) + 1))
  unfolding elements_after summary
  narrow_read reference bounds fits =
      let c : Concatenation = record { width = 8; reference = reference; total = total; number = number } in
      let h : List ℕ = narrow_element reference total number in
      let e : Item = item 0x00 (reference ∷ total ∷ number ∷ []) in
      part_read sender c bounds h o e (by_kind (λ k b. elements (h ++ borne k b) ≡ some (e ∷ borne_items k b)) refl refl refl refl)
      (by_kind (λ k b. summary (e ∷ borne_items k b) ≡ heard k b c) refl refl refl refl) k (omega (arith, room_fills 8 number 0 refl))

  pub wide_read : (high low : ℕ) → let c : Concatenation = record { width = 16; reference = number_of high low; total = total; number = number } in
      InBounds c → length o ≤ room 16 number
      → read_message k sender (headed (part_header k number (wide_element high low total number)) o)
      ≡ gives (part (message_key sender c) total number (length (part_header k number (wide_element high low total number)) + 1))
  unfolding elements_after summary
  wide_read high low bounds fits =
      let c : Concatenation = record { width = 16; reference = number_of high low; total = total; number = number } in
      let h : List ℕ = wide_element high low total number in
      let e : Item = item 0x08 (high ∷ low ∷ total ∷ number ∷ []) in
      part_read sender c bounds h o e (by_kind (λ k b. elements (h ++ borne k b) ≡ some (e ∷ borne_items k b)) refl refl refl refl)
      (by_kind (λ k b. summary (e ∷ borne_items k b) ≡ heard k b c) refl refl refl refl) k (omega (arith, room_fills 16 number 0 refl))
