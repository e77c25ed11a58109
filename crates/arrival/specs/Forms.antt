-- The headers that 01, "Splitting", gives to single messages and to parts: that of a single message is read as it was meant. That a part's is,
-- up to user data that is full, stands in proofs/FormLaws.antt.
use Prim.Native.Nat.{ℕ, suc, ◌+◌, ◌≤◌, ◌<◌}
use Rattle.std.specs.Prelude.{◌≡◌, Bool, true, false, length, drop, eqb}
use Rattle.std.proofs.Math.Path.{refl}
use Rattle.std.proofs.Common.{arith, add-one, length-append, take-append-drop, length-take-le}
use mathlib.Core.List.{List, [], ◌∷◌, ◌++◌}
use Rattle.std.proofs.Math.Option.{some}
use Rattle.std.proofs.Math.Seq.{take-append_seam}
use borrow.Author.Tests.{le-ltb, lt-leb}
use Rattle.types.specs.declared.Kind.{Kind}
use Rattle.types.specs.declared.Kind.TheVariants.{Command, Response}
use Rattle.types.specs.Refusals.{gives}
use Rattle.header.specs.declared.Concatenation.{Concatenation}
use Rattle.arrival.specs.Arrivals.{single}
use Rattle.header.specs.Header.{Item, item, elements, elements_after, summary}
use Rattle.arrival.specs.Message.{most_user_data, udhl, header_octets, after_header, most_parts, judged, read_message}

-- user data with these header octets and those of its own
abbrev pub headed : List ℕ → List ℕ → List ℕ
headed h o = length h ∷ (h ++ o)

-- every user data with a UDHL below its length is of this form
pub headed_whole : (ud : List ℕ) → udhl ud < length ud → headed (header_octets ud) (drop (after_header ud) ud) ≡ ud
headed_whole [] l = absurd (omega arith)
headed_whole (u ∷ r) l =
    let inside : u ≤ length r = omega arith in
    rw (length-take-le u r inside, add-one u, take-append-drop u r)

pub headed_read : (k : Kind) (sender : ℕ) (h o : List ℕ) (es : List Item) → elements h ≡ some es → 1 + length h + length o ≤ most_user_data
    → read_message k sender (headed h o) ≡ judged k sender (length h + 1) (summary es)
unfolding read_message
headed_read k sender h o es e l =
    let size : length (h ++ o) ≡ length h + length o = length-append h o in
    rw (le-ltb most_user_data (suc (length (h ++ o))) (omega arith), lt-leb (suc (length (h ++ o))) (length h) (omega arith), take-append_seam, e)

-- the packet identifier of a kind, where it is borne
abbrev pub borne : Kind → Bool → List ℕ
borne k false = []
borne Command true = 0x70 ∷ 0x00 ∷ []
borne Response true = 0x71 ∷ 0x00 ∷ []

-- ---- single messages
pub single_read : (k : Kind) (sender : ℕ) (o : List ℕ) → length o ≤ 137 → read_message k sender (headed (borne k true) o) ≡ gives (single 3)
unfolding elements_after summary judged
single_read Command sender o l = headed_read Command sender (borne Command true) o (item 0x70 [] ∷ []) refl (omega arith)
single_read Response sender o l = headed_read Response sender (borne Response true) o (item 0x71 [] ∷ []) refl (omega arith)

-- ---- parts
-- "07 00 03 ref total 01 70 00", "05 00 03 ref total number"; "with 16-bit references .. headers 08 08 04 .. and 06 08 04 .."
abbrev pub narrow_element : ℕ → ℕ → ℕ → List ℕ
narrow_element reference total number = 0x00 ∷ 3 ∷ reference ∷ total ∷ number ∷ []

abbrev pub wide_element : ℕ → ℕ → ℕ → ℕ → List ℕ
wide_element high low total number = 0x08 ∷ 4 ∷ high ∷ low ∷ total ∷ number ∷ []

-- the header of a part: its concatenation element and, in part 1, the packet identifier
abbrev pub part_header : Kind → ℕ → List ℕ → List ℕ
part_header k number h = h ++ borne k (eqb number 1)

-- the part c of a message from `sender`
pub record InBounds (c : Concatenation) : Type 0 where
  pub several : 2 ≤ c.total
  pub most : c.total ≤ most_parts
  pub low : 1 ≤ c.number
  pub high : c.number ≤ c.total
