-- How a header is read, one element after the other: what the walk's own contracts cite. `proofs/SeenLaws.antt` shows that it comes to the
-- rules of `Header.antt`.
use Rattle.std.specs.declared.option.Option as option
use Rattle.std.specs.declared.option.Option.TheVariants.{Some, None}
use Rattle.std.specs.Prelude.{ℕ, ◌+◌, List, [], ◌∷◌, Bool, true, false, cond, ◌||◌, length, get_or, drop, eqb, leb}
use Rattle.std.proofs.Math.Option.{Option, none, some}
use Rattle.types.specs.Refusals.{Outcome, refused, gives}
use Rattle.octets.specs.Octets.{number_of}
use Rattle.header.specs.declared.Concatenation.{Concatenation}
use Rattle.header.specs.declared.Seen.{Seen}
use Rattle.header.specs.declared.Element.{Element}
use Rattle.header.specs.declared.Cursor.{Cursor}
use Rattle.header.specs.Header.{Item, elements, has, is_concatenation, wrong_length, concatenation_in, no_concatenation}

-- an element by its fields
abbrev pub element : (id start len : ℕ) → Cursor → Element
element id start len next = record { id = id; start = start; len = len; next = next }

-- the element that stands first in octets that begin at the place i
unfoldable pub first_element : ℕ → List ℕ → option.Option Element
first_element i [] = None
first_element i (a ∷ []) = None
first_element i (a ∷ n ∷ r) = cond (leb n (length r)) (Some (element a (i + 2) n (record { at = i + 2 + n }))) None

-- the two forms of a concatenation element
abbrev pub narrow_in : List ℕ → Concatenation
narrow_in o = record { width = 8; reference = get_or o 0 0; total = get_or o 1 0; number = get_or o 2 0 }

abbrev pub wide_in : List ℕ → Concatenation
wide_in o = record { width = 16; reference = number_of (get_or o 0 0) (get_or o 1 0); total = get_or o 2 0; number = get_or o 3 0 }

-- ---- what was seen, and an element more
abbrev pub seen_of : Bool → Concatenation → Bool → Bool → Seen
seen_of wrong c command response = record { wrong = wrong; concatenation = c; command = command; response = response }

abbrev pub nothing_seen : Seen
nothing_seen = seen_of false no_concatenation false false

abbrev pub wrong_seen : Seen → Seen
wrong_seen s = seen_of true s.concatenation s.command s.response

-- the concatenation element read last stands in the place of an earlier one
abbrev pub concatenation_seen : Seen → Concatenation → Seen
concatenation_seen s c = seen_of s.wrong c s.command s.response

abbrev pub command_seen : Seen → Seen
command_seen s = seen_of s.wrong s.concatenation true s.response

abbrev pub response_seen : Seen → Seen
response_seen s = seen_of s.wrong s.concatenation s.command true

abbrev pub noted : Seen → Item → Seen
noted s e = record {
  wrong = s.wrong;
  concatenation = cond (is_concatenation e) (concatenation_in e) s.concatenation;
  command = has 0x70 e || s.command;
  response = has 0x71 e || s.response;
}

-- Of an element of wrong length nothing else is noted, since it is refused whatever else there is.
unfoldable pub added : Seen → Item → Seen
added s e = cond (wrong_length e) (wrong_seen s) (noted s e)

abbrev pub seen_after : Seen → List Item → Seen
seen_after s [] = s
seen_after s (e ∷ es) = seen_after (added s e) es

-- what the elements from a place on come to, on top of what was seen
abbrev pub collected : Seen → Option (List Item) → option.Option Seen
collected s none = None
collected s (some es) = Some (seen_after s es)

abbrev pub walked : List ℕ → ℕ → Seen → option.Option Seen
walked h at s = collected s (elements (drop at h))

-- ---- the walk's answer in 01's words
-- "Once one element cannot be read, the whole header is refused": 3, or else what its elements say together.
abbrev pub told_walked : option.Option Seen → Outcome Seen
told_walked None = refused 3
told_walked (Some s) = gives s

-- What was seen lies in three flags, three octets and a number while the header is read.
abbrev pub seen_in : List Bool → List ℕ → ℕ → Seen
seen_in flags octets n = record {
  wrong = get_or flags 0 false;
  concatenation = record { width = get_or octets 0 0; reference = n; total = get_or octets 1 0; number = get_or octets 2 0 };
  command = get_or flags 1 false;
  response = get_or flags 2 false;
}

-- The number that reading the rest of a header answers: that of a refusal, or 0 beside what was seen.
abbrev pub told_rest : ℕ → Seen → Outcome Seen
told_rest n s = cond (eqb n 0) (gives s) (refused n)
