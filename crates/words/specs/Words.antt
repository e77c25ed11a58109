-- A line's words, read from the front of a text: they stand between blanks, which are spaces, tabs and the carriage return that some files have
-- before a line's end. A word is a name, a decimal number, or octets, two hexadecimal digits each.
use Rattle.std.specs.Prelude.{ℕ, ◌+◌, ◌*◌, ◌/◌, ◌%◌, ◌≤◌, Bool, true, false, not, cond, ◌||◌, ◌&&◌, List, [], ◌∷◌, ◌++◌, eqb, leb, length, take, drop, ◌≡◌}
use Rattle.words.specs.declared.Number.{Number}
use Rattle.words.specs.declared.Pairs.{Pairs}

abbrev pub is_blank : ℕ → Bool
is_blank x = eqb x 32 || eqb x 9 || eqb x 13

-- a text behind the blanks at its front
unfoldable pub skipped : List ℕ → List ℕ
skipped [] = []
skipped (x ∷ w) = cond (is_blank x) (skipped w) (x ∷ w)

-- a word ends before a blank, and where the text ends
unfoldable pub ended : List ℕ → Bool
ended [] = true
ended (x ∷ w) = is_blank x

unfoldable pub is_empty : List ℕ → Bool
is_empty [] = true
is_empty (x ∷ w) = false

-- whether a character lies between two others, both included
abbrev pub between : ℕ → ℕ → ℕ → Bool
between low high x = leb low x && leb x high

-- ---- names and numbers
-- a name is a number as well, its letters are digits: `a` or `A` is 1, and `z` 26, to the base 32
abbrev pub is_digit : Bool → ℕ → Bool
is_digit name x = (name && (between 65 90 x || between 97 122 x)) || (not name && leb 48 x && leb x 57)

-- a number with a digit more
abbrev pub with_digit : Bool → ℕ → ℕ → ℕ
with_digit name n x = cond name (n * 32 + x % 32) (n * 10 + x % 16)

-- the same, where what is above `most` counts as one more than that
abbrev pub shifted : Bool → ℕ → ℕ → ℕ → ℕ
shifted name most n x = cond (leb (with_digit name n x) most) (with_digit name n x) (most + 1)

-- the number that the digits at the front of a text are, read behind n
unfoldable pub value_from : Bool → ℕ → ℕ → List ℕ → ℕ
value_from name most n [] = n
value_from name most n (x ∷ w) = cond (is_digit name x) (value_from name most (shifted name most n x) w) n

-- what stands behind them
unfoldable pub behind_digits : Bool → List ℕ → List ℕ
behind_digits name [] = []
behind_digits name (x ∷ w) = cond (is_digit name x) (behind_digits name w) (x ∷ w)

-- what reading them from a place of a line gives
pub record Counted (name : Bool) (most from : ℕ) (line : List ℕ) (r : Number) : Type 0 where
  pub is : r.value ≡ value_from name most 0 (drop from line)
  pub text : drop r.at line ≡ behind_digits name (drop from line)
  pub past : from ≤ r.at
  pub inside : r.at ≤ length line

-- ---- octets
abbrev pub is_hex : ℕ → Bool
is_hex x = between 48 57 x || between 65 70 x || between 97 102 x

abbrev pub hex_of : ℕ → ℕ
hex_of x = x % 16 + 9 * (x / 64)

-- the octet that two digits are; 256 if one is none
unfoldable pub octet_of : ℕ → ℕ → ℕ
octet_of a b = cond (is_hex a && is_hex b) (hex_of a * 16 + hex_of b) 256

-- the octets that pairs of digits at the front of a text are
unfoldable pub octets_at : List ℕ → List ℕ
octets_at [] = []
octets_at (a ∷ []) = []
octets_at (a ∷ b ∷ w) = cond (eqb (octet_of a b) 256) [] (octet_of a b ∷ octets_at w)

-- what stands behind them
unfoldable pub behind_octets : List ℕ → List ℕ
behind_octets [] = []
behind_octets (a ∷ []) = a ∷ []
behind_octets (a ∷ b ∷ w) = cond (eqb (octet_of a b) 256) (a ∷ b ∷ w) (behind_octets w)

-- `-` is no octets
unfoldable pub is_dash : List ℕ → Bool
is_dash [] = false
is_dash (x ∷ w) = eqb x 45

abbrev pub word_octets : List ℕ → List ℕ
word_octets text = cond (is_dash text) [] (octets_at text)

abbrev pub behind_word : List ℕ → List ℕ
behind_word text = cond (is_dash text) (drop 1 text) (behind_octets text)

-- what reading them gives from a place of a line on, whose first `end` octets were read before: they stand behind these, and the text behind
-- them is as it was
pub record Paired (octets text : List ℕ) (end : ℕ) (before : List ℕ) (r : Pairs) (after : List ℕ) : Type 0 where
  pub octets' : take (end + r.count) after ≡ take end before ++ octets
  pub many : r.count ≡ length octets
  pub text' : drop r.at after ≡ text
  pub inside : (end + r.count ≤ r.at) × (r.at ≤ length before)
  pub long : length after ≡ length before
