-- What a line says: its names lead to a row of the table, and the words behind them have the sorts of that row.
use Rattle.std.specs.Prelude.{ℕ, zero, suc, ◌+◌, ◌/◌, ◌%◌, ◌≤◌, Bool, true, false, not, cond, ◌||◌, ◌&&◌, List, [], ◌∷◌, ◌++◌, ◌≡◌, eqb, leb, length, take, drop, get_or, set}
use Rattle.words.specs.declared.line.Word.{Word}
use Rattle.words.specs.declared.line.Line.{Line}
use Rattle.words.specs.Words.{skipped, ended, is_empty, value_from, behind_digits, word_octets, behind_word}
use Rattle.words.specs.Table.{any, end, slot_parts, may_lack, name_after, row_of, all_sorts, most_of}

-- ---- one word
-- what reading it gave: whether it is of its sort, its value, the octets of the line so far, and the text behind it
pub record WordRead : Type 0 where
  pub good : Bool
  pub value : ℕ
  pub octets : List ℕ
  pub text : List ℕ

abbrev pub number_read : ℕ → List ℕ → List ℕ → WordRead
number_read sort before t =
    record {
      good = leb (value_from (eqb sort 1) (most_of sort) 0 t) (most_of sort) && ended (behind_digits (eqb sort 1) t);
      value = value_from (eqb sort 1) (most_of sort) 0 t;
      octets = before;
      text = behind_digits (eqb sort 1) t;
    }

-- `wanted` octets, or any number of them if that is 0; their value is how many the line has so far
abbrev pub octets_read : ℕ → List ℕ → List ℕ → WordRead
octets_read wanted before t =
    record {
      good = (eqb wanted 0 || eqb (length (word_octets t)) wanted) && ended (behind_word t);
      value = length (before ++ word_octets t);
      octets = before ++ word_octets t;
      text = behind_word t;
    }

unfoldable pub word_read : ℕ → List ℕ → List ℕ → WordRead
word_read sort before t = cond (leb any sort) (octets_read (sort % 16) before t) (number_read sort before t)

-- ---- a line
-- what was read so far: whether the line is understood, whether there are words to come, the row, the sorts to come, the values of up to nine
-- words behind the names, how many there were, the octets, and the text to come
pub record Gathered : Type 0 where
  pub understood : Bool
  pub more : Bool
  pub row : ℕ
  pub sorts : ℕ
  pub values : List ℕ
  pub count : ℕ
  pub octets : List ℕ
  pub text : List ℕ

abbrev pub no_values : List ℕ
no_values = 0 ∷ 0 ∷ 0 ∷ 0 ∷ 0 ∷ 0 ∷ 0 ∷ 0 ∷ 0 ∷ []

-- at its start
abbrev pub begun : List ℕ → Gathered
begun line = record { understood = false; more = true; row = 0; sorts = 1; values = no_values; count = 0; octets = []; text = line }

-- where it ends, and where the parts of a slot begin
abbrev pub line_ends : Gathered → Bool → List ℕ → Gathered
line_ends s good t = record { understood = good; more = false; row = s.row; sorts = s.sorts; values = s.values; count = s.count; octets = s.octets; text = t }

-- behind a name
abbrev pub named : Gathered → WordRead → ℕ → Gathered
named s w row =
    record {
      understood = false;
      more = w.good && not (eqb row 0);
      row = row;
      sorts = get_or all_sorts row 0;
      values = s.values;
      count = s.count;
      octets = w.octets;
      text = w.text;
    }

-- behind another word
abbrev pub valued : Gathered → WordRead → Gathered
valued s w =
    record {
      understood = false;
      more = w.good;
      row = s.row;
      sorts = s.sorts / 64;
      values = set s.values (s.count % 9) w.value;
      count = s.count % 9 + 1;
      octets = w.octets;
      text = w.text;
    }

abbrev pub worded : Gathered → ℕ → WordRead → Gathered
worded s sort w = cond (eqb sort 1) (named s w (row_of (name_after s.row w.value))) (valued s w)

-- one word more
abbrev pub stepped : Gathered → ℕ → List ℕ → Gathered
stepped s sort t =
    cond (is_empty t || eqb sort end || eqb sort slot_parts) (line_ends s (eqb sort slot_parts || ((eqb sort end || may_lack sort) && is_empty t)) t)
    (worded s sort (word_read sort s.octets t))

unfoldable pub step_on : Gathered → Gathered
step_on s = stepped s (s.sorts % 64) (skipped s.text)

-- so many words, if there are so many
unfoldable pub steps : ℕ → Gathered → Gathered
steps zero s = s
steps (suc n) s = cond s.more (steps n (step_on s)) s

-- no line has more than fifteen words
abbrev pub line_read : List ℕ → Gathered
line_read line = steps 16 (begun line)

-- a line without a word, or whose first begins with `#`, asks nothing
unfoldable pub is_comment : List ℕ → Bool
is_comment [] = true
is_comment (x ∷ w) = eqb x 35

abbrev pub silent : List ℕ → Bool
silent line = is_comment (skipped line)

-- ---- as the code has it: octets and text are places of the line
abbrev pub word_of : Word → List ℕ → WordRead
word_of w line = record { good = w.good; value = w.value; octets = take w.end line; text = drop w.at line }

abbrev pub gathered : Line → List ℕ → Gathered
gathered s line =
    record {
      understood = s.understood;
      more = s.more;
      row = s.row;
      sorts = s.sorts;
      values = s.values;
      count = s.count;
      octets = take s.end line;
      text = drop s.at line;
    }

-- the octets that were read end before the text to come, and the line is as long as it was
pub record Apart (end at : ℕ) (before after : List ℕ) : Type 0 where
  pub apart : end ≤ at
  pub within : at ≤ length before
  pub long : length after ≡ length before

-- what reading a line leaves
pub record Reads (r : Line) (before after : List ℕ) : Type 0 where
  pub is : gathered r after ≡ line_read before
  pub inside : Apart r.end r.at before after
