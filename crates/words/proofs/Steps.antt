-- What the proofs of `words` cite: one law for each return and turn of a loop, over plain variables.
use Prim.Native.Nat.{ℕ, suc, ◌+◌, ◌-◌, ◌*◌, ◌/◌, ◌%◌, ◌≤◌, ◌<◌}
use mathlib.Core.Path.{◌≡◌, refl, sym, ap, ◌∙◌, subst}
use mathlib.Core.Bool.{Bool, true, false, not, cond, ◌&&◌, ◌||◌}
use mathlib.Core.List.{List, [], ◌∷◌, ◌++◌, map, append_assoc, append-nil}
use native.Mathlib.Omega.{arith}
use native.Mathlib.Nat.{add-zero, zero-add}
use native.Mathlib.Numerals.{add-one, one-add}
use Rattle.std.specs.declared.option.Option as option
use Rattle.std.specs.declared.option.Option.TheVariants.{Some, None}
use Rattle.std.specs.List.{position, position_or_len, prefix_len}
use Rattle.std.specs.Option.{unwrap_or}
use Rattle.words.specs.declared.table.TheConstants.{ROWS}
use Rattle.words.specs.declared.table.Row.{Row}
use Rattle.words.specs.Letters.{letters}
use Rattle.std.proofs.lemmas.List.{get_or-map}
use Prim.Native.Nat.compare.{suc-suc}
use lib.ListN.{length, take, drop, get_or, set, length-drop, length-set, drop_of_length-le}
use lib.Seq.{drop-cons, drop-length, drop-drop, take-suc-set, drop-set-lt, take_all}
use lib.Dec.{eqb, leb, ltb}
use borrow.Author.Rules.{rules}
use borrow.Author.Tests.{le-leb, lt-leb, eq-eqb, ne_eqb, leb-true, leb-false, lt-ltb, ltb-true, ltb-false, eqb-true, not-true, not-false}
use Rattle.octets.specs.Tests.{both}
use Rattle.words.specs.declared.Pairs.{Pairs}
use Rattle.words.specs.Words.{is_blank, skipped, ended, is_empty, between, is_digit, shifted, value_from, behind_digits, is_hex, hex_of, octet_of, octets_at, behind_octets, is_dash, word_octets, behind_word, Counted, Paired}
use Rattle.words.specs.Table.{row_count, keys, row_from, row_of}
use Rattle.words.specs.declared.line.Word.{Word}
use Rattle.words.specs.declared.line.Line.{Line}
use Rattle.words.specs.Table.{all_sorts}
use Rattle.words.specs.Line as rule
use Rattle.words.specs.Line.{WordRead, number_read, octets_read, word_read, Gathered, begun, line_read, silent, word_of, gathered, Apart, Reads}

-- ---- blanks
blanks : List ℕ → ℕ
blanks w = prefix_len (λ x. not (not (is_blank x))) w

behind_blanks : (w : List ℕ) → drop (blanks w) w ≡ skipped w
unfolding blanks skipped
behind_blanks [] = refl
behind_blanks (x ∷ w) = go (is_blank x) (behind_blanks w)
  where
    go : (b : Bool) → drop (blanks w) w ≡ skipped w → drop (cond (not (not b)) (1 + blanks w) 0) (x ∷ w) ≡ cond b (skipped w) (x ∷ w)
    go true h = let e : 1 + blanks w ≡ suc (blanks w) = omega arith in rw e h
    go false h = refl

module _ (w : List ℕ) where
  place : (b : Bool) (k n : ℕ) → cond b (Some k) None ≡ Some n → k ≡ n
  place true k n e = cc
  place false k n e = cc

  no_place : (b : Bool) (k : ℕ) → cond b (Some k) None ≡ None → b ≡ false
  no_place true k e = cc
  no_place false k e = refl

  skip_some : (n : ℕ) → position (λ x. not (is_blank x)) w ≡ Some n → drop n w ≡ skipped w
  unfolding blanks
  skip_some n e = rw (← place _ (blanks w) n e) (behind_blanks w)

  skip_none : position (λ x. not (is_blank x)) w ≡ None → [] ≡ skipped w
  unfolding blanks
  skip_none e =
      let l : length w ≤ blanks w = ltb-false (blanks w) (length w) (no_place _ (blanks w) e) in
      sym (drop_of_length-le w l) ∙ behind_blanks w

module _ (line : List ℕ) (from : ℕ) (r : option.Option ℕ) (is : r ≡ position (λ x. not (is_blank x)) (take (length line - from) (drop from line))) where
  first : r ≡ position (λ x. not (is_blank x)) (drop from line)
  first = rw (take_all (length line - from) (drop from line) (omega (arith, length-drop from line))) at is

  pub skip_found : (n : ℕ) → r ≡ Some n → drop (from + n) line ≡ skipped (drop from line)
  skip_found n e = sym (drop-drop n from line) ∙ skip_some (drop from line) n (sym first ∙ e)

  pub skip_out : r ≡ None → drop (length line) line ≡ skipped (drop from line)
  skip_out e = drop-length line ∙ skip_none (drop from line) (sym first ∙ e)

-- where a word ends
module _ (line : List ℕ) (at : ℕ) where
  pub end_blank : (b : Bool) → at < length line → b ≡ is_blank (get_or line at 0) → b ≡ ended (drop at line)
  unfolding ended
  end_blank b l is = rw (drop-cons line at 0) is

  pub last_told : leb (length line) at ≡ is_empty (drop at line)
  unfolding is_empty
  last_told = go (leb (length line) at) refl
    where
      go : (b : Bool) → b ≡ leb (length line) at → b ≡ is_empty (drop at line)
      go true e = rw (drop_of_length-le line (leb-true (length line) at (sym e)))
      go false e = rw (drop-cons line at 0 (leb-false (length line) at (sym e)))

  pub end_line : length line ≤ at → true ≡ ended (drop at line)
  unfolding ended
  end_line l = rw (drop_of_length-le line l)

module _ (line : List ℕ) (at : ℕ) (is : drop at line ≡ skipped line) where
  pub comment_told : at < length line → eqb (get_or line at 0) 35 ≡ silent line
  unfolding rule.is_comment
  comment_told l = rw (← is, drop-cons line at 0)

  pub comment_none : length line ≤ at → leb (length line) at ≡ silent line
  unfolding rule.is_comment
  comment_none l = rw (le-leb (length line) at l, ← is, drop_of_length-le line l)

-- ---- names and numbers
pub record Counting (name : Bool) (most : ℕ) (line : List ℕ) (from value at : ℕ) : Type 0 where
  pub is : value_from name most value (drop at line) ≡ value_from name most 0 (drop from line)
  pub text : behind_digits name (drop at line) ≡ behind_digits name (drop from line)
  pub small : value ≤ 36028797018963968
  pub past : from ≤ at
  pub inside : at ≤ length line

module _ (name : Bool) (most : ℕ) (line : List ℕ) (from : ℕ) where
  module _ (value at : ℕ) (u : Counting name most line from value at) where
    pub count_all : length line ≤ at → Counted name most from line (record { value = value; at = length line })
    unfolding value_from behind_digits
    count_all l =
        let v : value_from name most value (drop at line) ≡ value = rw (drop_of_length-le line l) in
        let t : behind_digits name (drop at line) ≡ [] = rw (drop_of_length-le line l) in
        record {
          is = sym v ∙ u.is;
          text = drop_of_length-le line (omega arith) ∙ sym t ∙ u.text;
          past = omega (arith, u.past, u.inside);
          inside = omega arith;
        }

    module _ (more : at < length line) (b : Bool) (is : b ≡ is_digit name (get_or line at 0)) where
      pub count_ends : not b ≡ true → Counted name most from line (record { value = value; at = at })
      unfolding value_from behind_digits
      count_ends e =
          let v : value_from name most value (drop at line) ≡ value = rw (drop-cons line at 0, ← is, not-true b e) in
          let t : behind_digits name (drop at line) ≡ drop at line = rw (drop-cons line at 0, ← is, not-true b e) in
          record { is = sym v ∙ u.is; text = sym t ∙ u.text; past = u.past; inside = u.inside }

      pub count_more : (v : ℕ) → not b ≡ false → v ≡ shifted name most value (get_or line at 0) → v ≤ 36028797018963968
          → Counting name most line from v (at + 1)
      unfolding value_from behind_digits
      count_more v e f l =
          let q : value_from name most value (drop at line) ≡ value_from name most v (drop (suc at) line) =
          rw (drop-cons line at 0, ← is, not-false b e, f) in
          let t : behind_digits name (drop at line) ≡ behind_digits name (drop (suc at) line) = rw (drop-cons line at 0, ← is, not-false b e) in
          record {
            is = rw add-one (sym q ∙ u.is);
            text = rw add-one (sym t ∙ u.text);
            small = l;
            past = omega (arith, u.past);
            inside = omega arith;
          }

-- ---- octets
short : (w : List ℕ) → length w ≤ 1 → (octets_at w ≡ []) × (behind_octets w ≡ w)
unfolding octets_at behind_octets
short [] l = (refl, refl)
short (a ∷ []) l = (refl, refl)
short (a ∷ b ∷ w) l = absurd (omega arith)

hex_small : (x : ℕ) → is_hex x ≡ true → hex_of x < 16
hex_small x e = go (between 48 57 x) (between 65 70 x) (between 97 102 x) refl refl refl e
  where
    low : (l h : ℕ) → between l h x ≡ true → (l ≤ x) × (x ≤ h)
    low l h e = (leb-true l x (both (leb l x) (leb x h) e).0, leb-true x h (both (leb l x) (leb x h) e).1)

    go : (a b c : Bool) → a ≡ between 48 57 x → b ≡ between 65 70 x → c ≡ between 97 102 x → (a || b || c) ≡ true → hex_of x < 16
    go true b c p q r e = let (l, m) = low 48 57 (sym p) in omega arith
    go false true c p q r e = let (l, m) = low 65 70 (sym q) in omega arith
    go false false true p q r e = let (l, m) = low 97 102 (sym r) in omega arith
    go false false false p q r e = let z : ◌≡◌ {A = ℕ} 0 1 = cc in absurd (omega arith)

two_more : (line : List ℕ) (at : ℕ) → at + 1 < length line → drop at line ≡ get_or line at 0 ∷ get_or line (at + 1) 0 ∷ drop (at + 2) line
two_more line at l =
    let n : at + 2 ≡ suc (suc at) = omega arith in
    rw (n, add-one, drop-cons line at 0 (omega arith), drop-cons line (suc at) 0 (omega arith))

-- what was read, n octets, and what is to come are together the octets that there are
pub record Pairing (line₀ : List ℕ) (from end : ℕ) (line : List ℕ) (n : ℕ) : Type 0 where
  pub is : take (end + n) line ++ octets_at (drop (from + 2 * n) line) ≡ take end line₀ ++ octets_at (drop from line₀)
  pub many : n + length (octets_at (drop (from + 2 * n) line)) ≡ length (octets_at (drop from line₀))
  pub text : behind_octets (drop (from + 2 * n) line) ≡ behind_octets (drop from line₀)
  pub apart : end ≤ from
  pub inside : from + 2 * n ≤ length line₀
  pub long : length line ≡ length line₀

module _ (line₀ : List ℕ) (from end : ℕ) where
  module _ (line : List ℕ) (n : ℕ) (u : Pairing line₀ from end line n) where
    module _ (none : octets_at (drop (from + 2 * n) line) ≡ []) (all : behind_octets (drop (from + 2 * n) line) ≡ drop (from + 2 * n) line) where
      pair_end
          : Paired (octets_at (drop from line₀)) (behind_octets (drop from line₀)) end line₀ (record { count = n; at = from + 2 * n }) line
      pair_end =
          let m : length (octets_at (drop (from + 2 * n) line)) ≡ 0 = rw none in
          record {
            octets' = sym (sym u.is ∙ rw (none, append-nil));
            many = omega (arith, u.many);
            text' = sym all ∙ u.text;
            inside = (omega (arith, u.apart), u.inside);
            long = u.long;
          }

    pub pair_all : (m : ℕ) → m ≡ (length line₀ - from) / 2 → m ≤ n
        → Paired (octets_at (drop from line₀)) (behind_octets (drop from line₀)) end line₀ (record { count = m; at = from + 2 * m }) line
    pair_all m e l =
        let same : m ≡ n = omega (arith, e, u.inside) in
        let k : length (drop (from + 2 * n) line) ≤ 1 = simp length-drop (omega (arith, e, u.long, u.inside)) in
        rw same (pair_end (short (drop (from + 2 * n) line) k).0 (short (drop (from + 2 * n) line) k).1)

    module _ (more : n < (length line₀ - from) / 2) where
      pub pair_next : from + 2 * n + 1 < length line
      pair_next = omega (arith, u.long)

      module _ (b : ℕ) (is : b ≡ octet_of (get_or line (from + 2 * n) 0) (get_or line (from + 2 * n + 1) 0)) where
        two : drop (from + 2 * n) line ≡ get_or line (from + 2 * n) 0 ∷ get_or line (from + 2 * n + 1) 0 ∷ drop (from + 2 * n + 2) line
        two = two_more line (from + 2 * n) pair_next

        pub pair_ends : b ≡ 256
            → Paired (octets_at (drop from line₀)) (behind_octets (drop from line₀)) end line₀ (record { count = n; at = from + 2 * n }) line
        unfolding octets_at behind_octets
        pair_ends e = pair_end (rw (two, ← is, eq-eqb b 256 e)) (rw (two, ← is, eq-eqb b 256 e))

        pub pair_more : b < 256 → Pairing line₀ from end (set line (end + n) b) (n + 1)
        unfolding octets_at behind_octets
        pair_more f =
            let g : b ≡ 256 → ⊥ = omega arith in
            let p : from + 2 * (n + 1) ≡ from + 2 * n + 2 = omega arith in
            let q : end + (n + 1) ≡ suc (end + n) = omega arith in
            let d : drop (from + 2 * n + 2) (set line (end + n) b) ≡ drop (from + 2 * n + 2) line =
            drop-set-lt (from + 2 * n + 2) line (end + n) b (omega (arith, u.apart)) in
            let o : octets_at (drop (from + 2 * n) line) ≡ b ∷ octets_at (drop (from + 2 * n + 2) line) = rw (two, ← is, ne_eqb b 256 g) in
            let t : behind_octets (drop (from + 2 * n) line) ≡ behind_octets (drop (from + 2 * n + 2) line) = rw (two, ← is, ne_eqb b 256 g) in
            let m : length (octets_at (drop (from + 2 * n) line)) ≡ length (octets_at (drop (from + 2 * n + 2) line)) + 1 = rw (o, add-one) in
            record {
              is =
                  rw (p, q, d, take-suc-set line (end + n) b (omega (arith, u.apart, u.long)), append_assoc)
                  (sym (ap (λ (w : List ℕ). take (end + n) line ++ w) o) ∙ u.is);
              many = rw (p, d) (omega (arith, u.many));
              text = rw (p, d) (sym t ∙ u.text);
              apart = u.apart;
              inside = omega (arith, u.long);
              long = rw length-set u.long;
            }

-- two digits make an octet
module _ (a b : ℕ) (f g : Bool) (p : f ≡ is_hex a) (q : g ≡ is_hex b) where
  pub no_octet : f && g ≡ false → octet_of a b ≡ 256
  unfolding octet_of
  no_octet e = rw (← p, ← q, e)

  module _ (e : f && g ≡ true) (h l : ℕ) (x : h ≡ hex_of a) (y : l ≡ hex_of b) where
    pub one_octet : h * 16 + l ≡ octet_of a b
    unfolding octet_of
    one_octet = rw (← p, ← q, e, x, y)

    pub octet_small : h * 16 + l < 256
    octet_small = let (s, t) = both f g e in omega (arith, x, y, hex_small a (sym p ∙ s), hex_small b (sym q ∙ t))

-- `-`
module _ (line : List ℕ) (from end : ℕ) (there : from < length line) where
  dash_at : is_dash (drop from line) ≡ eqb (get_or line from 0) 45
  unfolding is_dash
  dash_at = rw (drop-cons line from 0)

  pub dash_read : end ≤ from → get_or line from 0 ≡ 45
      → Paired (word_octets (drop from line)) (behind_word (drop from line)) end line (record { count = 0; at = from + 1 }) line
  dash_read l e =
      let d : is_dash (drop from line) ≡ true = dash_at ∙ eq-eqb (get_or line from 0) 45 e in
      record {
        octets' = rw (add-zero, d, append-nil);
        many = rw d;
        text' = rw d (rw (drop-cons line from 0, add-one));
        inside = (omega arith, omega arith);
        long = refl;
      }

  pub pairs_read : (r : Pairs) (after : List ℕ) → (get_or line from 0 ≡ 45 → ⊥)
      → Paired (octets_at (drop from line)) (behind_octets (drop from line)) end line r after
      → Paired (word_octets (drop from line)) (behind_word (drop from line)) end line r after
  pairs_read r after f h = rw (dash_at ∙ ne_eqb (get_or line from 0) 45 f) h

-- ---- the table
module _ (key : ℕ) where
  before_key : List (Row) → ℕ
  before_key xs = position_or_len (λ (r : Row). eqb r.0 key) xs

  -- the rule's search of the keys, as a search of the rows
  row_from_is : (i : ℕ) (xs : List (Row)) → row_from key i (map (λ r. r.0) xs) ≡ cond (ltb (before_key xs) (length xs)) (i + before_key xs) 0
  unfolding row_from before_key
  row_from_is i [] = refl
  row_from_is i (x ∷ xs) = go (eqb x.0 key) (row_from_is (i + 1) xs)
    where
      go : (b : Bool) → row_from key (i + 1) (map (λ r. r.0) xs) ≡ cond (ltb (before_key xs) (length xs)) (i + 1 + before_key xs) 0
          → cond b i (row_from key (i + 1) (map (λ r. r.0) xs))
          ≡ cond (ltb (cond (not b) (1 + before_key xs) 0) (suc (length xs))) (i + cond (not b) (1 + before_key xs) 0) 0
      go true h = rw (lt-ltb 0 (suc (length xs)) (omega arith), add-zero)
      go false h = let e : i + suc (before_key xs) ≡ i + 1 + before_key xs = omega arith in rw (one-add (before_key xs), suc-suc (suc (before_key xs)) (length xs), e) h

  or_none : (b : Bool) (k : ℕ) → unwrap_or (cond b (Some k) None) 0 ≡ cond b k 0
  or_none true k = refl
  or_none false k = refl

  below : (b : Bool) (k n : ℕ) → b ≡ ltb k n → 0 < n → cond b k 0 < n
  below true k n e l = ltb-true k n (sym e)
  below false k n e l = l

  -- row 0 has the key 0, as no other row
  first_row : row_from key 0 keys ≡ row_of key
  unfolding row_from letters
  first_row = go (eqb 0 key) refl
    where
      go : (b : Bool) → b ≡ eqb 0 key → cond b 0 (row_of key) ≡ row_of key
      go true e = let z : 0 ≡ key = eqb-true 0 key (sym e) in subst (λ (k : ℕ). 0 ≡ row_of k) z refl
      go false e = refl

  module _ (r : option.Option ℕ) (is : r ≡ position (λ (r : Row). eqb r.0 key) ROWS) where
    chosen : unwrap_or r 0 ≡ cond (ltb (before_key ROWS) row_count) (before_key ROWS) 0
    unfolding before_key
    chosen = ap (λ (o : option.Option ℕ). unwrap_or o 0) is ∙ or_none _ (before_key ROWS)

    pub find_row : unwrap_or r 0 ≡ row_of key
    unfolding letters
    find_row = chosen ∙ ap (λ (n : ℕ). cond (ltb (before_key ROWS) row_count) n 0) (sym (zero-add (before_key ROWS))) ∙ sym (row_from_is 0 ROWS) ∙ first_row

    pub find_below : unwrap_or r 0 < row_count
    find_below = rw chosen (below _ (before_key ROWS) row_count refl (omega arith))

pub sorts_are : (i : ℕ) (d : Row) → i < row_count → (get_or ROWS i d).1 ≡ get_or all_sorts i 0
sorts_are i d l = sym (get_or-map (λ (r : Row). r.1) ROWS i d 0 l)

-- ---- one word
pub word_octets_lem : (sort : ℕ) (o t : List ℕ) (w : WordRead) → 32 ≤ sort → w ≡ octets_read (sort % 16) o t → w ≡ word_read sort o t
unfolding word_read
word_octets_lem sort o t w l e = rw (le-leb 32 sort l) e

pub word_number : (sort : ℕ) (o t : List ℕ) (w : WordRead) → sort < 32 → w ≡ number_read sort o t → w ≡ word_read sort o t
unfolding word_read
word_number sort o t w l e = rw (lt-leb 32 sort l) e

-- ---- a line
-- the flag that ends a line
module _ (last : Bool) (sort : ℕ) where
  module _ (s r : Line) (line : List ℕ) (at : ℕ) (t : drop at line ≡ skipped (drop s.at line)) (is : last ≡ is_empty (drop at line)) (k : sort ≡ s.sorts % 64) where
    pub step_closed : (last || eqb sort 0 || eqb sort 15) ≡ true
        → ((l : List ℕ) → gathered r l ≡ rule.line_ends (gathered s l) (eqb sort 15 || ((eqb sort 0 || eqb (sort / 16 % 2) 1) && last)) (drop at l))
        → gathered r line ≡ rule.step_on (gathered s line)
    unfolding rule.step_on
    step_closed e h = h line ∙ rw (← k, ← t, ← is, e)

    pub step_worded : (last || eqb sort 0 || eqb sort 15) ≡ false → (w : Word) (after : List ℕ)
        → word_of w after ≡ word_read sort (take s.end line) (drop at line)
        → ((l k : List ℕ) → gathered r l ≡ rule.worded (gathered s k) sort (word_of w l))
        → gathered r after ≡ rule.step_on (gathered s line)
    unfolding rule.step_on
    step_worded e w after f h = h after line ∙ ap (λ (x : WordRead). rule.worded (gathered s line) sort x) f ∙ sym (rw (← k, ← t, ← is, e))

module _ (n : ℕ) (x : Gathered) where
  stays : x.more ≡ false → rule.steps (suc n) x ≡ x
  unfolding rule.steps
  stays e = rw e

  goes : x.more ≡ true → rule.steps (suc n) x ≡ rule.steps n (rule.step_on x)
  unfolding rule.steps
  goes e = rw e

-- after k words, so many fewer lead to the same
pub record Reading (line₀ line : List ℕ) (s : Line) (k : ℕ) : Type 0 where
  pub is : rule.steps (16 - k) (gathered s line) ≡ line_read line₀
  pub inside : Apart s.end s.at line₀ line
  pub some : k ≤ 16

module _ (line₀ line : List ℕ) (s : Line) (k : ℕ) (u : Reading line₀ line s k) where
  pub read_all : 16 ≤ k → Reads s line₀ line
  unfolding rule.steps
  read_all l =
      let e : 16 - k ≡ 0 = omega arith in
      record { is = subst (λ (n : ℕ). rule.steps n (gathered s line) ≡ line_read line₀) e u.is; inside = u.inside }

  module _ (more : k < 16) where
    next_read : rule.steps (suc (16 - (k + 1))) (gathered s line) ≡ line_read line₀
    next_read = let e : 16 - k ≡ suc (16 - (k + 1)) = omega arith in subst (λ (n : ℕ). rule.steps n (gathered s line) ≡ line_read line₀) e u.is

    pub read_ends : not s.more ≡ true → Reads s line₀ line
    read_ends e = record { is = sym (stays (16 - (k + 1)) (gathered s line) (not-true s.more e)) ∙ next_read; inside = u.inside }

    pub read_more : (r : Line) (after : List ℕ) → not s.more ≡ false → gathered r after ≡ rule.step_on (gathered s line)
        → Apart r.end r.at line after → Reading line₀ after r (k + 1)
    read_more r after e f i =
        record {
          is = ap (λ (x : Gathered). rule.steps (16 - (k + 1)) x) f ∙ sym (goes (16 - (k + 1)) (gathered s line) (not-false s.more e)) ∙ next_read;
          inside = record { apart = i.apart; within = omega (arith, i.within, u.inside.long); long = i.long ∙ u.inside.long };
          some = omega arith;
        }

pub ruleset steps = (
  rules,
  skip_found,
  skip_out,
  end_blank,
  last_told,
  end_line,
  comment_told,
  comment_none,
  count_all,
  count_ends,
  count_more,
  pair_all,
  pair_ends,
  pair_more,
  no_octet,
  one_octet,
  octet_small,
  dash_read,
  pairs_read,
  find_row,
  find_below,
  sorts_are,
  word_octets_lem,
  word_number,
  step_closed,
  step_worded,
  read_all,
  read_ends,
  read_more,
)
