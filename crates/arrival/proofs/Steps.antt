-- What the proofs of `arrival` cite: one law for each return and call, over plain variables.
use Rattle.std.specs.declared.result.Result.{Result}
use Rattle.std.specs.declared.option.Option as option
use Rattle.std.specs.declared.option.Option.TheVariants.{Some, None}
use Rattle.types.specs.declared.Refusal.{Refusal}
use Prim.Native.Nat.{ℕ, ◌+◌, ◌-◌, ◌/◌, ◌%◌, ◌≤◌, ◌<◌}
use mathlib.Core.Path.{◌≡◌, refl, sym, ap, ◌∙◌}
use mathlib.Core.List.{List}
use mathlib.Core.Bool.{Bool, true, false, not, ◌||◌, beq}
use mathlib.Core.Option.{Option, none, some}
use native.Mathlib.Omega.{arith}
use native.Mathlib.Nat.{add-sub_cancel}
use lib.ListN.{length, get_or, take, drop}
use lib.Dec.{eqb, leb-zero}
use borrow.Author.Rules.{rules}
use borrow.Author.Tests.{le-leb, lt-leb, lt-ltb, le-ltb, eq-eqb, ne_eqb}
use Rattle.types.specs.declared.Kind.{Kind}
use Rattle.types.specs.Refusals.{refused, gives}
use Rattle.packet.specs.Packets.{differ}
use Rattle.header.specs.declared.Concatenation.{Concatenation}
use Rattle.header.specs.declared.Seen.{Seen}
use Rattle.types.specs.declared.Arrival.{Arrival}
use Rattle.types.specs.declared.Key.{Key}
use Rattle.types.specs.declared.SerialNumber.{SerialNumber}
use Rattle.types.specs.declared.MessageIdentifier.{MessageIdentifier}
use Rattle.arrival.specs.Arrivals.{single, part, told_arrival}
use Rattle.header.specs.Header.{Item, elements, wrong_length, any_of, summary}
use Rattle.arrival.specs.Message.{alone, opens, own, foreign, misplaced, message_key, judged, where_read, read_message, header_octets, after_header}
use Rattle.arrival.specs.Page.{serial_in, identifier_in, parameter_in, one_of_one, page_total, page_number, page_key, no_pages, identifier_in_range, misdirected, read_page}
use Rattle.header.specs.Reading.{nothing_seen, seen_after, collected, walked}
use Rattle.header.proofs.SeenLaws.{after_wrong, seen_summary}

-- what was seen is judged as the summary is
judged_all : (k : Kind) (sender start : ℕ) (es : List Item) → judged k sender start (seen_after nothing_seen es) ≡ judged k sender start (summary es)
unfolding judged summary
judged_all k sender start es = go (any_of wrong_length es) refl
  where
    go : (b : Bool) → any_of wrong_length es ≡ b → judged k sender start (seen_after nothing_seen es) ≡ judged k sender start (summary es)
    go true w = rw (after_wrong nothing_seen es w, w)
    go false w = ap (judged k sender start) (seen_summary es w)

-- ---- judging
pub opens_told : (b : Bool) (c : Concatenation) → b ≡ alone c → b || eqb c.number 1 ≡ opens c
opens_told b c e = rw e

differ_told : (a b : Bool) → not (beq a b) ≡ differ a b
differ_told true true = refl
differ_told true false = refl
differ_told false true = refl
differ_told false false = refl

pub misplaced_told : (f o w : Bool) (k : Kind) (s : Seen) → f ≡ foreign k s → o ≡ opens s.concatenation → w ≡ own k s
    → f || not (beq o w) ≡ misplaced k s
misplaced_told f o w k s p q r = rw (differ_told o w, p, q, r)

module _ (k : Kind) (sender start : ℕ) (s : Seen) where
  pub judged_element : s.wrong ≡ true → refused 4 ≡ judged k sender start s
  unfolding judged
  judged_element e = rw e

  module _ (right : s.wrong ≡ false) (m : Bool) (rule : m ≡ misplaced k s) where
    pub judged_misplaced : m ≡ true → refused 5 ≡ judged k sender start s
    unfolding judged
    judged_misplaced e = rw (← rule, e, right)

    module _ (here : m ≡ false) (a : Bool) (sole : a ≡ alone s.concatenation) where
      pub judged_single : a ≡ true → gives (single start) ≡ judged k sender start s
      unfolding judged
      judged_single e = rw (← rule, here, right, ← sole, e)

      pub judged_total : a ≡ false → 16 < s.concatenation.total → refused 6 ≡ judged k sender start s
      unfolding judged
      judged_total e l = rw (← rule, here, right, ← sole, e, lt-ltb _ _ l)

      pub judged_part : a ≡ false → s.concatenation.total ≤ 16 → (x : Key) → x ≡ message_key sender s.concatenation
          → gives (part x s.concatenation.total s.concatenation.number start) ≡ judged k sender start s
      unfolding judged
      judged_part e l x f = rw (← rule, here, right, ← sole, e, le-ltb _ _ l, f)

-- ---- the message
module _ (k : Kind) (sender : ℕ) (ud : List ℕ) where
  pub message_size : 140 < length ud → refused 2 ≡ read_message k sender ud
  unfolding read_message
  message_size l = rw (lt-ltb _ _ l)

  module _ (fits : length ud ≤ 140) where
    pub message_empty : length ud ≡ 0 → refused 3 ≡ read_message k sender ud
    unfolding read_message
    message_empty e = rw (e, leb-zero)

    module _ (n : ℕ) (counted : n ≡ get_or ud 0 0) where
      pub message_long : length ud ≤ n → refused 3 ≡ read_message k sender ud
      unfolding read_message
      message_long l = rw (le-ltb _ _ fits, le-leb (length ud) (get_or ud 0 0) (omega arith))

      module _ (inside : n < length ud) (s : Seen) (fresh : s ≡ nothing_seen) (w : option.Option Seen) (rule : w ≡ walked (take (n + 1 - 1) (drop 1 ud)) 0 s) where
        longer : get_or ud 0 0 < length ud
        longer = omega arith

        told_header : w ≡ collected nothing_seen (elements (header_octets ud))
        told_header = rule ∙ rw (fresh, add-sub_cancel, counted)

        pub message_past : w ≡ None → refused 3 ≡ read_message k sender ud
        unfolding read_message
        message_past e = rw (le-ltb _ _ fits, lt-leb _ _ longer) (go (elements (header_octets ud)) (sym told_header ∙ e))
          where
            go : (o : Option (List Item)) → collected nothing_seen o ≡ None
                → refused 3 ≡ where_read (λ es. judged k sender (after_header ud) (summary es)) o
            go none e = refl
            go (some es) e = let z : ◌≡◌ {A = ℕ} 0 1 = cc in absurd (omega arith)

        pub message_judged : (seen : Seen) → w ≡ Some seen → (r : Result Arrival Refusal) → told_arrival r ≡ judged k sender (n + 1) seen
            → told_arrival r ≡ read_message k sender ud
        unfolding read_message
        message_judged seen e r f =
            rw (le-ltb _ _ fits, lt-leb _ _ longer) (f ∙ rw counted (go (elements (header_octets ud)) (sym told_header ∙ e)))
          where
            go : (o : Option (List Item)) → collected nothing_seen o ≡ Some seen
                → judged k sender (after_header ud) seen ≡ where_read (λ es. judged k sender (after_header ud) (summary es)) o
            go none e = let z : ◌≡◌ {A = ℕ} 0 1 = cc in absurd (omega arith)
            go (some es) e =
                let same : seen ≡ seen_after nothing_seen es = cc in
                ap (judged k sender (after_header ud)) same ∙ judged_all k sender (after_header ud) es

-- ---- the page
module _ (p : ℕ) (b : Bool) (rule : b ≡ one_of_one p) where
  pub total_one : b ≡ true → 1 ≡ page_total p
  total_one e = rw (← rule, e)

  pub number_one : b ≡ true → 1 ≡ page_number p
  number_one e = rw (← rule, e)

  pub total_low : b ≡ false → p % 16 ≡ page_total p
  total_low e = rw (← rule, e)

  pub number_high : b ≡ false → p / 16 ≡ page_number p
  number_high e = rw (← rule, e)

pub misdirected_told : (a b : Bool) (k : Kind) (i : ℕ) → a ≡ no_pages k → b ≡ identifier_in_range i → a || not b ≡ misdirected k i
misdirected_told a b k i e f = rw (e, f)

module _ (k : Kind) (page : List ℕ) where
  pub page_size : (length page ≡ 88 → ⊥) → refused 2 ≡ read_page k page
  unfolding read_page
  page_size e = rw (ne_eqb _ _ e)

  module _ (size : length page ≡ 88) (t n : ℕ) (low : t ≡ page_total (parameter_in page)) (high : n ≡ page_number (parameter_in page)) where
    pub page_number_lem : t < n → refused 4 ≡ read_page k page
    unfolding read_page
    page_number_lem l = rw (eq-eqb _ _ size, ← low, ← high, lt-ltb _ _ l)

    module _ (l : n ≤ t) (m : Bool) (x : MessageIdentifier) (read : x.0 ≡ identifier_in page) (rule : m ≡ misdirected k x.0) where
      pub page_misdirected : m ≡ true → refused 5 ≡ read_page k page
      unfolding read_page
      page_misdirected e = rw (eq-eqb _ _ size, ← low, ← high, le-ltb _ _ l, ← read, ← rule, e)

      pub page_single : m ≡ false → t ≡ 1 → gives (single 6) ≡ read_page k page
      unfolding read_page
      page_single e o = rw (eq-eqb _ _ size, ← low, ← high, le-ltb _ _ l, ← read, ← rule, e, eq-eqb _ _ o)

      pub page_part : m ≡ false → (t ≡ 1 → ⊥) → (z : SerialNumber) → z.0 ≡ serial_in page → (y : Key) → y ≡ page_key z.0 x.0 → gives (part y t n 6) ≡ read_page k page
      unfolding read_page
      page_part e o z g y f = rw (eq-eqb _ _ size, ← low, ← high, le-ltb _ _ l, ← read, ← rule, e, ne_eqb _ _ o, ← g, f)

pub ruleset steps = (
  rules,
  opens_told,
  misplaced_told,
  judged_element,
  judged_misplaced,
  judged_single,
  judged_total,
  judged_part,
  message_size,
  message_empty,
  message_long,
  message_past,
  message_judged,
  total_one,
  number_one,
  total_low,
  number_high,
  misdirected_told,
  page_size,
  page_number_lem,
  page_misdirected,
  page_single,
  page_part,
)
