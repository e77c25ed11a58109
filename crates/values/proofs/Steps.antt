-- What the proofs of `values` cite: one law for each return, over plain variables.
use Rattle.std.specs.declared.result.Result.{Result}
use Rattle.std.specs.declared.option.Option as option
use Rattle.std.specs.declared.option.Option.TheVariants.{Some, None}
use Rattle.types.specs.declared.Refusal.{Refusal}
use Prim.Native.Nat.{ℕ, ◌+◌, ◌*◌, ◌%◌, ◌≤◌, ◌<◌}
use mathlib.Core.Path.{◌≡◌, sym, ap, ◌∙◌}
use mathlib.Core.Bool.{not, cond, ◌&&◌, ◌||◌}
use mathlib.Core.List.{List}
use lib.ListN.{length, drop, get_or, set, get_or-eq_default}
use native.Mathlib.Omega.{arith}
use lib.Dec.{eqb, ltb}
use borrow.Author.Rules.{rules}
use borrow.Author.Tests.{eq-eqb, ne_eqb}
use Rattle.types.specs.declared.Tar.{Tar}
use Rattle.types.specs.declared.Cntr.{Cntr}
use Rattle.types.specs.declared.Counters.{Counters}
use Rattle.types.specs.declared.CounterEntry.{CounterEntry}
use Rattle.types.specs.declared.JudgedCounter.{JudgedCounter}
use Rattle.types.specs.declared.SentCommand.{SentCommand}
use Rattle.types.specs.declared.Outstanding.{Outstanding}
use Rattle.types.specs.declared.Closing.{Closing}
use Rattle.types.specs.declared.Captured.{Captured}
use Rattle.types.specs.declared.Captured.TheVariants.{UserData, Page}
use Rattle.skelmarix.specs.Rules.{number_of, Assessed, assessed, told_judgement, judge_counter, sent_command, Fate, Settled, settled, told_sending, told_closing, command_sent, response_came, record_in}
use Rattle.values.specs.Fields.{sender_of, tar_of, cntr_of}
use Rattle.values.specs.Meaning as meaning
use Rattle.values.specs.Tables as rule

-- ---- fields
pub no_octet : (o : List ℕ) (i : ℕ) → length o ≤ i → 0 ≡ get_or o i 0
no_octet o i l = sym (get_or-eq_default o 0 l)

pub sender_told : (o : List ℕ) (a b c d h l : ℕ) → a ≡ get_or o 0 0 → b ≡ get_or o 1 0 → c ≡ get_or o 2 0 → d ≡ get_or o 3 0
    → h ≡ number_of a b → l ≡ number_of c d → h * 65536 + l ≡ sender_of o
sender_told o a b c d h l e f g k m n = rw (m, n, e, f, g, k)

pub tar_told : (o : List ℕ) (a b c : ℕ) → a ≡ get_or o 0 0 → b ≡ get_or o 1 0 → c ≡ get_or o 2 0 → (a, b, c) ≡ tar_of o
tar_told o a b c e f g = rw (e, f, g)

pub cntr_told : (o : List ℕ) (a b c d e : ℕ) → a ≡ get_or o 0 0 → b ≡ get_or o 1 0 → c ≡ get_or o 2 0 → d ≡ get_or o 3 0 → e ≡ get_or o 4 0
    → (a, b, c, d, e) ≡ cntr_of o
cntr_told o a b c d e f g h k l = rw (f, g, h, k, l)

-- ---- counters
module _ (row count n : ℕ) (octets : List ℕ) (c d : Counters) where
  pub after_entry : (a : Counters) (e : CounterEntry) → row ≡ 53 → e ≡ rule.entry_of octets → a ≡ rule.with_entry c (n % 16) e → d ≡ a
      → d ≡ rule.counters_by row count n octets c
  after_entry a e r is w f = rw (eq-eqb row 53 r, ← is) (f ∙ w)

  module _ (z : row ≡ 53 → ⊥) where
    pub after_count : (a : Counters) → row ≡ 54 → a ≡ cond (eqb count 0) c (rule.with_in_use c (n % 256)) → d ≡ a → d ≡ rule.counters_by row count n octets c
    after_count a r w f = rw (ne_eqb row 53 z, eq-eqb row 54 r) (f ∙ w)

    pub after_judging : (a : JudgedCounter) → (row ≡ 54 → ⊥) → assessed (told_judgement a.answer) a.counters ≡ judge_counter c octets
        → a.counters ≡ rule.counters_by row count n octets c
    after_judging a y e = rw (ne_eqb row 53 z, ne_eqb row 54 y) (ap (λ (x : Assessed). x.counters) e)

pub entry_told : (o rest : List ℕ) (t : Tar) (n : Cntr) → rest ≡ drop 3 o → t ≡ tar_of o → n ≡ cntr_of rest → record { tar = t; cntr = n } ≡ rule.entry_of o
entry_told o rest t n e f g = rw (f, g, e)

pub in_use_same : (count n : ℕ) (c : Counters) → count ≡ 0 → c ≡ cond (eqb count 0) c (rule.with_in_use c (n % 256))
in_use_same count n c e = rw (eq-eqb count 0 e)

pub in_use_other : (count n : ℕ) (c : Counters) → (count ≡ 0 → ⊥) → rule.with_in_use c (n % 256) ≡ cond (eqb count 0) c (rule.with_in_use c (n % 256))
in_use_other count n c f = rw (ne_eqb count 0 f)

-- ---- outstanding commands
pub command_told : (o a d : List ℕ) (s : ℕ) (t : Tar) (n : Cntr) → s ≡ sender_of o → a ≡ drop 4 o → d ≡ drop 7 o → t ≡ tar_of a → n ≡ cntr_of d
    → record { sender = s; tar = t; cntr = n } ≡ rule.command_of o
command_told o a d s t n e f g h i = rw (e, h, i, f, g)

pub sent_told : (t u : Outstanding) (o : List ℕ) (c : SentCommand) (a : Result Unit Refusal) → c ≡ rule.command_of o
    → settled (told_sending a) u ≡ command_sent t (sent_command c.sender c.tar c.cntr) → u ≡ (command_sent t (rule.command_of o)).1
sent_told t u o c a e f = ap (λ (x : Settled Unit). x.1) (rw e at f)

pub came_told : (t u : Outstanding) (o p : List ℕ) (s : ℕ) (a : Result Closing Refusal) → s ≡ sender_of o → p ≡ drop 4 o
    → settled (told_closing a) u ≡ response_came t s p → u ≡ (response_came t (sender_of o) (drop 4 o)).1
came_told t u o p s a e f g = ap (λ (x : Settled Fate). x.1) (rw (e, f) at g)

module _ (count n : ℕ) (e : SentCommand) (t : Outstanding) where
  pub written_none : count ≡ 0 → t ≡ rule.table_written count n e t
  written_none z = rw (eq-eqb count 0 z)

  module _ (z : count ≡ 0 → ⊥) where
    pub written_count : count ≡ 1 → record { count = n % 256; entries = t.entries } ≡ rule.table_written count n e t
    written_count y = rw (ne_eqb count 0 z, eq-eqb count 1 y)

    pub written_entry : (count ≡ 1 → ⊥) → record { count = t.count; entries = set t.entries (n % 8) e } ≡ rule.table_written count n e t
    written_entry y = rw (ne_eqb count 0 z, ne_eqb count 1 y)

module _ (row count n : ℕ) (octets : List ℕ) (t u : Outstanding) where
  pub after_sent : row ≡ 57 → u ≡ (command_sent t (rule.command_of octets)).1 → u ≡ rule.commands_after row count n octets t
  after_sent e f = rw (eq-eqb row 57 e) f

  module _ (z : row ≡ 57 → ⊥) where
    pub after_answered : row ≡ 58 → u ≡ (response_came t (sender_of octets) (drop 4 octets)).1 → u ≡ rule.commands_after row count n octets t
    after_answered e f = rw (ne_eqb row 57 z, eq-eqb row 58 e) f

    pub after_written : (c : SentCommand) → (row ≡ 58 → ⊥) → c ≡ rule.command_of octets → u ≡ rule.table_written count n c t → u ≡ rule.commands_after row count n octets t
    after_written c y e f = rw (ne_eqb row 57 z, ne_eqb row 58 y, ← e) f

-- ---- what a line means
-- what a captured record is
pub way_row : (row : ℕ) (octets : List ℕ) → (row ≡ 60 → ⊥) → row ≡ meaning.way_of row octets
way_row row octets z = rw (ne_eqb row 60 z)

module _ (row : ℕ) (octets own : List ℕ) where
  module _ (x : option.Option Captured) (e : row ≡ 60) (f : own ≡ drop 4 octets) (g : x ≡ record_in own) where
    way_captured : meaning.captured_way row x ≡ meaning.way_of row octets
    way_captured = rw (eq-eqb row 60 e, ← f, ← g)

    pub way_message : (start : ℕ) → x ≡ Some (UserData start) → 1 ≡ meaning.way_of row octets
    way_message start h = rw h at way_captured

    pub way_page : (start : ℕ) → x ≡ Some (Page start) → 2 ≡ meaning.way_of row octets
    way_page start h = rw h at way_captured

    pub way_unsound : x ≡ None → row ≡ meaning.way_of row octets
    way_unsound h = rw h at way_captured

pub own_captured : (row : ℕ) → row ≡ 60 → 8 ≡ meaning.own_at row
own_captured row e = rw (eq-eqb row 60 e)

pub own_message : (row : ℕ) → (row ≡ 60 → ⊥) → row ≡ 1 → 4 ≡ meaning.own_at row
own_message row z e = rw (ne_eqb row 60 z, eq-eqb row 1 e)

pub own_page : (row : ℕ) → (row ≡ 60 → ⊥) → (row ≡ 1 → ⊥) → 0 ≡ meaning.own_at row
own_page row z y = rw (ne_eqb row 60 z, ne_eqb row 1 y)

pub meant_told : (row count n way : ℕ) (octets : List ℕ) → way ≡ meaning.way_of row octets
    → (not (eqb row 59 && ltb 1 count && ltb 7 n) && not (eqb way 60) && not (eqb row 74 && (ltb 79 n || ltb 151 (length octets)))) ≡ meaning.meant row count n octets
meant_told row count n way octets e = rw e

pub asked_five : (count n : ℕ) → count ≡ 0 → 5 ≡ meaning.slots_asked count n
asked_five count n e = rw (eq-eqb count 0 e)

pub asked_less : (count n : ℕ) → (count ≡ 0 → ⊥) → n < 255 → n ≡ meaning.slots_asked count n
asked_less count n f l = rw (ne_eqb count 0 f) (omega arith)

pub asked_most : (count n : ℕ) → (count ≡ 0 → ⊥) → 255 ≤ n → 255 ≡ meaning.slots_asked count n
asked_most count n f l = rw (ne_eqb count 0 f) (omega arith)

pub ruleset steps = (
  rules,
  way_row,
  way_message,
  way_page,
  way_unsound,
  own_captured,
  own_message,
  own_page,
  meant_told,
  asked_five,
  asked_less,
  asked_most,
  no_octet,
  sender_told,
  tar_told,
  cntr_told,
  after_entry,
  after_count,
  after_judging,
  entry_told,
  in_use_same,
  in_use_other,
  command_told,
  sent_told,
  came_told,
  written_none,
  written_count,
  written_entry,
  after_sent,
  after_answered,
  after_written,
)
