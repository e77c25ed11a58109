-- What the proofs of `changes` cite: one law for each return, over plain variables.
use Rattle.std.specs.declared.result.Result.{Result}
use Rattle.std.specs.declared.result.Result.TheVariants.{Ok, Err}
use Prim.Native.Nat.{ℕ, ◌-◌, ◌%◌, ◌≤◌, ◌<◌}
use mathlib.Core.Path.{◌≡◌, refl, ap, ◌∙◌}
use mathlib.Core.Bool.{Bool, true, false, ◌&&◌}
use mathlib.Core.List.{List, ◌++◌}
use native.Mathlib.Omega.{arith}
use lib.ListN.{length, take, drop, get_or, set, replicate}
use lib.Dec.{eqb, ltb, leb}
use borrow.Author.Rules.{rules}
use borrow.Author.Tests.{eq-eqb, ne_eqb, lt-ltb, le-ltb, ltb-true}
use Rattle.types.specs.declared.Kind.{Kind}
use Rattle.types.specs.declared.Kind.TheVariants.{Command}
use Rattle.types.specs.declared.Record.{Record}
use Rattle.types.specs.declared.Counters.{Counters}
use Rattle.types.specs.declared.Outstanding.{Outstanding}
use Rattle.types.specs.declared.Refusal.{Refusal}
use Rattle.types.specs.Refusals.{refused, gives}
use Rattle.skelmarix.specs.Rules.{default_slots, is_slot_number, cells_size, Beside, beside, told_making, making, fresh_record, Answer, state, after, take_message, take_page, beaten, told_beating, beat, no_counters, no_commands}
use Rattle.values.specs.Fields.{kind_by, sender_of}
use Rattle.values.specs.Meaning.{way_of, own_at, slots_asked}
use Rattle.values.specs.Tables.{counters_by, commands_after}
use Rattle.lines.specs.Lent.{lent_of}
use Rattle.changes.specs.declared.Bench.{Bench}
use Rattle.changes.specs.Kept as rule
use Rattle.changes.specs.Kept.{held, row_changes}

pub start_told : (r : Record) (c : Counters) (t : Outstanding) → r ≡ fresh_record default_slots Command → c ≡ no_counters → t ≡ no_commands
    → record { «record» = r; counters = c; outstanding = t; lent = rule.all_right; numbered = false } ≡ rule.at_start
start_told r c t e f g = rw (e, f, g)

clash : (b : Bool) → b ≡ true → b ≡ false → ⊥
clash b p q = let z : ◌≡◌ {A = ℕ} 0 1 = cc in omega arith

-- ---- taking
module _ (way at : ℕ) (octets own : List ℕ) (r q : Record) (a : Answer) (cells output cells' output' : List ℕ) (g : own ≡ drop at octets) where
  pub call_message : (sender : ℕ) → way ≡ 1 → sender ≡ sender_of octets
      → after a q cells' output' ≡ take_message r.count (state r cells output) sender own
      → after a q cells' output' ≡ rule.call way at octets (state r cells output)
  call_message sender e f h = rw (eq-eqb way 1 e) (h ∙ rw (f, g))

  pub call_page : (way ≡ 1 → ⊥) → after a q cells' output' ≡ take_page r.count (state r cells output) own
      → after a q cells' output' ≡ rule.call way at octets (state r cells output)
  call_page f h = rw (ne_eqb way 1 f) (h ∙ rw g)

-- what a call left of the octets lent, before the rest, is what the line leaves
pub taken_told : (b b' : Bench) (way at : ℕ) (octets cells output x y : List ℕ) (s n m : ℕ) (a : Answer) (r : Record)
    → s ≡ cells_size b.«record».count → n ≡ lent_of (get_or b.lent 0 0) s (length cells) → m ≡ lent_of (get_or b.lent 1 0) 2142 (length output)
    → b' ≡ rule.with_record b r
    → after a r x y ≡ rule.call way at octets (state b.«record» (take (n - 0) cells) (take (m - 0) output))
    → held b' (x ++ drop (n - 0) cells) (y ++ drop (m - 0) output)
    ≡ rule.held_taken (held b cells output) (rule.call way at octets (rule.called (held b cells output)))
taken_told b b' way at octets cells output x y s n m a r size c o w is =
    let all_n : n - 0 ≡ n = omega arith in
    let all_m : m - 0 ≡ m = omega arith in
    rw (w, ← size, ← c, ← o, all_n, all_m, ← (rw (all_n, all_m) at is))

-- ---- a fresh record
module _ (k k' : Kind) (n : ℕ) (b c : Bench) (cells output cells' output' : List ℕ) (is : k ≡ k') where
  abbrev answer_is : Beside → Bool
  answer_is (gives x, r) = true
  answer_is (refused m, r) = false

  module _ (a : Result Unit Refusal) (r : Record) (told : beside (told_making a) r ≡ making n k) where
    pub fresh_made_lem : a ≡ (Ok tt) → c ≡ rule.with_record b r → cells' ≡ replicate (length cells) 0 → output' ≡ replicate (length output) 0
        → held c cells' output' ≡ rule.fresh_made k' n (held b cells output)
    fresh_made_lem e f g h = by_number (is_slot_number n) refl
      where
        by_number : (t : Bool) → is_slot_number n ≡ t → held c cells' output' ≡ rule.fresh_made k' n (held b cells output)
        by_number true t =
            let all : beside (told_making a) r ≡ beside (gives tt) (fresh_record n k) = told ∙ rw t in
            let made : r ≡ fresh_record n k = ap (λ (x : Beside). x.1) all in
            rw (t, f, g, h, made, is)
        by_number false t =
            let z : answer_is (beside (told_making a) r) ≡ false = rw (told, t) in
            absurd (clash (answer_is (beside (told_making a) r)) (rw e) z)

    pub fresh_refused : (q : Refusal) → a ≡ Err q → held b cells output ≡ rule.fresh_made k' n (held b cells output)
    fresh_refused q e = by_number (is_slot_number n) refl
      where
        by_number : (t : Bool) → is_slot_number n ≡ t → held b cells output ≡ rule.fresh_made k' n (held b cells output)
        by_number true t =
            let z : answer_is (beside (told_making a) r) ≡ true = rw (told, t) in
            absurd (clash (answer_is (beside (told_making a) r)) z (rw e))
        by_number false t = rw t

pub counted : (b c : Bench) (n : ℕ) (r : Record) → c ≡ rule.with_record b r → r ≡ rule.with_count b.«record» (n % 256)
    → c ≡ rule.with_record b (rule.with_count b.«record» (n % 256))
counted b c n r e f = rw (e, f)

-- ---- the beat
pub beat_told : (b x : Bench) (limit : ℕ) (a : Result ℕ Refusal) (r : Record) → x ≡ rule.with_record b r
    → beaten (told_beating a) r ≡ beat b.«record».count b.«record» limit → x ≡ rule.with_record b (beat b.«record».count b.«record» limit).rec
beat_told b x limit a r e f = rw (← f) e

-- ---- lending and numbering
module _ (row n : ℕ) (b c : Bench) where
  pub row_right : row ≡ 11 → c ≡ rule.with_lent b rule.all_right → c ≡ rule.row_noted row n b
  row_right f g = rw (eq-eqb row 11 f) g

  module _ (f : row ≡ 11 → ⊥) where
    pub row_number : row ≡ 12 → c ≡ rule.now_numbered b → c ≡ rule.row_noted row n b
    row_number g h = rw (ne_eqb row 11 f, eq-eqb row 12 g) h

    module _ (g : row ≡ 12 → ⊥) where
      pub row_slots : row ≡ 50 → c ≡ rule.with_record b (rule.with_count b.«record» (n % 256)) → c ≡ rule.row_noted row n b
      row_slots h i = rw (ne_eqb row 11 f, ne_eqb row 12 g, eq-eqb row 50 h) i

  pub note_lends : (ltb 7 row && ltb row 11) ≡ true → c ≡ rule.with_lent b (set b.lent (row - 8) n) → c ≡ rule.lent_noted row n b
  note_lends e f = rw e f

  module _ (e : (ltb 7 row && ltb row 11) ≡ false) where
    pub note_log : row ≡ 73 → c ≡ rule.with_lent b (set b.lent 3 n) → c ≡ rule.lent_noted row n b
    note_log f g = rw (e, eq-eqb row 73 f) g

    pub note_row : (row ≡ 73 → ⊥) → c ≡ rule.row_noted row n b → c ≡ rule.lent_noted row n b
    note_row f g = rw (e, ne_eqb row 73 f) g

pub row_none : (row n : ℕ) (b : Bench) → (row ≡ 11 → ⊥) → (row ≡ 12 → ⊥) → (row ≡ 50 → ⊥) → b ≡ rule.row_noted row n b
row_none row n b f g h = rw (ne_eqb row 11 f, ne_eqb row 12 g, ne_eqb row 50 h)

module _ (row : ℕ) (e : (ltb 7 row && ltb row 11) ≡ true) where
  both : (a b : Bool) → a && b ≡ true → (a ≡ true) × (b ≡ true)
  both true b e = (refl, e)
  both false b e = absurd (clash false e refl)

  pub lends_low : 8 ≤ row
  lends_low = ltb-true 7 row (both (ltb 7 row) (ltb row 11) e).0

  pub lends_high : row - 8 < 4
  lends_high = omega (arith, lends_low, ltb-true row 11 (both (ltb 7 row) (ltb row 11) e).1)

-- ---- counters, outstanding commands and the beat, by the row
pub counters_told : (b x : Bench) (c d : Counters) → x ≡ rule.with_counters b c → c ≡ d → x ≡ rule.with_counters b d
counters_told b x c d e f = rw (← f) e

pub commands_told : (b x : Bench) (t u : Outstanding) → x ≡ rule.with_outstanding b t → t ≡ u → x ≡ rule.with_outstanding b u
commands_told b x t u e f = rw (← f) e

module _ (row count n : ℕ) (octets : List ℕ) (b x : Bench) where
  pub noted_counters : (leb 53 row && leb row 55) ≡ true → x ≡ rule.with_counters b (counters_by row count n octets b.counters)
      → x ≡ rule.kept_notes row count n octets b
  noted_counters e f = rw e f

  module _ (e : (leb 53 row && leb row 55) ≡ false) where
    pub noted_beat : row ≡ 56 → x ≡ rule.with_record b (beat b.«record».count b.«record» (n % 256)).rec → x ≡ rule.kept_notes row count n octets b
    noted_beat f g = rw (e, eq-eqb row 56 f) g

    module _ (z : row ≡ 56 → ⊥) where
      pub noted_commands : (leb 57 row && leb row 59) ≡ true → x ≡ rule.with_outstanding b (commands_after row count n octets b.outstanding)
          → x ≡ rule.kept_notes row count n octets b
      noted_commands f g = rw (e, ne_eqb row 56 z, f) g

      pub noted_lent : (c : Bench) → (leb 57 row && leb row 59) ≡ false → c ≡ rule.lent_noted row n b → x ≡ c → x ≡ rule.kept_notes row count n octets b
      noted_lent c y f g = rw (e, ne_eqb row 56 z, y) (g ∙ f)

-- ---- by the row
module _ (row count n : ℕ) (octets : List ℕ) (b c : Bench) (cells output cells' output' : List ℕ) where
  pub changed_takes : (way at : ℕ) → way ≡ way_of row octets → at ≡ own_at row → way < 3
      → held c cells' output' ≡ rule.held_taken (held b cells output) (rule.call way at octets (rule.called (held b cells output)))
      → held c cells' output' ≡ row_changes row count n octets (held b cells output)
  unfolding row_changes
  changed_takes way at e f l h = rw (← e, lt-ltb way 3 l, ← f) h

  module _ (way : ℕ) (is : way ≡ way_of row octets) (l : 3 ≤ way) where
    pub changed_fresh : (m : ℕ) → row < 6 → m ≡ slots_asked count n
        → held c cells' output' ≡ rule.fresh_made (kind_by (eqb row 5)) m (held b cells output)
        → held c cells' output' ≡ row_changes row count n octets (held b cells output)
    unfolding row_changes
    changed_fresh m k e h = rw (← is, le-ltb way 3 l, lt-ltb row 6 k, ← e) h

    module _ (k : 6 ≤ row) where
      pub changed_fills : (x : ℕ) → row ≡ 6 → x ≡ get_or octets 0 0 → cells' ≡ replicate (length cells) x → output' ≡ replicate (length output) x → c ≡ b
          → held c cells' output' ≡ row_changes row count n octets (held b cells output)
      unfolding row_changes
      changed_fills x e f g h i = rw (← is, le-ltb way 3 l, le-ltb row 6 k, eq-eqb row 6 e, g, h, i, f)

      pub changed_notes : (row ≡ 6 → ⊥) → c ≡ rule.kept_notes row count n octets b → held c cells output ≡ row_changes row count n octets (held b cells output)
      unfolding row_changes
      changed_notes z e = rw (← is, le-ltb way 3 l, le-ltb row 6 k, ne_eqb row 6 z, ← e)

pub ruleset noting = (
  rules,
  row_right,
  row_number,
  row_slots,
  row_none,
  note_lends,
  note_log,
  note_row,
  lends_low,
  lends_high,
)

pub ruleset steps = (
  rules,
  start_told,
  call_message,
  call_page,
  taken_told,
  fresh_made_lem,
  fresh_refused,
  counted,
  counters_told,
  noted_counters,
  noted_beat,
  noted_commands,
  noted_lent,
  beat_told,
  commands_told,
  changed_takes,
  changed_fresh,
  changed_fills,
  changed_notes,
)
