-- What the proofs of `chosen` cite: one law for each return, over plain variables.
use Prim.Native.Nat.{ℕ, ◌-◌}
use mathlib.Core.Path.{◌≡◌, refl, sym, ap, ◌∙◌}
use mathlib.Core.Bool.{Bool, true, false, not, ◌&&◌}
use mathlib.Core.List.{List}
use native.Mathlib.Omega.{arith}
use lib.ListN.{length, replicate}
use borrow.Author.Rules.{rules}
use borrow.Author.Tests.{not-true, not-false}
use Rattle.types.specs.declared.Kind.TheVariants.{Command}
use Rattle.types.specs.declared.Record.{Record}
use Rattle.skelmarix.specs.Rules.{default_slots, fresh_record}
use Rattle.words.specs.declared.line.Line.{Line}
use Rattle.words.specs.Line.{Gathered, gathered, silent}
use Rattle.values.specs.Meaning.{suits}
use Rattle.changes.specs.declared.Bench.{Bench}
use Rattle.changes.specs.Kept.{with_record}
use Rattle.bench.specs.Lines.{ReadSo, Untouched, line_says}
use Rattle.regions.specs.declared.Chosen.{Chosen}
use Rattle.regions.specs.declared.Told.{Told}
use Rattle.chosen.specs.Choices as rule
use Rattle.chosen.specs.Choices.{Begun, Unclear, LineLeaves}
use Rattle.regions.specs.Regions.{FirstMade}

clash : (b : Bool) → b ≡ true → b ≡ false → ⊥
clash b p q = let z : ◌≡◌ {A = ℕ} 0 1 = cc in omega arith

-- ---- the others
pub slot_unclear : (c : Chosen) (z : Told) → z.chosen ≡ c → Unclear c z
slot_unclear c z e = record { kept = λ _. e }

pub slot_clear : (c : Chosen) (z : Told) → z.understood ≡ true → Unclear c z
slot_clear c z e = record { kept = λ f. absurd (clash z.understood e f) }

-- ---- choosing
pub begins : (b d : Bench) (r : Record) → r ≡ fresh_record default_slots Command → d ≡ with_record b r → d ≡ with_record b (fresh_record default_slots Command)
begins b d r e f = rw (← e) f

pub begun_told : (e row : ℕ) (c d : Chosen) (z : Told) → e ≡ row - 69 → d.bench ≡ with_record c.bench (fresh_record default_slots Command) → d.engine ≡ e
    → z.chosen ≡ d → z.understood ≡ true → Begun (row - 69) c z
begun_told e row c d z f g h i u = record { heard = u; bench = rw i g; engine = rw i (h ∙ f) }

pub clear_told : (u q : Bool) (e row : ℕ) → q ≡ suits e row → (u && q) ≡ rule.understood_by e u row
clear_told u q e row is = rw is

-- ---- all lines
module _ (line : List ℕ) (c : Chosen) (cells output : List ℕ) (z : Told) (t : Bool) (is : t ≡ silent line) where
  pub leaves_nothing : t ≡ true → z.chosen ≡ c → z.understood ≡ true → LineLeaves line c cells output z cells output
  leaves_nothing e f g = rule.nothing (sym is ∙ e) g f refl refl

  module _ (e : t ≡ false) (l : Line) (line' : List ℕ) (r : ReadSo l line line') (q : Bool) (clear : q ≡ rule.understood_by c.engine l.understood l.row) where
    quiet : silent line ≡ false
    quiet = sym is ∙ e

    row_is : l.row ≡ (line_says line).row
    row_is = ap (λ (s : Gathered). s.row) r.is

    clear_is : q ≡ rule.understood_by c.engine (line_says line).understood (line_says line).row
    clear_is = clear ∙ ap (λ (s : Gathered). rule.understood_by c.engine s.understood s.row) r.is

    pub leaves_strange : not q ≡ true → z.chosen ≡ c → z.understood ≡ false → LineLeaves line c cells output z cells output
    leaves_strange f g h = rule.strange quiet (sym clear_is ∙ not-true q f) h g refl refl

    module _ (f : not q ≡ false) (g : Bool) (chosen : g ≡ rule.engine_row l.row) where
      yes : rule.understood_by c.engine (line_says line).understood (line_says line).row ≡ true
      yes = sym clear_is ∙ not-false q f

      engine_is : g ≡ rule.engine_row (line_says line).row
      engine_is = chosen ∙ ap rule.engine_row row_is

      pub leaves_choice : (cells' output' : List ℕ) → g ≡ true → Begun (l.row - 69) c z → cells' ≡ replicate (length cells) 0
          → output' ≡ replicate (length output) 0 → LineLeaves line c cells output z cells' output'
      leaves_choice cells' output' h b k m = rule.chooses quiet yes (sym engine_is ∙ h) (rw row_is at b) k m

      module _ (h : g ≡ false) where
        pub leaves_first : (cells' output' : List ℕ) → c.engine ≡ 0 → FirstMade (gathered l line') c cells output z cells' output'
            → LineLeaves line c cells output z cells' output'
        leaves_first cells' output' k m = rule.by_first quiet yes (sym engine_is ∙ h) k (rw r.is at m)

        module _ (k : c.engine ≡ 0 → ⊥) where
          pub leaves_slot : Unclear c z → LineLeaves line c cells output z cells output
          leaves_slot m = rule.by_other quiet yes (sym engine_is ∙ h) k m (λ _. refl) (λ _. refl)

          pub leaves_other : (cells' output' : List ℕ) → z.understood ≡ true → LineLeaves line c cells output z cells' output'
          leaves_other cells' output' m =
              rule.by_other quiet yes (sym engine_is ∙ h) k (slot_clear c z m) (λ n. absurd (clash z.understood m n)) (λ n. absurd (clash z.understood m n))

-- a line that is understood may write to the buffer; one that is not has not
module _ (u : Bool) (before : List ℕ) where
  pub heard : (after : List ℕ) → u ≡ true → Untouched u before after
  heard after e = record { same = λ f. absurd (clash u e f) }

  pub unheard : Untouched u before before
  unheard = record { same = λ f. refl }

pub ruleset steps = (
  rules,
  slot_unclear,
  slot_clear,
  begins,
  begun_told,
  clear_told,
  leaves_nothing,
  leaves_strange,
  leaves_choice,
  leaves_first,
  leaves_slot,
  leaves_other,
  heard,
  unheard,
)
