-- What the proofs of `bench` cite: one law for each return, over plain variables.
use Prim.Native.Nat.{ℕ}
use mathlib.Core.Path.{◌≡◌, refl, ap, ◌∙◌}
use mathlib.Core.Bool.{Bool, true, false, ◌&&◌}
use mathlib.Core.List.{List}
use native.Mathlib.Omega.{arith}
use lib.ListN.{take, get_or, set}
use borrow.Author.Rules.{rules}
use borrow.Author.Tests.{eq-eqb, ne_eqb}
use Rattle.types.specs.declared.Record.{Record}
use Rattle.types.specs.declared.Slot.{Slot}
use Rattle.skelmarix.specs.Rules.{slot_at, with_slots}
use Rattle.words.specs.declared.line.Line.{Line}
use Rattle.words.specs.Line.{Gathered, gathered, Reads}
use Rattle.values.specs.Meaning.{meant}
use Rattle.changes.specs.declared.Bench.{Bench}
use Rattle.changes.specs.Kept.{held, with_record, row_changes}
use Rattle.bench.specs.declared.Heard.{Heard}
use Rattle.bench.specs.Lines as rule
use Rattle.bench.specs.Lines.{LineMade, SlotPut, ReadSo, Untouched}

clash : (b : Bool) → b ≡ true → b ≡ false → ⊥
clash b p q = let z : ◌≡◌ {A = ℕ} 0 1 = cc in omega arith

-- ---- putting a slot
pub put_told : (b b' : Bench) (i : ℕ) (x : Slot) (q : Record) (z : Heard) → q ≡ with_slots b.«record» (set b.«record».slots i x)
    → b' ≡ with_record b q → z.bench ≡ b' → z.bench ≡ with_record b (with_slots b.«record» (set b.«record».slots i x))
put_told b b' i x q z e f g = g ∙ f ∙ ap (with_record b) e

pub slot_put : (s : Gathered) (b : Bench) (i : ℕ) (x : Slot) (z : Heard) → i ≡ get_or s.values 0 0
    → z.bench ≡ with_record b (with_slots b.«record» (set b.«record».slots i x)) → z.understood ≡ true → SlotPut s b z
slot_put s b i x z e f t =
    record { put = x; is = λ _. rw (← e) f; kept = λ k. absurd (clash z.understood t k) }

pub slot_kept : (s : Gathered) (b : Bench) (z : Heard) → z.bench ≡ b → z.understood ≡ false → SlotPut s b z
slot_kept s b z e t =
    record { put = slot_at b.«record».slots 0; is = λ k. absurd (clash z.understood k t); kept = λ _. e }

-- ---- reading
module _ (l : Line) (line line' octets : List ℕ) (n : ℕ) (m : Bool) where
  pub says_told : Reads l line line' → octets ≡ take l.end line' → n ≡ get_or l.values 0 0 → m ≡ meant l.row l.count n octets
      → ReadSo (record { understood = l.understood && m; more = l.more; row = l.row; sorts = l.sorts; values = l.values; count = l.count; at = l.at; end = l.end }) line line'
  says_told r e f g = record { is = step ∙ ap rule.meant_by r.is; inside = r.inside }
    where
      step : gathered (record { understood = l.understood && m; more = l.more; row = l.row; sorts = l.sorts; values = l.values; count = l.count; at = l.at; end = l.end }) line'
          ≡ rule.meant_by (gathered l line')
      step = rw (g, f, e)

-- ---- making its call
module _ (s : Gathered) (b : Bench) (cells output : List ℕ) (z : Heard) where
  pub made_slot : s.row ≡ 13 → SlotPut s b z → LineMade s b cells output z cells output
  made_slot e p = rule.slot (eq-eqb s.row 13 e) p refl refl

  pub made_other : (n : ℕ) (octets : List ℕ) (c : Bench) (cells' output' : List ℕ) → (s.row ≡ 13 → ⊥) → octets ≡ s.octets → n ≡ get_or s.values 0 0
      → held c cells' output' ≡ row_changes s.row s.count n octets (held b cells output) → z.bench ≡ c → z.understood ≡ true
      → LineMade s b cells output z cells' output'
  made_other n octets c cells' output' e f g h i u = rule.elsewhere (ne_eqb s.row 13 e) u (rw (i, ← g, ← f) h)

-- a line that is understood may write to the buffer; one that is not has not
module _ (u : Bool) (before : List ℕ) where
  pub heard : (after : List ℕ) → u ≡ true → Untouched u before after
  heard after e = record { same = λ f. absurd (clash u e f) }

  pub unheard : Untouched u before before
  unheard = record { same = λ f. refl }

pub ruleset steps = (
  rules,
  put_told,
  slot_put,
  slot_kept,
  says_told,
  made_slot,
  made_other,
  heard,
  unheard,
)
