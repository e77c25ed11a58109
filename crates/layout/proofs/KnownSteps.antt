-- What the proofs of testing a state and of making one cite.
use Prim.Native.Nat.{ℕ, ◌+◌, ◌≤◌}
use mathlib.Core.Path.{◌≡◌, refl, sym, ◌∙◌}
use mathlib.Core.Bool.{Bool, true, false, not, ◌&&◌}
use mathlib.Core.List.{List}
use lib.ListN.{replicate, length, get_or, set}
use lib.Dec.{eqb, leb, ltb}
use borrow.Author.Rules.{rules}
use borrow.Author.Tests.{eq-eqb, ne_eqb, ltb-true, ltb-false, lt-leb, le-leb}
use Rattle.types.specs.declared.Kind.{Kind}
use Rattle.types.specs.Refusals.{refused, gives}
use Rattle.arrival.specs.Message.{most_parts}
use Rattle.slots.specs.Below.{all_below, fault}
use Rattle.slots.specs.BelowLaws.{fault_from, fault_more, fault_through, all_from, all_more, all_through}
use Rattle.slots.specs.Slots.{most_slots, fresh_record}
use Rattle.layout.specs.Blocks.{laid}
use Rattle.layout.specs.Layout.{state_size, format_number, mark_fits, marks_fit, slot_marks_fit, known, kind_octet, slot_octets, state_octets, on_state, making_state}
use Rattle.layout.specs.OctetLaws.{octets_exact}

-- ---- a test
pub mark_wrong : (x : List ℕ) (k q : ℕ) → q ≡ get_or x (30 + k) 0 → ltb 1 q ≡ not (mark_fits x k)
mark_wrong x k q e = rw (← e) (go (ltb 1 q) refl)
  where
    go : (b : Bool) → ltb 1 q ≡ b → b ≡ not (leb q 1)
    go true f = rw (lt-leb q 1 (ltb-true 1 q f))
    go false f = rw (le-leb q 1 (ltb-false 1 q f))

pub marks_end : (x : List ℕ) (k bad : ℕ) → k ≤ most_parts → most_parts ≤ k → bad ≡ fault (all_below k (mark_fits x)) → eqb bad 0 ≡ marks_fit x
unfolding marks_fit
marks_end x k bad l m e = fault_through (mark_fits x) k most_parts l m bad e

pub known_told : (s : List ℕ) (n : ℕ) (b : Bool) → n ≡ length s → b ≡ all_below most_slots (slot_marks_fit s)
    → (eqb n state_size && eqb (get_or s 0 0) format_number && leb (get_or s 1 0) 1 && b) ≡ known s
unfolding known
known_told s n b e f = rw (e, f)

-- ---- a fresh state
pub fresh_written : (t : List ℕ) (kind : Kind) (k n : ℕ) → t ≡ replicate state_size 0 → k ≡ kind_octet kind
    → set (set (set t 0 1) 1 k) 2 n ≡ state_octets (fresh_record n kind)
unfolding state_octets slot_octets laid
fresh_written t kind k n e f = rw (e, f)

module _ (s : List ℕ) (n size : ℕ) (kind : Kind) (e : size ≡ length s) where
  pub fresh_other : (size ≡ state_size → ⊥) → on_state (refused 1) s ≡ making_state s n kind
  fresh_other z = rw (ne_eqb (length s) state_size (λ f. z (e ∙ f)))

  pub fresh_made_lem : (t : List ℕ) → size ≡ state_size → (not (eqb n 0) && not (ltb most_slots n)) ≡ true → t ≡ state_octets (fresh_record n kind)
      → on_state (gives tt) t ≡ making_state s n kind
  fresh_made_lem t z b f = rw (eq-eqb (length s) state_size (sym e ∙ z), b, f)

  pub fresh_none : size ≡ state_size → (not (eqb n 0) && not (ltb most_slots n)) ≡ false → on_state (refused 25) s ≡ making_state s n kind
  fresh_none z b = rw (eq-eqb (length s) state_size (sym e ∙ z), b)

pub size_told : (s : List ℕ) (size : ℕ) → size ≡ length s → size ≡ state_size → length s ≡ state_size
size_told s size e f = sym e ∙ f

pub ruleset known_steps = (
  rules,
  octets_exact,
  fault_from,
  fault_more,
  mark_wrong,
  marks_end,
  all_from,
  all_more,
  all_through,
  known_told,
  fresh_written,
  fresh_other,
  fresh_made_lem,
  fresh_none,
  size_told,
)
