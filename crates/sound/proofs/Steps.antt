-- What the proofs of the test of a state cite: the laws of the tests of a record, and what octets that are a state tell.
use Prim.Native.Nat.{ℕ, ◌+◌, ◌≤◌, ◌<◌}
use mathlib.Core.Path.{◌≡◌, refl, sym, ◌∙◌}
use mathlib.Core.Bool.{Bool, true, false, not, cond, ◌&&◌}
use mathlib.Core.List.{List}
use native.Mathlib.Omega.{arith}
use lib.ListN.{get_or}
use lib.Dec.{eqb, ltb}
use mir.Syntax.{w8}
use mir.Val.{Fits}
use borrow.Author.Rules.{rules}
use borrow.Author.Tests.{eqb-true, eq-eqb, le-ltb}
use Rattle.types.specs.declared.Kind.{Kind}
use Rattle.types.specs.declared.Slot.{Slot}
use Rattle.arrival.specs.Message.{most_parts}
use Rattle.slots.specs.BelowLaws.{all_hold}
use Rattle.slots.specs.Slots.{most_slots, slot_at, used}
use Rattle.formed.specs.Formed.{mark_at, ranked, record_formed}
use Rattle.formed.specs.Pieces.{slots_hold, pair_apart, pair_holds, apart_before, slots_apart}
use Rattle.formed.specs.TestLaws.{test_laws, record_formed_told, not_formed}
use Rattle.layout.specs.Layout.{state_record, known, mark_octet}
use Rattle.layout.specs.Changes.{state_slot}
use Rattle.layout.specs.Laws.{slots_long, known_length, lengths_sixteen, marks_sixteen}
use Rattle.sound.proofs.BlankSteps.{blank_told}

-- ---- what is read
pub one_counted : (a b : Bool) (m : ℕ) → m ≡ cond a 1 0 → a ≡ b → m ≡ cond b 1 0
one_counted a b m e f = rw (e, f)

-- a mark of a state, counted as its number
pub mark_told : (s : List ℕ) (i k q : ℕ) → (known s ≡ true → q ≡ mark_octet (get_or (state_slot s i).held k false)) → known s ≡ true → q ≡ cond (mark_at (state_slot s i) k) 1 0
mark_told s i k q h w = h w

module _ (b : Bool) (m q k : ℕ) (e : q ≡ cond b 1 0) (l : m ≤ k) where
  small : (t : Bool) → cond t 1 0 ≤ 1
  small true = omega arith
  small false = omega arith

  pub mark_within : m + q ≤ k + 1
  mark_within = omega (arith, e, small b)

  pub mark_fits_lem : k < most_parts → Fits w8 (m + q)
  mark_fits_lem h = omega (arith, e, small b)

pub used_read : (x : Slot) (r : ℕ) → r ≡ x.rank → not (eqb r 0) ≡ used x
used_read x r e = rw e

pub rank_read : (x : Slot) (q r : ℕ) → q ≡ x.rank → eqb q r ≡ eqb x.rank r
rank_read x q r e = rw e

-- ---- a free slot beside others
pub free_apart : (xs : List Slot) (i r : ℕ) → eqb r 0 ≡ true → r ≡ (slot_at xs i).rank → true ≡ apart_before xs i
free_apart xs i r z e = sym (all_hold i (pair_holds xs i) (λ j l. beside (slot_at xs i) (slot_at xs j) (sym e ∙ eqb-true r 0 z)))
  where
    never : (a b : Bool) → not (a && false && b) ≡ true
    never true b = refl
    never false b = refl

    beside : (x y : Slot) → x.rank ≡ 0 → pair_apart x y ≡ true
    beside x y f = rw (eq-eqb x.rank 0 f, le-ltb y.rank x.rank (omega arith)) (never (used y) (ltb x.beats y.beats))

-- ---- the state
-- its number of slots, read and widened
module _ (s : List ℕ) (n c : ℕ) (wide : n ≡ c) (read : c ≡ (state_record s).count) where
  number : n ≡ (state_record s).count
  number = wide ∙ read

  pub record_told : (k : Kind) (a b d : Bool) → k ≡ (state_record s).kind → (not (eqb n 0) && not (ltb most_slots n)) ≡ true
      → a ≡ slots_hold n k (state_record s).slots → b ≡ slots_apart n (state_record s).slots → d ≡ ranked n (state_record s).slots
      → a && b && d ≡ record_formed (state_record s).count (state_record s)
  record_told k a b d o t p q r = record_formed_told (state_record s) a b d (rw number at t) (slots_long s) (rw (number, o) at p) (rw number at q) (rw number at r)

  pub record_none : (not (eqb n 0) && not (ltb most_slots n)) ≡ false → false ≡ record_formed (state_record s).count (state_record s)
  record_none t = not_formed (state_record s) (rw number at t)

module _ (s : List ℕ) (b : Bool) (is : b ≡ known s) where
  pub is_state : b ≡ true → known s ≡ true
  is_state t = sym is ∙ t

  pub state_told : (c : Bool) → b ≡ true → c ≡ record_formed (state_record s).count (state_record s) → c ≡ known s && record_formed (state_record s).count (state_record s)
  state_told c t e = rw (← is, t) e

  pub no_state : b ≡ false → false ≡ known s && record_formed (state_record s).count (state_record s)
  no_state t = rw (← is, t)

pub ruleset steps = (
  rules,
  test_laws,
  slots_long,
  known_length,
  lengths_sixteen,
  marks_sixteen,
  one_counted,
  mark_told,
  mark_within,
  mark_fits_lem,
  blank_told,
  used_read,
  rank_read,
  free_apart,
  record_told,
  record_none,
  is_state,
  state_told,
  no_state,
)
