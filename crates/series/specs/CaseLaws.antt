-- What a part does, by cases: each step with the facts under which 01 asks for it.
use Rattle.std.specs.Prelude.{ℕ, ◌≤◌, ◌<◌, ◌≡◌, refl, Bool, true, false, not, cond, List, length, eqb}
use Rattle.std.proofs.Math.Option.{Option}
use Rattle.std.proofs.Common.{arith, eqb-true, ne_eqb}
use Rattle.std.proofs.lemmas.Bool.{eqb-false}
use Rattle.octets.specs.Octets.{same_octets}
use Rattle.octets.specs.Laws.{same_true, same_false}
use Rattle.octets.specs.Tests.{clash, both}
use Rattle.types.specs.declared.Key.{Key}
use Rattle.types.specs.declared.Slot.{Slot}
use Rattle.slots.specs.Slots.{slot_at, opened, used, same_key, bears, is_free, find_in, is_least_recent, slot_or, held_at}
use Rattle.cells.specs.Cells.{cell_part}
use Rattle.series.specs.Taking.{State, Step, refuses, repeats, keeps, finishes, completes, step_new, step_for, step}
use Rattle.slots.specs.RankLaws.{pos_taken, last_rank_lem}
use Rattle.slots.specs.FrontLaws.{same_key_lem, key_same, FoundIn, hit_in, miss_in, find_in?}
use Rattle.formed.specs.Laws.{Formed, array_holds}

-- slot i bears a series of that key; no slot does
pub record Bears (n : ℕ) (xs : List Slot) (X : Key) (i : ℕ) : Type 0 where
  pub inside : i < n
  pub used : 0 < (slot_at xs i).rank
  pub key : (slot_at xs i).key ≡ X

abbrev pub Lacks : ℕ → List Slot → Key → Type 0
Lacks n xs key = (j : ℕ) → j < n → 0 < (slot_at xs j).rank → (slot_at xs j).key ≡ key → ⊥

module _ (n : ℕ) (s : State) (key : Key) (total number : ℕ) (octets : List ℕ) where
  abbrev at : ℕ → Slot
  at i = slot_at s.rec.slots i

  pub data Case : Step → Type 0 where
    other_total : (i : ℕ) → Bears n s.rec.slots key i → ((slot_at s.rec.slots i).total ≡ total → ⊥) → Case (refuses 7)
    other_octets : (i : ℕ) → Bears n s.rec.slots key i → (slot_at s.rec.slots i).total ≡ total → held_at (slot_at s.rec.slots i) number ≡ true
        → (cell_part s.cells (slot_at s.rec.slots i) i number ≡ octets → ⊥) → Case (refuses 8)
    held_so : (i : ℕ) → Bears n s.rec.slots key i → (slot_at s.rec.slots i).total ≡ total → held_at (slot_at s.rec.slots i) number ≡ true
        → cell_part s.cells (slot_at s.rec.slots i) i number ≡ octets → Case (repeats i)
    last : (i : ℕ) → Bears n s.rec.slots key i → (slot_at s.rec.slots i).total ≡ total → held_at (slot_at s.rec.slots i) number ≡ false
        → completes (slot_at s.rec.slots i) number ≡ true → Case (finishes i)
    more : (i : ℕ) → Bears n s.rec.slots key i → (slot_at s.rec.slots i).total ≡ total → held_at (slot_at s.rec.slots i) number ≡ false
        → completes (slot_at s.rec.slots i) number ≡ false → Case (keeps i false (slot_at s.rec.slots i))
    takes_free : (i : ℕ) → Lacks n s.rec.slots key → i < n → (slot_at s.rec.slots i).rank ≡ 0 → ((j : ℕ) → j < i → 0 < (slot_at s.rec.slots j).rank)
        → Case (keeps i false (opened key total))
    displaces : (i : ℕ) → Lacks n s.rec.slots key → i < n → (slot_at s.rec.slots i).rank ≡ n
        → ((j : ℕ) → j < n → 0 < (slot_at s.rec.slots j).rank) → Case (keeps i true (opened key total))

  module _ (w : Formed n s.rec.kind s.rec.slots) where
    enough : n ≤ length s.rec.slots
    enough = array_holds n s.rec.kind s.rec.slots w

    module _ (i : ℕ) (b : Bears n s.rec.slots key i) where
      case_last : (at i).total ≡ total → held_at (at i) number ≡ false → (c : Bool) → completes (at i) number ≡ c → Case (cond c (finishes i) (keeps i false (at i)))
      case_last t h true e = last i b t h e
      case_last t h false e = more i b t h e

      case_octets : (at i).total ≡ total → held_at (at i) number ≡ true → (c : Bool) → same_octets (cell_part s.cells (at i) i number) octets ≡ c
          → Case (cond c (repeats i) (refuses 8))
      case_octets t h true e = held_so i b t h (same_true (cell_part s.cells (at i) i number) octets e)
      case_octets t h false e = other_octets i b t h (same_false (cell_part s.cells (at i) i number) octets e)

      case_held : (at i).total ≡ total → (c : Bool) → held_at (at i) number ≡ c
          → Case (cond c (cond (same_octets (cell_part s.cells (at i) i number) octets) (repeats i) (refuses 8)) (cond (completes (at i) number) (finishes i) (keeps i false (at i))))
      case_held t true e = case_octets t e (same_octets (cell_part s.cells (at i) i number) octets) refl
      case_held t false e = case_last t e (completes (at i) number) refl

      case_in : (c : Bool) → eqb (at i).total total ≡ c
          → Case (cond (not c) (refuses 7) (cond (held_at (at i) number) (cond (same_octets (cell_part s.cells (at i) i number) octets) (repeats i) (refuses 8)) (cond (completes (at i) number) (finishes i) (keeps i false (at i)))))
      case_in true e = case_held (eqb-true (at i).total total e) (held_at (at i) number) refl
      case_in false e = other_total i b (eqb-false (at i).total total e)

    module _ (lacks : Lacks n s.rec.slots key) where
      not_free : (j : ℕ) → is_free (at j) ≡ false → 0 < (at j).rank
      not_free j e = let ne = eqb-false (at j).rank 0 e in omega arith

      case_least : ((j : ℕ) → j < n → 0 < (at j).rank) → (r : Option ℕ) → FoundIn n (is_least_recent n) s.rec.slots r → Case (keeps (slot_or 0 r) true (opened key total))
      case_least all r (hit_in i l e f) = displaces i lacks l (eqb-true (at i).rank n e) all
      case_least all r (miss_in f) =
          let (i, l, e) = last_rank_lem n (λ j. (at j).rank) w.ranks w.low all in absurd (eqb-false (at i).rank n (f i l) e)

      case_new : (r : Option ℕ) → FoundIn n is_free s.rec.slots r → Case (step_new n s key total number octets r)
      case_new r (hit_in i l e f) = takes_free i lacks l (eqb-true (at i).rank 0 e) (λ j m. not_free j (f j m))
      case_new r (miss_in f) = case_least (λ j l. not_free j (f j l)) (find_in n (is_least_recent n) s.rec.slots) (find_in? n (is_least_recent n) s.rec.slots enough)

    case_for : (r : Option ℕ) → FoundIn n (bears key) s.rec.slots r → Case (step_for n s key total number octets r)
    case_for r (hit_in i l e f) =
        let (u, q) = both (used (at i)) (same_key (at i).key key) e in
        case_in i (record { inside = l; used = pos_taken (at i).rank u; key = same_key_lem (at i).key key q }) (eqb (at i).total total) refl
    case_for r (miss_in f) = case_new lacking (find_in n is_free s.rec.slots) (find_in? n is_free s.rec.slots enough)
      where
        lacking : Lacks n s.rec.slots key
        lacking j l u q =
            clash (bears key (at j)) (rw (ne_eqb (at j).rank 0 (λ z. omega arith), key_same (at j).key key q)) (f j l)

    -- every part comes to one of the cases
    pub case_of : Case (step n s key total number octets)
    unfolding step
    case_of = case_for (find_in n (bears key) s.rec.slots) (find_in? n (bears key) s.rec.slots enough)
