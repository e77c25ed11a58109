-- The proof's invariant: what is known of the slot that bears the key while its parts come, and how a call with another key moves it.
use Prim.Native.Nat.{ℕ, suc, ◌-◌, ◌≤◌, ◌<◌}
use mathlib.Core.Path.{◌≡◌, refl, sym, ap, ◌∙◌}
use mathlib.Core.Logic.{inr}
use mathlib.Core.Bool.{Bool, true, false, not, ◌||◌}
use mathlib.Core.List.{List, [], ◌∷◌}
use native.Mathlib.Omega.{arith}
use lib.ListN.{length, get_or}
use lib.Seq.{get_or-set_same, get_or-set_other}
use lib.Dec.{eqb, leb}
use borrow.Author.Tests.{ne_eqb, leb-true, leb-false}
use Rattle.octets.specs.Octets.{placed}
use Rattle.octets.specs.Tests.{Same, same, other, same?}
use Rattle.types.specs.declared.Kind.{Kind}
use Rattle.types.specs.declared.Key.{Key}
use Rattle.arrival.specs.Message.{most_parts}
use Rattle.types.specs.declared.Slot.{Slot}
use Rattle.slots.specs.Slots.{slot_at, at_rank, at_front, held_at, length_at, with_part, to_front}
use Rattle.slots.specs.RankLaws.{pos_taken}
use Rattle.slots.specs.FrontLaws.{front_here}
use Rattle.cells.specs.Cells.{cell_octets, cells_size, cell_at, cell_part}
use Rattle.cells.specs.CellLaws.{part_by_length, cell_here, cell_there}
use Rattle.series.specs.CaseLaws.{Bears, Lacks}
use Rattle.beats.specs.Beats.{slots_after_beat}
use Rattle.beats.proofs.BeatenLaws.{stayed, stays_on}
use Rattle.sequences.specs.Lists.{elem, elem_key, add}
use Rattle.sequences.proofs.Lists.{elem_add}

-- ---- slot j becomes another, and each other slot keeps all but its rank
module _ (xs ys : List Slot) (j : ℕ) (g : ℕ → ℕ) (same-used : (q : ℕ) → not (eqb (g q) 0) ≡ not (eqb q 0))
    (there : (l : ℕ) → (l ≡ j → ⊥) → slot_at ys l ≡ at_rank (g (slot_at xs l).rank) (slot_at xs l)) where
  pub rank_there : (l : ℕ) → (l ≡ j → ⊥) → (slot_at ys l).rank ≡ g (slot_at xs l).rank
  rank_there l ne = ap (λ (x : Slot). x.rank) (there l ne)

  pub key_there : (l : ℕ) → (l ≡ j → ⊥) → (slot_at ys l).key ≡ (slot_at xs l).key
  key_there l ne = ap (λ (x : Slot). x.key) (there l ne)

  pub used_before : (l : ℕ) → (l ≡ j → ⊥) → 0 < (slot_at ys l).rank → 0 < (slot_at xs l).rank
  used_before l ne u = pos_taken (slot_at xs l).rank (sym (same-used (slot_at xs l).rank) ∙ ap (λ (q : ℕ). not (eqb q 0)) (sym (rank_there l ne)) ∙ rw (ne_eqb (slot_at ys l).rank 0 (λ e. omega arith)))

  pub used_after : (l : ℕ) → (l ≡ j → ⊥) → 0 < (slot_at xs l).rank → 0 < (slot_at ys l).rank
  used_after l ne u = pos_taken (slot_at ys l).rank (ap (λ (q : ℕ). not (eqb q 0)) (rank_there l ne) ∙ same-used (slot_at xs l).rank ∙ rw (ne_eqb (slot_at xs l).rank 0 (λ e. omega arith)))

-- ---- the invariant
module _ (n : ℕ) (K : Key) (parts : List (List ℕ)) where
  -- Slot i bears the key, with the parts that have come in its cells; whatever is more recent has come since the key's last call; and it is as old
  -- as beats have come since.
  pub record Track (xs : List Slot) (cells : List ℕ) (i : ℕ) (got : List ℕ) (since : List Key) (late : List ℕ) : Type 0 where
    pub bears : Bears n xs K i
    pub total : (slot_at xs i).total ≡ length parts
    pub held : (m : ℕ) → 1 ≤ m → m ≤ most_parts → held_at (slot_at xs i) m ≡ elem m got
    pub octets : (m : ℕ) → 1 ≤ m → m ≤ most_parts → elem m got ≡ true → cell_part cells (slot_at xs i) i m ≡ get_or parts (m - 1) []
    pub near : (j : ℕ) → j < n → 0 < (slot_at xs j).rank → (slot_at xs j).rank < (slot_at xs i).rank → elem_key (slot_at xs j).key since ≡ true
    pub age : (slot_at xs i).beats ≡ length late

  -- ---- a call with another key
  -- Slot j becomes another and each other slot keeps all but its rank, in the same order.
  module _ (xs ys : List Slot) (j : ℕ) (g : ℕ → ℕ) (same-used : (q : ℕ) → not (eqb (g q) 0) ≡ not (eqb q 0)) (mono : (p q : ℕ) → p ≤ q → g p ≤ g q)
      (there : (l : ℕ) → (l ≡ j → ⊥) → slot_at ys l ≡ at_rank (g (slot_at xs l).rank) (slot_at xs l)) where
    pub lacks_moved : Lacks n xs K → (0 < (slot_at ys j).rank → (slot_at ys j).key ≡ K → ⊥) → Lacks n ys K
    lacks_moved lacks here l m u q = go (same? l j)
      where
        go : Same l j → ⊥
        go (same e p) = here (omega (arith, ap (λ (o : ℕ). (slot_at ys o).rank) p)) (ap (λ (o : ℕ). (slot_at ys o).key) (sym p) ∙ q)
        go (other e p) = lacks l m (used_before xs ys j g same-used there l p u) (sym (key_there xs ys j g same-used there l p) ∙ q)

    pub track_moved : (cells cells' : List ℕ) (i : ℕ) (got : List ℕ) (since since' : List Key) (late : List ℕ) → (i ≡ j → ⊥) → Track xs cells i got since late
        → ((X : Key) → elem_key X since ≡ true → elem_key X since' ≡ true)
        → (0 < (slot_at ys j).rank → elem_key (slot_at ys j).key since' ≡ true)
        → ((m : ℕ) → 1 ≤ m → m ≤ most_parts → cell_part cells' (slot_at ys i) i m ≡ cell_part cells (slot_at xs i) i m)
        → Track ys cells' i got since' late
    track_moved cells cells' i got since since' late ne tr more here stay = record {
      bears = record { inside = tr.bears.inside; used = used_after xs ys j g same-used there i ne tr.bears.used; key = key_there xs ys j g same-used there i ne ∙ tr.bears.key };
      total = ap (λ (x : Slot). x.total) (there i ne) ∙ tr.total;
      held = λ m a b. ap (λ (x : Slot). held_at x m) (there i ne) ∙ tr.held m a b;
      octets = λ m a b e. stay m a b ∙ tr.octets m a b e;
      near = λ l a u less. go l a u less (same? l j);
      age = ap (λ (x : Slot). x.beats) (there i ne) ∙ tr.age;
    }
      where
        go : (l : ℕ) → l < n → 0 < (slot_at ys l).rank → (slot_at ys l).rank < (slot_at ys i).rank → Same l j → elem_key (slot_at ys l).key since' ≡ true
        go l a u less (same e p) = rw p (here (omega (arith, ap (λ (o : ℕ). (slot_at ys o).rank) p)))
        go l a u less (other e p) = rw (key_there xs ys j g same-used there l p) (more (slot_at xs l).key (tr.near l a (used_before xs ys j g same-used there l p u) (before (leb (slot_at xs i).rank (slot_at xs l).rank) refl)))
          where
            before : (b : Bool) → leb (slot_at xs i).rank (slot_at xs l).rank ≡ b → (slot_at xs l).rank < (slot_at xs i).rank
            before true f = absurd (omega (arith, rank_there xs ys j g same-used there l p, rank_there xs ys j g same-used there i ne, mono (slot_at xs i).rank (slot_at xs l).rank (leb-true (slot_at xs i).rank (slot_at xs l).rank f)))
            before false f = leb-false (slot_at xs i).rank (slot_at xs l).rank f

  -- ---- a call with the key itself
  -- Slot i comes to the front as x: nothing is more recent.
  first_near : (xs : List Slot) (i : ℕ) (x : Slot) → i < length xs → (l : ℕ) → 0 < (slot_at (to_front xs i x) l).rank
      → (slot_at (to_front xs i x) l).rank < (slot_at (to_front xs i x) i).rank → {A : Type 0} → A
  first_near xs i x inside l u less = absurd (omega (arith, ap (λ (y : Slot). y.rank) (front_here xs i x inside)))

  -- a part that was there
  pub track_again : (xs : List Slot) (cells : List ℕ) (i : ℕ) (got : List ℕ) (since : List Key) (late : List ℕ) → n ≤ length xs → Track xs cells i got since late
      → Track (to_front xs i (slot_at xs i)) cells i got [] []
  track_again xs cells i got since late size tr =
      let inside : i < length xs = omega (arith, tr.bears.inside) in
      let here = front_here xs i (slot_at xs i) inside in record {
        bears = record { inside = tr.bears.inside; used = omega (arith, ap (λ (y : Slot). y.rank) here); key = ap (λ (y : Slot). y.key) here ∙ tr.bears.key };
        total = ap (λ (y : Slot). y.total) here ∙ tr.total;
        held = λ m a b. ap (λ (y : Slot). held_at y m) here ∙ tr.held m a b;
        octets = λ m a b e. part_by_length cells (slot_at (to_front xs i (slot_at xs i)) i) (slot_at xs i) i m (ap (λ (y : Slot). length_at y m) here) ∙ tr.octets m a b e;
        near = λ l a u less. first_near xs i (slot_at xs i) inside l u less;
        age = ap (λ (y : Slot). y.beats) here;
      }

  -- ---- a beat
  -- The series is younger than the limit, so it stays, and whatever stays keeps its rank.
  pub track_beat : (limit : ℕ) (xs : List Slot) (cells : List ℕ) (i : ℕ) (got : List ℕ) (since : List Key) (late : List ℕ) → suc (length late) < limit
      → Track xs cells i got since late → Track (slots_after_beat limit xs) cells i got since (limit ∷ late)
  track_beat limit xs cells i got since late young tr =
      let is = (stays_on limit xs i tr.bears.used (omega (arith, tr.age))).is in record {
        bears = record { inside = tr.bears.inside; used = omega (arith, ap (λ (y : Slot). y.rank) is, tr.bears.used); key = ap (λ (y : Slot). y.key) is ∙ tr.bears.key };
        total = ap (λ (y : Slot). y.total) is ∙ tr.total;
        held = λ m a b. ap (λ (y : Slot). held_at y m) is ∙ tr.held m a b;
        octets = λ m a b e. part_by_length cells (slot_at (slots_after_beat limit xs) i) (slot_at xs i) i m (ap (λ (y : Slot). length_at y m) is) ∙ tr.octets m a b e;
        near = λ l a u less.
            let s = stayed limit xs l u in
            rw (ap (λ (y : Slot). y.key) s.is) (tr.near l a s.used (omega (arith, ap (λ (y : Slot). y.rank) s.is, ap (λ (y : Slot). y.rank) is)));
        age = ap (λ (y : Slot). y.beats) is ∙ ap suc tr.age;
      }

  -- a part that is new to x: it is written, and the others stay
  module _ (k : Kind) (xs : List Slot) (size : n ≤ length xs) (cells : List ℕ) (long : length cells ≡ cells_size n) (i : ℕ) (inside : i < n)
      (x : Slot) (own : x.key ≡ K) (total : x.total ≡ length parts) (lengths : length x.lengths ≡ most_parts) (marks : length x.held ≡ most_parts)
      (got : List ℕ) (held : (m : ℕ) → 1 ≤ m → m ≤ most_parts → held_at x m ≡ elem m got)
      (octets : (m : ℕ) → 1 ≤ m → m ≤ most_parts → elem m got ≡ true → (length_at x m ≤ cell_octets) × (cell_part cells x i m ≡ get_or parts (m - 1) []))
      (number : ℕ) (low : 1 ≤ number) (high : number ≤ most_parts) (o : List ℕ) (fits : length o ≤ cell_octets) (brought : o ≡ get_or parts (number - 1) []) where
    abbrev y : Slot
    y = with_part x number (length o)

    here : slot_at (to_front xs i y) i ≡ at_front y
    here = front_here xs i y (omega arith)

    mark_kept : (m : ℕ) → 1 ≤ m → m ≤ most_parts → Same m number → held_at y m ≡ eqb m number || elem m got
    mark_kept m a b (same e p) = rw (e, p) (get_or-set_same x.held (number - 1) true false (omega arith))
    mark_kept m a b (other e p) = rw (e, get_or-set_other x.held (number - 1) (m - 1) true false (λ q. p (omega arith))) (held m a b)

    part_kept : (m : ℕ) → 1 ≤ m → m ≤ most_parts → eqb m number || elem m got ≡ true → Same m number
        → cell_part (placed cells (cell_at i number) o) y i m ≡ get_or parts (m - 1) []
    part_kept m a b h (same e p) =
        rw p (cell_here n cells long i number inside low high o fits y (get_or-set_same x.lengths (number - 1) (length o) 0 (omega arith)) ∙ brought)
    part_kept m a b h (other e p) =
        let (l, q) = octets m a b (simp e at h) in
        cell_there n cells long i number inside low high o fits y x i m a b (get_or-set_other x.lengths (number - 1) (m - 1) (length o) 0 (λ z. p (omega arith))) l (inr p) ∙ q

    pub track_kept : Track (to_front xs i y) (placed cells (cell_at i number) o) i (add number got) [] []
    track_kept = record {
      bears = record { inside = inside; used = omega (arith, ap (λ (z : Slot). z.rank) here); key = ap (λ (z : Slot). z.key) here ∙ own };
      total = ap (λ (z : Slot). z.total) here ∙ total;
      held = λ m a b. ap (λ (z : Slot). held_at z m) here ∙ mark_kept m a b (same? m number) ∙ sym (elem_add number m got);
      octets = λ m a b e. part_by_length (placed cells (cell_at i number) o) (slot_at (to_front xs i y) i) y i m (ap (λ (z : Slot). length_at z m) here)
          ∙ part_kept m a b (sym (elem_add number m got) ∙ e) (same? m number);
      near = λ l a u less. first_near xs i y (omega arith) l u less;
      age = ap (λ (z : Slot). z.beats) here;
    }
