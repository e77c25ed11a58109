-- One step back from a well-formed record whose most recent series, in slot i, was touched by the last call: before, the series lacks one of its
-- parts; if it has only one and all slots below i are used, slot i is free before.
use Prim.Native.Nat.{ℕ, zero, suc, pred, ◌-◌, ◌<◌}
use mathlib.Core.Path.{◌≡◌, refl, sym, ap, ◌∙◌}
use mathlib.Core.Bool.{true, false}
use mathlib.Core.List.{List}
use native.Mathlib.Omega.{arith}
use lib.ListN.{length, get_or}
use lib.Seq.{ext_get_or}
use lib.Dec.{eqb, ltb}
use borrow.Author.Tests.{eqb-true, eq-eqb, ltb-true, ltb-false, not-false}
use Rattle.octets.specs.Tests.{Same, same, other, same?, by_test}
use Rattle.types.specs.declared.Kind.{Kind}
use Rattle.types.specs.declared.Slot.{Slot}
use Rattle.arrival.specs.Message.{most_parts}
use Rattle.slots.specs.Slots.{most_slots, slot_at, free_slot, opened, at_rank, at_front, held_at, with_part, aged, closed, aged_slot, closed_slot, to_front, freed}
use Rattle.slots.specs.RankLaws.{Aged, free, moves, yields, stays, closed_near, closed_far, closed_taken, ranks_differ}
use Rattle.slots.proofs.AgedLaws.{aged?}
use Rattle.slots.specs.FrontLaws.{past, front_here, front_there, front_length, freed_here, freed_there}
use Rattle.formed.specs.Formed.{mark_at, size_at, held_count, slot_formed}
use Rattle.formed.specs.Laws.{Formed, UsedSlot, slot_tells, slot_front, front_formed, free_formed}
use Rattle.series.specs.Taking.{completes}
use Rattle.series.specs.CaseLaws.{Lacks}
use Rattle.formed.specs.SlotLaws.{same_slot}
use Rattle.sequences.proofs.Away.{without, below_total, length_fits_lem, mark_gone, one_less, without_used, with_again, only_part, not_complete_lem, some_holds}
use Rattle.sequences.proofs.Bringing.{Brings, can_bring}
use Rattle.sequences.proofs.Fitting.{Fit, fit_front, fit_freed}
use Rattle.sequences.proofs.Leading.{Leads, record_of, keeps_more, opens_new, lead_by_part}

-- a well-formed record, its keys within their types, from which one call or beat leads on
pub record Before (n : ℕ) (k : Kind) (ys xs : List Slot) : Type 0 where
  pub formed : Formed n k ys
  pub fit : Fit ys
  pub leads : Leads n k ys xs

-- two arrays of slots, slot by slot
pub same_slots : (xs ys : List Slot) → length xs ≡ most_slots → length ys ≡ most_slots → ((j : ℕ) → j < most_slots → slot_at xs j ≡ slot_at ys j) → xs ≡ ys
same_slots xs ys a b e = ext_get_or past xs ys (a ∙ sym b) (λ j l. e j (omega (arith, a)))

-- the same, where slot i is treated apart
pub same_but : (xs ys : List Slot) (i : ℕ) → length xs ≡ most_slots → length ys ≡ most_slots → slot_at xs i ≡ slot_at ys i
    → ((j : ℕ) → j < most_slots → (j ≡ i → ⊥) → slot_at xs j ≡ slot_at ys j) → xs ≡ ys
same_but xs ys i a b here there = same_slots xs ys a b (λ j l. go j l (same? j i))
  where
    go : (j : ℕ) → j < most_slots → Same j i → slot_at xs j ≡ slot_at ys j
    go j l (same e q) = ap (slot_at xs) q ∙ here ∙ ap (slot_at ys) (sym q)
    go j l (other e ne) = there j l ne

-- a slot of the array is one of the record's own, or free
pub own_or_free : (n : ℕ) (k : Kind) (xs : List Slot) → Formed n k xs → (P : ℕ → Type 0) (j : ℕ) → j < most_slots → (j < n → P j) → ((slot_at xs j).rank ≡ 0 → P j) → P j
own_or_free n k xs w P j l own unused = by_test (ltb j n) (λ t. own (ltb-true j n t)) (λ t. unused (w.rest j (ltb-false j n t) l).1)

pub slot_formed_at : (n : ℕ) (k : Kind) (xs : List Slot) → Formed n k xs → (j : ℕ) → j < most_slots → slot_formed k (slot_at xs j) ≡ true
slot_formed_at n k xs w j l = by_test (ltb j n) (λ t. w.slots j (ltb-true j n t)) (λ t. (w.rest j (ltb-false j n t) l).0)

-- ---- ranks
-- where the most recent comes to the front, every rank stays
aged_one : (q : ℕ) → aged 1 q ≡ q
aged_one q = go (aged? 1 q)
  where
    go : Aged 1 q → aged 1 q ≡ q
    go (free p e) = omega arith
    go (moves u z l e) = omega arith
    go (yields u z e) = omega arith
    go (stays u z l e) = e

-- where it was freed and a free slot comes to the front, they are as they were
aged_closed : (q : ℕ) → (q ≡ 1 → ⊥) → aged 0 (closed 1 q) ≡ q
aged_closed zero ne = ap (aged 0) (closed_near 1 0 (omega arith)) ∙ go (aged? 0 0)
  where
    go : Aged 0 0 → aged 0 0 ≡ 0
    go (free p e) = e
    go (moves u z l e) = omega arith
    go (yields u z e) = omega arith
    go (stays u z l e) = omega arith
aged_closed (suc q) ne = ap (aged 0) (closed_far 1 (suc q) (omega arith) ∙ less) ∙ go (aged? 0 q)
  where
    less : pred (suc q) ≡ q
    less = omega arith

    go : Aged 0 q → aged 0 q ≡ suc q
    go (free p e) = absurd (ne (omega arith))
    go (moves u z l e) = e
    go (yields u z e) = e
    go (stays u z l e) = omega arith

closed_zero : (q : ℕ) → closed 1 q ≡ 0 → q ≡ 0
closed_zero q z = eqb-true q 0 (not-false (eqb q 0) (sym (closed_taken 1 q (omega arith)) ∙ rw (eq-eqb (closed 1 q) 0 z)))

pub at_own : (x : Slot) (q : ℕ) → q ≡ x.rank → at_rank q x ≡ x
at_own x q e = same_slot (at_rank q x) x e refl refl refl refl refl

module _ (n : ℕ) (k : Kind) (xs : List Slot) (w : Formed n k xs) (fit : Fit xs) (i : ℕ) (inside : i < n) (front : (slot_at xs i).rank ≡ 1) where
  abbrev x : Slot
  x = slot_at xs i

  in_array : i < length xs
  in_array = omega (arith, w.high, w.array)

  used_x : UsedSlot k x
  used_x = slot_tells k x (w.slots i inside) (omega (arith, front))

  -- no other slot is the most recent
  pub not_first : (j : ℕ) → j < most_slots → (j ≡ i → ⊥) → (slot_at xs j).rank ≡ 1 → ⊥
  not_first j l ne e =
      own_or_free n k xs w (λ j. (slot_at xs j).rank ≡ 1 → (j ≡ i → ⊥) → ⊥) j l
      (λ m e ne. ne (ranks_differ n (λ o. (slot_at xs o).rank) w.ranks j i m inside (omega (arith, front)) (e ∙ sym front))) (λ z e ne. omega arith) e ne

  module _ (touched : (slot_at xs i).beats ≡ 0) (p : ℕ) (l : p < most_parts) (held : mark_at (slot_at xs i) p ≡ true) where
    alone : (j : ℕ) → j < n → (j ≡ i → ⊥) → 0 < (slot_at xs j).rank → (slot_at xs j).key ≡ x.key → ⊥
    alone j m ne u q = ne (w.keys j i m inside u (omega (arith, front)) q)

    brought : Brings k x.key x.total (suc p) (size_at x p)
    brought =
        can_bring k x.key x.total (suc p) (size_at x p) (fit i (omega (arith, w.high))) used_x.key used_x.total (omega arith)
        (omega (arith, below_total k x used_x p l held)) (length_fits_lem k x used_x p l held)

    -- the series comes to the front again, with the part: the record that it was
    module _ (ys : List Slot) (size : length ys ≡ most_slots) (z : Slot) (here : at_front z ≡ at_front (without x p))
        (there : (j : ℕ) → j < most_slots → (j ≡ i → ⊥) → aged_slot (slot_at ys i).rank (slot_at ys j) ≡ slot_at xs j) where
      abbrev now : Slot
      now = with_part z (suc p) (size_at x p)

      front_again : to_front ys i now ≡ xs
      front_again =
          same_but (to_front ys i now) xs i (front_length ys i now ∙ size) w.array
          (front_here ys i now (omega (arith, w.high)) ∙ ap (λ (y : Slot). with_part y (suc p) (size_at x p)) here
          ∙ ap at_front (with_again k x used_x p l held) ∙ same_slot (at_front x) x (sym front) (sym touched) refl refl refl refl)
          (λ j m ne. front_there ys i now j ne ∙ there j m ne)

    -- it lacks the part, and holds another
    abbrev lacking : List Slot
    lacking = to_front xs i (without x p)

    lacking_here : slot_at lacking i ≡ at_front (without x p)
    lacking_here = front_here xs i (without x p) in_array

    lacking_there : (j : ℕ) → (j ≡ i → ⊥) → slot_at lacking j ≡ slot_at xs j
    lacking_there j ne =
        front_there xs i (without x p) j ne ∙ ap (λ (r : ℕ). aged_slot r (slot_at xs j)) front ∙ at_own (slot_at xs j) (aged 1 (slot_at xs j).rank) (aged_one (slot_at xs j).rank)

    number_less : suc p - 1 ≡ p
    number_less = omega arith

    part_before : 1 < held_count x → Before n k lacking xs
    part_before two = record {
      formed = good;
      fit = fit_front xs i (without x p) in_array fit (fit i (omega (arith, w.high)));
      leads = lead_by_part n k lacking xs good x.key x.total (suc p) (size_at x p) brought
          (λ cells output octets size.
          keeps_more n k lacking good cells output x.key x.total (suc p) octets i
          (record { inside = inside; used = omega (arith, ap (λ (y : Slot). y.rank) lacking_here); key = ap (λ (y : Slot). y.key) lacking_here })
          (ap (λ (y : Slot). y.total) lacking_here)
          (ap (λ (y : Slot). held_at y (suc p)) lacking_here ∙ ap (λ (o : ℕ). get_or (without x p).held o false) number_less ∙ mark_gone k x used_x p l held)
          (ap (λ (y : Slot). completes y (suc p)) lacking_here ∙ not_complete_lem k x used_x p l held)
          ∙ ap (λ (m : ℕ). record_of n k (to_front lacking i (with_part (slot_at lacking i) (suc p) m))) size
          ∙ ap (record_of n k) (front_again lacking good.array (slot_at lacking i) (ap at_front lacking_here) again));
    }
      where
        good : Formed n k (to_front xs i (without (slot_at xs i) p))
        good = front_formed n k xs w i inside (without x p) (slot_front k (without x p) (without_used k x used_x p l held two)) alone

        again : (j : ℕ) → j < most_slots → (j ≡ i → ⊥) → aged_slot (slot_at lacking i).rank (slot_at lacking j) ≡ slot_at xs j
        again j m ne =
            ap (λ (r : ℕ). aged_slot r (slot_at lacking j)) (ap (λ (y : Slot). y.rank) lacking_here)
            ∙ at_own (slot_at lacking j) (aged 1 (slot_at lacking j).rank) (aged_one (slot_at lacking j).rank) ∙ lacking_there j ne

    part_holds : held_count x ≡ suc (held_count (slot_at lacking i))
    part_holds = one_less k x used_x p l held ∙ ap (λ (y : Slot). suc (held_count y)) (sym lacking_here)

    -- it holds no other part: its slot is free, and the slots below are used
    module _ (one : held_count x ≡ 1) (below : (j : ℕ) → j < i → 0 < (slot_at xs j).rank) where
      abbrev emptied : List Slot
      emptied = freed xs i

      emptied_here : slot_at emptied i ≡ free_slot
      emptied_here = freed_here xs i in_array

      emptied_there : (j : ℕ) → (j ≡ i → ⊥) → slot_at emptied j ≡ closed_slot 1 (slot_at xs j)
      emptied_there j ne = freed_there xs i j ne ∙ ap (λ (r : ℕ). closed_slot r (slot_at xs j)) front

      -- another slot is used exactly if it was
      was_used : (j : ℕ) → j < most_slots → (j ≡ i → ⊥) → (slot_at emptied j).rank ≡ 0 → (slot_at xs j).rank ≡ 0
      was_used j m ne z = closed_zero (slot_at xs j).rank (sym (ap (λ (y : Slot). y.rank) (emptied_there j ne)) ∙ z)

      series_before : Before n k emptied xs
      series_before = record {
        formed = good;
        fit = fit_freed xs i in_array fit;
        leads = lead_by_part n k emptied xs good x.key x.total (suc p) (size_at x p) brought
            (λ cells output octets size.
            opens_new n k emptied good cells output x.key x.total (suc p) octets i inside lacks (ap (λ (y : Slot). y.rank) emptied_here) lower
            ∙ ap (λ (m : ℕ). record_of n k (to_front emptied i (with_part (opened x.key x.total) (suc p) m))) size
            ∙ ap (record_of n k) (front_again emptied good.array (opened x.key x.total) (sym (only_part k x used_x p l held one)) again));
      }
        where
          good : Formed n k (freed xs i)
          good = free_formed n k xs w i inside (omega (arith, front))

          lower : (j : ℕ) → j < i → 0 < (slot_at emptied j).rank
          lower j m = go (same? (slot_at emptied j).rank 0)
            where
              go : Same (slot_at emptied j).rank 0 → 0 < (slot_at emptied j).rank
              go (same e z) = absurd (omega (arith, below j m, was_used j (omega (arith, w.high)) (λ q. omega arith) z))
              go (other e ne) = omega arith

          lacks : Lacks n emptied x.key
          lacks j m u q = go (same? j i)
            where
              go : Same j i → ⊥
              go (same e r) = omega (arith, ap (λ (o : ℕ). (slot_at emptied o).rank) r, ap (λ (y : Slot). y.rank) emptied_here)
              go (other e ne) = alone j m ne (pos (same? (slot_at xs j).rank 0)) (sym (ap (λ (y : Slot). y.key) (emptied_there j ne)) ∙ q)
                where
                  pos : Same (slot_at xs j).rank 0 → 0 < (slot_at xs j).rank
                  pos (same f z) =
                      absurd (omega (arith, ap (λ (y : Slot). y.rank) (emptied_there j ne), ap (closed 1) z, closed_near 1 0 (omega arith)))
                  pos (other f z) = omega arith

          again : (j : ℕ) → j < most_slots → (j ≡ i → ⊥) → aged_slot (slot_at emptied i).rank (slot_at emptied j) ≡ slot_at xs j
          again j m ne =
              ap (λ (r : ℕ). aged_slot r (slot_at emptied j)) (ap (λ (y : Slot). y.rank) emptied_here) ∙ ap (aged_slot 0) (emptied_there j ne)
              ∙ at_own (slot_at xs j) (aged 0 (closed 1 (slot_at xs j).rank)) (aged_closed (slot_at xs j).rank (not_first j m ne))

-- ---- whichever part it is
module _ (n : ℕ) (k : Kind) (xs : List Slot) (w : Formed n k xs) (fit : Fit xs) (i : ℕ) (inside : i < n) (front : (slot_at xs i).rank ≡ 1) (touched : (slot_at xs i).beats ≡ 0) where
  pub some_part_before : 1 < held_count (slot_at xs i)
      → (ys : List Slot) × Before n k ys xs × (held_count (slot_at xs i) ≡ suc (held_count (slot_at ys i))) × ((j : ℕ) → (j ≡ i → ⊥) → slot_at ys j ≡ slot_at xs j)
  some_part_before two =
      let (p, l, h) = some_holds most_parts (mark_at (slot_at xs i)) (omega arith) in
      (_, part_before n k xs w fit i inside front touched p l h two, part_holds n k xs w fit i inside front touched p l h, lacking_there n k xs w fit i inside front touched p l h)

  pub only_part_before : held_count (slot_at xs i) ≡ 1 → ((j : ℕ) → j < i → 0 < (slot_at xs j).rank) → Before n k (freed xs i) xs
  only_part_before one below =
      let (p, l, h) = some_holds most_parts (mark_at (slot_at xs i)) (omega arith) in series_before n k xs w fit i inside front touched p l h one below
