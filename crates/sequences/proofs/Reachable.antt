-- A record is well formed exactly if calls and beats can make it. Every well-formed one can be made: backwards from it, by its weight. First the
-- beats since the last part are taken back; then the most recent series loses a part, or, if it has only one, every free slot below it gets
-- a filler and then its slot is free. No call on this way repeats a part, so what the cells hold does not matter.
use Prim.Native.Nat.{ℕ, zero, suc, ◌+◌, ◌≤◌, ◌<◌}
use mathlib.Core.Path.{◌≡◌, refl, sym, ap, ◌∙◌, subst}
use mathlib.Core.List.{List, [], ◌∷◌, ◌++◌}
use native.Mathlib.Omega.{arith}
use lib.ListN.{length}
use lib.Dec.{eqb}
use borrow.Author.Tests.{eqb-true, not-false}
use Rattle.octets.specs.Tests.{both, Same, same, other, same?}
use Rattle.types.specs.declared.Kind.{Kind}
use Rattle.types.specs.declared.Slot.{Slot}
use Rattle.types.specs.declared.Record.{Record}
use Rattle.slots.specs.Below.{any_below, count_below}
use Rattle.slots.specs.BelowLaws.{all_at, any_at}
use Rattle.slots.specs.Slots.{slot_at, free_slot, used, freed, fresh_record}
use Rattle.slots.specs.FrontLaws.{freed_here, freed_there}
use Rattle.formed.specs.Formed.{held_count, slots_formed, record_formed}
use Rattle.formed.specs.Laws.{Formed, formed_tells, slot_tells, fresh_slot, fresh_formed}
use Rattle.cells.specs.Cells.{cells_size}
use Rattle.formed.specs.SlotLaws.{free_is}
use Rattle.sequences.specs.Runs.{Slots, Event, Store, fresh, left_by, run}
use Rattle.sequences.specs.Reachable.{KeysFit, Possible, Acceptance}
use Rattle.sequences.proofs.Along.{All, each}
use Rattle.sequences.proofs.Calls.{Kept, kept_fresh, always_formed}
use Rattle.sequences.proofs.Along.{run_more}
use Rattle.sequences.proofs.Wake.{admits}
use Rattle.sequences.proofs.Weights.{weight, weight_most, weight_falls}
use Rattle.sequences.proofs.Away.{none_holds}
use Rattle.sequences.proofs.Fitting.{Fit, brings, made_fit}
use Rattle.sequences.proofs.Leading.{Leads, record_of}
use Rattle.sequences.proofs.Back.{Before, same_slots, slot_formed_at, own_or_free, some_part_before, only_part_before}
use Rattle.sequences.proofs.Younger.{younger, beat_before, beat_holds, beat_front}
use Rattle.sequences.proofs.Filler.{filler_before}

-- ---- induction over well-formed records
abbrev holds : List Slot → ℕ → ℕ
holds xs j = held_count (slot_at xs j)

free_holds : held_count free_slot ≡ 0
unfolding count_below
free_holds = refl

-- What holds of a fresh record, and of each record of which it holds one step before, holds of every well-formed record.
module _ (n : ℕ) (good : Slots n) (k : Kind) (P : List Slot → Type 0) (first : P (fresh_record n k).slots) (on : (ys xs : List Slot) → Before n k ys xs → P ys → P xs) where
  used_holds : (xs : List Slot) → Formed n k xs → (j : ℕ) → j < n → 0 < (slot_at xs j).rank → 0 < holds xs j
  used_holds xs w j l u = (slot_tells k (slot_at xs j) (w.slots j l) u).some

  -- it holds of all that weigh less
  module _ (m : ℕ) (ih : (ys : List Slot) → Formed n k ys → Fit ys → weight n (holds ys) < m → P ys) where
    -- On the way from a record that held h: the most recent series, in slot i, was just touched and holds one part; the slots below p are used;
    -- what was filled in holds one part.
    record Way (h : ℕ → ℕ) (xs : List Slot) (i p : ℕ) : Type 0 where
      formed : Formed n k xs
      fit : Fit xs
      inside : i < n
      front : (slot_at xs i).rank ≡ 1
      touched : (slot_at xs i).beats ≡ 0
      one : holds xs i ≡ 1
      used : (j : ℕ) → j < p → 0 < (slot_at xs j).rank
      below : (j : ℕ) → j < i → holds xs j ≤ suc (h j)
      above : (j : ℕ) → i < j → j < n → holds xs j ≤ h j

    -- where all slots below i are used, slot i is freed
    take_away : (h : ℕ → ℕ) → weight n h ≤ m → (xs : List Slot) (i : ℕ) → 0 < h i → Way h xs i i → P xs
    take_away h most xs i some_part a =
        let w = a.formed in
        let before = only_part_before n k xs w a.fit i a.inside a.front a.touched a.one a.used in
        let gone : holds (freed xs i) i ≡ 0 = ap (λ (y : Slot). held_count y) (freed_here xs i (omega (arith, a.inside, w.high, w.array))) ∙ free_holds in
        let less : weight n (holds (freed xs i)) < weight n h =
        weight_falls n i (holds (freed xs i)) h a.inside (omega (arith, gone))
        (λ j l. omega (arith, kept_there j (λ q. omega arith), a.below j l)) (λ j l l'. omega (arith, kept_there j (λ q. omega arith), a.above j l l')) in
        on (freed xs i) xs before (ih (freed xs i) before.formed before.fit (omega arith))
      where
        kept_there : (j : ℕ) → (j ≡ i → ⊥) → holds (freed xs i) j ≡ holds xs j
        kept_there j ne = ap (λ (y : Slot). held_count y) (freed_there xs i j ne)

    -- slot p below it is used already, or it is filled
    fill_one : (h : ℕ → ℕ) (xs : List Slot) (i p : ℕ) → p < i → Way h xs i p → ((ys : List Slot) → Way h ys i (suc p) → P ys) → P xs
    fill_one h xs i p l a next = go (same? (slot_at xs p).rank 0)
      where
        up_to : (ys : List Slot) → ((j : ℕ) → j < p → 0 < (slot_at ys j).rank) → 0 < (slot_at ys p).rank → (j : ℕ) → j < suc p → Same j p → 0 < (slot_at ys j).rank
        up_to ys f u j q (same e r) = subst (λ (o : ℕ). 0 < (slot_at ys o).rank) (sym r) u
        up_to ys f u j q (other e ne) = f j (omega arith)

        go : Same (slot_at xs p).rank 0 → P xs
        go (other e ne) = next xs (record {
          formed = a.formed;
          fit = a.fit;
          inside = a.inside;
          front = a.front;
          touched = a.touched;
          one = a.one;
          used = λ j q. up_to xs a.used (omega arith) j q (same? j p);
          below = a.below;
          above = a.above;
        })
        go (same e z) =
            let (ys, before, rank, filled, there) = filler_before n k xs a.formed a.fit p (omega (arith, a.inside)) z in
            let at_front = there i (λ r. omega arith) in
            on ys xs before (next ys (record {
              formed = before.formed;
              fit = before.fit;
              inside = a.inside;
              front = ap (λ (y : Slot). y.rank) at_front ∙ a.front;
              touched = ap (λ (y : Slot). y.beats) at_front ∙ a.touched;
              one = ap (λ (y : Slot). held_count y) at_front ∙ a.one;
              used = λ j q. up_to ys (λ j o. subst (λ (y : Slot). 0 < y.rank) (sym (there j (λ r. omega arith))) (a.used j o)) rank j q (same? j p);
              below = λ j q. below_there ys filled there j q (same? j p);
              above = λ j q o. omega (arith, a.above j q o, ap (λ (y : Slot). held_count y) (there j (λ r. omega arith)));
            }))
          where
            below_there : (ys : List Slot) → holds ys p ≡ 1 → ((j : ℕ) → (j ≡ p → ⊥) → slot_at ys j ≡ slot_at xs j) → (j : ℕ) → j < i → Same j p → holds ys j ≤ suc (h j)
            below_there ys filled there j q (same e r) = omega (arith, ap (λ (o : ℕ). holds ys o) r)
            below_there ys filled there j q (other e ne) = omega (arith, a.below j q, ap (λ (y : Slot). held_count y) (there j ne))

    fill : (h : ℕ → ℕ) → weight n h ≤ m → (d : ℕ) (xs : List Slot) (i p : ℕ) → 0 < h i → p + d ≡ i → Way h xs i p → P xs
    fill h most zero xs i p u e a = take_away h most xs i u (subst (λ (q : ℕ). Way h xs i q) (omega arith) a)
    fill h most (suc d) xs i p u e a = fill_one h xs i p (omega arith) a (λ ys c. fill h most d ys i (suc p) u (omega arith) c)

    module _ (i : ℕ) (inside : i < n) where
      by_parts : (xs : List Slot) → Formed n k xs → Fit xs → weight n (holds xs) ≤ m → (slot_at xs i).rank ≡ 1 → (slot_at xs i).beats ≡ 0 → Same (holds xs i) 1 → P xs
      by_parts xs w fit most front touched (same e one) =
          fill (holds xs) most i xs i 0 (omega arith) (omega arith) (record {
            formed = w;
            fit = fit;
            inside = inside;
            front = front;
            touched = touched;
            one = one;
            used = λ j l. absurd (omega arith);
            below = λ j l. omega arith;
            above = λ j l o. omega arith;
          })
      by_parts xs w fit most front touched (other e ne) =
          let (ys, before, count, there) = some_part_before n k xs w fit i inside front touched (omega (arith, used_holds xs w i inside (omega (arith, front)))) in
          let less : weight n (holds ys) < weight n (holds xs) =
          weight_falls n i (holds ys) (holds xs) inside (omega (arith, count))
          (λ j l. omega (arith, ap (λ (y : Slot). held_count y) (there j (λ q. omega arith)))) (λ j l o. omega (arith, ap (λ (y : Slot). held_count y) (there j (λ q. omega arith)))) in
          on ys xs before (ih ys before.formed before.fit (omega arith))

      -- the beats since its last part
      over_beats : (c : ℕ) (xs : List Slot) → Formed n k xs → Fit xs → weight n (holds xs) ≤ m → (slot_at xs i).rank ≡ 1 → (slot_at xs i).beats ≡ c → P xs
      over_beats zero xs w fit most front e = by_parts xs w fit most front e (same? (holds xs i) 1)
      over_beats (suc c) xs w fit most front e =
          let ys : List Slot = younger xs in
          let some_beat : 0 < (slot_at xs i).beats = omega arith in
          let before = beat_before n k xs w fit i inside front some_beat good in
          let (rank, count) = beat_front n k xs w fit i inside front some_beat in
          let as_heavy : weight n (holds ys) ≤ weight n (holds xs) = weight_most n (holds ys) (holds xs) (λ j l. omega (arith, beat_holds n k xs w fit i inside front some_beat j)) in
          on ys xs before (over_beats c ys before.formed before.fit (omega arith) rank (omega arith))

    any_used : (xs : List Slot) → Formed n k xs → Fit xs → weight n (holds xs) ≤ m → Same (count_below n (λ j. used (slot_at xs j))) 0 → P xs
    any_used xs w fit most (same e z) =
        subst P
        (same_slots (fresh_record n k).slots xs (fresh_formed n k w.low w.high).array w.array
        (λ j l. fresh_slot n k j l ∙ sym (free_is k (slot_at xs j) (slot_formed_at n k xs w j l) (own_or_free n k xs w (λ j. (slot_at xs j).rank ≡ 0) j l (λ o. unused j o) (λ r. r)))))
        first
      where
        unused : (j : ℕ) → j < n → (slot_at xs j).rank ≡ 0
        unused j l = eqb-true (slot_at xs j).rank 0 (not-false (eqb (slot_at xs j).rank 0) (none_holds n (λ j. used (slot_at xs j)) z j l))
    any_used xs w fit most (other e ne) =
        let (i, l, t) = any_at n (λ j. eqb (slot_at xs j).rank 1) (all_at (count_below n (λ j. used (slot_at xs j))) (λ r. any_below n (λ j. eqb (slot_at xs j).rank (r + 1))) w.ranks 0 (omega arith)) in
        over_beats i l (slot_at xs i).beats xs w fit most (eqb-true (slot_at xs i).rank 1 t) refl

  by_weight : (m : ℕ) (xs : List Slot) → Formed n k xs → Fit xs → weight n (holds xs) < m → P xs
  by_weight zero xs w fit less = absurd (omega arith)
  by_weight (suc m) xs w fit less = any_used m (by_weight m) xs w fit (omega arith) (same? (count_below n (λ j. used (slot_at xs j))) 0)

  each_formed : (xs : List Slot) → Formed n k xs → Fit xs → P xs
  each_formed xs w fit = by_weight (suc (weight n (holds xs))) xs w fit (omega arith)

-- ---- one event more, at the end
all_last : (Claim : Event → Type 0) (es : List Event) (e : Event) → All Claim es → Claim e → All Claim (es ++ e ∷ [])
all_last Claim [] e a p = (p, tt)
all_last Claim (d ∷ es) e a p = (a.0, all_last Claim es e a.1 p)

module _ (n : ℕ) (good : Slots n) (k : Kind) where
  abbrev Made : List Slot → Type 0
  Made xs = (cells : List ℕ) → length cells ≡ cells_size n → (events : List Event) × All Possible events × ((run n (fresh n k cells) events).rec ≡ record_of n k xs)

  made_more : (ys xs : List Slot) → Before n k ys xs → Made ys → Made xs
  made_more ys xs before made cells size =
      let (events, all, e) = made cells size in
      let l : Leads n k ys xs = before.leads in
      let st : Store = run n (fresh n k cells) events in
      let kept : Kept n k st = kept_fresh n good k (admits k) cells size events (λ u c v q. (each Possible events all u c v q).proper) in (
        events ++ l.event ∷ [],
        all_last Possible events l.event all l.possible,
        ap (λ (s : Store). s.rec) (run_more n events (l.event ∷ []) (fresh n k cells))
            ∙ ap (λ (r : Record). (left_by n (record { rec = r; cells = st.cells }) l.event).rec) e
            ∙ l.to st.cells kept.sound.size,
      )

  made_each : (xs : List Slot) → Formed n k xs → Fit xs → Made xs
  made_each = each_formed n good k Made (λ cells size. ([], tt, refl)) made_more

pub acceptance : (n : ℕ) → Slots n → Acceptance n
acceptance n good = record {
  formed_is_made = λ r fit e cells size.
      let (c, f) = both (eqb r.count n) (slots_formed n r.kind r.slots) e in
      let (events, all, is) = made_each n good r.kind r.slots (formed_tells n r.kind r.slots f) fit cells size in
      record {
        events = events;
        possible = each Possible events all;
        lead = is ∙ ap (λ (m : ℕ). record { kind = r.kind; count = m; slots = r.slots }) (sym (eqb-true r.count n c));
      };
  made_is_formed = λ r cells made.
      ap (record_formed n) (sym made.lead) ∙ always_formed n good r.kind (admits r.kind) cells made.events (λ u e v q. brings n good r.kind e (made.possible u e v q));
  made_fits = λ r cells made. subst KeysFit made.lead (made_fit n good r.kind cells made.events made.possible);
}
