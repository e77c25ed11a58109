-- Another step back: the most recent series, in slot i, has a count above 0, so a beat came last. Before it every count is one less. Each used slot
-- has a count, since counts follow recency, and none is above 254, so a beat with limit 255 drops nothing and gives the record again.
use Prim.Native.Nat.{ℕ, suc, pred, ◌≤◌, ◌<◌}
use mathlib.Core.Path.{◌≡◌, refl, sym, ap, ◌∙◌, subst}
use mathlib.Core.Bool.{true}
use mathlib.Core.List.{List, map}
use native.Mathlib.Omega.{arith}
use lib.ListN.{length-map, get_or-map}
use Rattle.octets.specs.Tests.{Same, same, other, same?}
use Rattle.types.specs.declared.Kind.{Kind}
use Rattle.types.specs.declared.Slot.{Slot}
use Rattle.slots.specs.Slots.{most_slots, slot_at, free_slot, at_count}
use Rattle.slots.specs.RankLaws.{stay_ranked}
use Rattle.slots.specs.FrontLaws.{past}
use Rattle.formed.specs.Formed.{most_beats, held_count, slot_formed}
use Rattle.formed.specs.Laws.{Formed, slot_tells, slot_told, slot_count, free_slot_formed}
use Rattle.beats.specs.Beats.{after_beat, slots_after_beat}
use Rattle.beats.specs.Laws.{Beaten, was_free, is_dropped, is_older, beat_at, beat_length}
use Rattle.beats.proofs.BeatenLaws.{beaten?}
use Rattle.formed.specs.SlotLaws.{same_slot, free_is}
use Rattle.sequences.specs.Runs.{Slots}
use Rattle.sequences.specs.Reachable.{KeyFits}
use Rattle.sequences.proofs.Fitting.{Fit}
use Rattle.sequences.proofs.Leading.{lead_by_beat}
use Rattle.sequences.proofs.Back.{Before, same_slots, own_or_free, slot_formed_at, not_first}

abbrev fewer : Slot → Slot
fewer y = at_count (pred y.beats) y

abbrev pub younger : List Slot → List Slot
younger xs = map fewer xs

module _ (n : ℕ) (k : Kind) (xs : List Slot) (w : Formed n k xs) (fit : Fit xs) (i : ℕ) (inside : i < n) (front : (slot_at xs i).rank ≡ 1) (old : 0 < (slot_at xs i).beats) where
  younger_at : (j : ℕ) → slot_at (younger xs) j ≡ fewer (slot_at xs j)
  younger_at j = get_or-map fewer xs j past

  -- every used slot has a count
  older : (j : ℕ) → j < n → 0 < (slot_at xs j).rank → 0 < (slot_at xs j).beats
  older j l u = go (same? j i)
    where
      go : Same j i → 0 < (slot_at xs j).beats
      go (same e q) = omega (arith, ap (λ (o : ℕ). (slot_at xs o).beats) q)
      go (other e ne) = omega (arith, w.counts i j inside l (omega (arith, front)) (strict (same? (slot_at xs j).rank 1)))
        where
          strict : Same (slot_at xs j).rank 1 → (slot_at xs i).rank < (slot_at xs j).rank
          strict (same f q) = absurd (not_first n k xs w fit i inside front j (omega (arith, w.high)) ne q)
          strict (other f q) = omega (arith, front)

  still_free : (j : ℕ) → j < most_slots → (slot_at xs j).rank ≡ 0 → fewer (slot_at xs j) ≡ free_slot
  still_free j l z = ap fewer (free_is k (slot_at xs j) (slot_formed_at n k xs w j l) z)

  fewer_formed : (j : ℕ) → j < most_slots → Same (slot_at xs j).rank 0 → slot_formed k (slot_at (younger xs) j) ≡ true
  fewer_formed j l (same e z) = ap (slot_formed k) (younger_at j ∙ still_free j l z) ∙ free_slot_formed k
  fewer_formed j l (other e ne) =
      let f = slot_formed_at n k xs w j l in
      let u = slot_tells k (slot_at xs j) f (omega arith) in
      ap (slot_formed k) (younger_at j)
      ∙ slot_told k (fewer (slot_at xs j)) (omega arith) (less (slot_at xs j).beats (slot_count k (slot_at xs j) f (omega arith)))
      (record { key = u.key; total = u.total; parts = u.parts; some = u.some; more = u.more; lengths = u.lengths; marks = u.marks })
    where
      less : (b : ℕ) → b ≤ most_beats → pred b ≤ most_beats
      less b h = omega arith

  younger_rank : (j : ℕ) → (slot_at (younger xs) j).rank ≡ (slot_at xs j).rank
  younger_rank j = ap (λ (y : Slot). y.rank) (younger_at j)

  younger_count : (j : ℕ) → (slot_at (younger xs) j).beats ≡ pred (slot_at xs j).beats
  younger_count j = ap (λ (y : Slot). y.beats) (younger_at j)

  younger_formed : Formed n k (younger xs)
  younger_formed = record {
    low = w.low;
    high = w.high;
    array = (simp length-map) ∙ w.array;
    slots = λ j l. fewer_formed j (omega (arith, w.high)) (same? (slot_at xs j).rank 0);
    keys = λ h j l m u v q.
        w.keys h j l m (omega (arith, younger_rank h)) (omega (arith, younger_rank j))
        (sym (ap (λ (y : Slot). y.key) (younger_at h)) ∙ q ∙ ap (λ (y : Slot). y.key) (younger_at j));
    ranks = stay_ranked n (λ j. (slot_at xs j).rank) w.ranks (λ j. (slot_at (younger xs) j).rank) (λ j. true) (λ j l. younger_rank j) (λ h j l m u v e. refl);
    counts = λ h j l m u v.
        let c : (slot_at xs h).beats ≤ (slot_at xs j).beats = w.counts h j l m (omega (arith, younger_rank h)) (omega (arith, younger_rank h, younger_rank j)) in
        omega (arith, younger_count h, younger_count j);
    rest = λ j l m. (fewer_formed j m (same? (slot_at xs j).rank 0), younger_rank j ∙ (w.rest j l m).1);
  }

  beat_again : slots_after_beat 255 (younger xs) ≡ xs
  beat_again =
      same_slots (slots_after_beat 255 (younger xs)) xs (beat_length 255 (younger xs) ∙ younger_formed.array) w.array
      (λ j l. beat_at 255 (younger xs) j ∙ ap (after_beat 255) (younger_at j)
      ∙ own_or_free n k xs w (λ j. after_beat 255 (fewer (slot_at xs j)) ≡ slot_at xs j) j l (λ m. own j m (same? (slot_at xs j).rank 0)) (λ z. unused j l z))
    where
      unused : (j : ℕ) → j < most_slots → (slot_at xs j).rank ≡ 0 → after_beat 255 (fewer (slot_at xs j)) ≡ slot_at xs j
      unused j l z = go (beaten? 255 (fewer (slot_at xs j)))
        where
          go : Beaten 255 (fewer (slot_at xs j)) → after_beat 255 (fewer (slot_at xs j)) ≡ slot_at xs j
          go (was_free y r e) = e ∙ still_free j l z ∙ sym (free_is k (slot_at xs j) (slot_formed_at n k xs w j l) z)
          go (is_dropped u y r e) = absurd (omega arith)
          go (is_older u y r e) = absurd (omega arith)

      own : (j : ℕ) → j < n → Same (slot_at xs j).rank 0 → after_beat 255 (fewer (slot_at xs j)) ≡ slot_at xs j
      own j l (same f z) = unused j (omega (arith, w.high)) z
      own j l (other f ne) = go (beaten? 255 (fewer (slot_at xs j)))
        where
          some_count : 0 < (slot_at xs j).beats
          some_count = older j l (omega arith)

          low_count : (slot_at xs j).beats ≤ most_beats
          low_count = slot_count k (slot_at xs j) (w.slots j l) (omega arith)

          go : Beaten 255 (fewer (slot_at xs j)) → after_beat 255 (fewer (slot_at xs j)) ≡ slot_at xs j
          go (was_free y r e) = absurd (ne y)
          go (is_dropped u y r e) = let z : 255 ≤ suc (pred (slot_at xs j).beats) = y in absurd (omega (arith, some_count, low_count))
          go (is_older u y r e) = e ∙ same_slot (at_count (suc (pred (slot_at xs j).beats)) (fewer (slot_at xs j))) (slot_at xs j) refl (omega (arith, some_count)) refl refl refl refl

  pub beat_before : Slots n → Before n k (younger xs) xs
  beat_before good = record {
    formed = younger_formed;
    fit = λ j l. subst (λ (y : Slot). KeyFits y.key) (sym (younger_at j)) (fit j l);
    leads = lead_by_beat n k (younger xs) xs younger_formed good beat_again;
  }

  pub beat_holds : (j : ℕ) → held_count (slot_at (younger xs) j) ≡ held_count (slot_at xs j)
  beat_holds j = ap (λ (y : Slot). held_count y) (younger_at j)

  pub beat_front : ((slot_at (younger xs) i).rank ≡ 1) × ((slot_at xs i).beats ≡ suc (slot_at (younger xs) i).beats)
  beat_front = (younger_rank i ∙ front, omega (arith, younger_count i))
