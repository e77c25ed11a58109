-- What a beat does to each slot; and that it leaves a well-formed record well formed.
use Rattle.std.specs.Prelude.{ℕ, suc, ◌≤◌, ◌<◌, ◌≡◌, refl, Bool, true, false, cond, List, leb}
use Rattle.std.proofs.Common.{sym, ap, ◌∙◌, arith, leb-true, leb-false, le-leb}
use Rattle.std.proofs.lemmas.Bool.{lt-leb}
use Rattle.octets.specs.Tests.{Same, same, other, same?}
use Rattle.types.specs.declared.Kind.{Kind}
use Rattle.types.specs.declared.Slot.{Slot}
use Rattle.slots.specs.Slots.{slot_at, at_count}
use Rattle.slots.specs.RankLaws.{ranks_differ, stay_ranked}
use Rattle.formed.specs.Formed.{slot_formed}
use Rattle.formed.specs.Laws.{Formed, slot_tells, slot_told, free_slot_formed}
use Rattle.beats.specs.Beats.{after_beat, slots_after_beat}
use Rattle.beats.specs.Laws.{Beaten, was_free, is_dropped, is_older, beat_length, beat_at, Stayed}

-- ---- one slot
-- It is free and stays so; its count reaches the limit, and it is free then; or it stays, one beat older.
pub beaten? : (limit : ℕ) (x : Slot) → Beaten limit x
unfolding after_beat
beaten? limit x = go (same? x.rank 0) (leb limit (suc x.beats)) refl
  where
    go : Same x.rank 0 → (b : Bool) → leb limit (suc x.beats) ≡ b → Beaten limit x
    go (same e p) b f = was_free p (rw (e, e)) (rw (e, e))
    go (other e p) true f = is_dropped (omega arith) (leb-true limit (suc x.beats) f) (rw (e, f, e)) (rw (e, f, e))
    go (other e p) false f = is_older (omega arith) (leb-false limit (suc x.beats) f) (rw (e, f, e)) (rw (e, f, e))

-- ---- the slots
-- a slot that is used afterwards was, and is one beat older
pub stayed : (limit : ℕ) (xs : List Slot) (i : ℕ) → 0 < (slot_at (slots_after_beat limit xs) i).rank → Stayed limit xs i
stayed limit xs i u = go (beaten? limit (slot_at xs i))
  where
    go : Beaten limit (slot_at xs i) → Stayed limit xs i
    go (was_free z r e) = absurd (omega (arith, ap (λ (x : Slot). x.rank) (beat_at limit xs i ∙ e)))
    go (is_dropped v l r e) = absurd (omega (arith, ap (λ (x : Slot). x.rank) (beat_at limit xs i ∙ e)))
    go (is_older v l r e) = record { used = v; young = l; is = beat_at limit xs i ∙ e }

-- one that is used and younger than the limit stays
pub stays_on : (limit : ℕ) (xs : List Slot) (i : ℕ) → 0 < (slot_at xs i).rank → suc (slot_at xs i).beats < limit → Stayed limit xs i
stays_on limit xs i u y = go (beaten? limit (slot_at xs i))
  where
    go : Beaten limit (slot_at xs i) → Stayed limit xs i
    go (was_free z r e) = absurd (omega arith)
    go (is_dropped v l r e) = absurd (omega arith)
    go (is_older v l r e) = record { used = v; young = l; is = beat_at limit xs i ∙ e }

-- ---- the record
module _ (n : ℕ) (k : Kind) (xs : List Slot) (w : Formed n k xs) (limit : ℕ) (low : 0 < limit) (high : limit ≤ 255) where
  abbrev ys : List Slot
  ys = slots_after_beat limit xs

  abbrev slot_then : ℕ → Slot
  slot_then i = slot_at xs i

  slot_formed_lem : (i : ℕ) → slot_formed k (slot_then i) ≡ true → slot_formed k (slot_at ys i) ≡ true
  slot_formed_lem i f = rw (beat_at limit xs i) (go (beaten? limit (slot_then i)))
    where
      go : Beaten limit (slot_then i) → slot_formed k (after_beat limit (slot_then i)) ≡ true
      go (was_free z r e) = rw e f
      go (is_dropped v l r e) = rw e (free_slot_formed k)
      go (is_older v l r e) =
          let u = slot_tells k (slot_then i) f v in
          rw e (slot_told k (at_count (suc (slot_then i).beats) (slot_then i)) v (omega arith)
          (record { key = u.key; total = u.total; parts = u.parts; some = u.some; more = u.more; lengths = u.lengths; marks = u.marks }))

  -- whether a slot is still young: of two used ones, the more recent is if the other is
  abbrev young : ℕ → Bool
  young i = leb (suc (suc (slot_then i).beats)) limit

  rank_after_lem : (i : ℕ) → i < n → (slot_at ys i).rank ≡ cond (young i) (slot_then i).rank 0
  rank_after_lem i l = ap (λ (x : Slot). x.rank) (beat_at limit xs i) ∙ go (beaten? limit (slot_then i))
    where
      either : (b : Bool) (q : ℕ) → q ≡ 0 → q ≡ cond b q 0
      either true q z = refl
      either false q z = z

      go : Beaten limit (slot_then i) → (after_beat limit (slot_then i)).rank ≡ cond (young i) (slot_then i).rank 0
      go (was_free z r e) = ap (λ (x : Slot). x.rank) e ∙ either (young i) (slot_then i).rank z
      go (is_dropped v m r e) = ap (λ (x : Slot). x.rank) e ∙ rw (lt-leb (suc (suc (slot_then i).beats)) limit (omega arith))
      go (is_older v m r e) = ap (λ (x : Slot). x.rank) e ∙ rw (le-leb (suc (suc (slot_then i).beats)) limit (omega arith))

  younger : (i j : ℕ) → i < n → j < n → 0 < (slot_then i).rank → (slot_then i).rank ≤ (slot_then j).rank → young j ≡ true → young i ≡ true
  younger i j l m u v e = le-leb (suc (suc (slot_then i).beats)) limit (omega (arith, leb-true (suc (suc (slot_then j).beats)) limit e, below (same? i j)))
    where
      below : Same i j → (slot_then i).beats ≤ (slot_then j).beats
      below (same f p) = omega (arith, ap (λ (o : ℕ). (slot_then o).beats) p)
      below (other f p) = w.counts i j l m u (strict (same? (slot_then i).rank (slot_then j).rank))
        where
          strict : Same (slot_then i).rank (slot_then j).rank → (slot_then i).rank < (slot_then j).rank
          strict (same g q) = absurd (p (ranks_differ n (λ i. (slot_then i).rank) w.ranks i j l m (omega arith) q))
          strict (other g q) = omega arith

  pub beat_formed : Formed n k (slots_after_beat limit xs)
  beat_formed = record {
    low = w.low;
    high = w.high;
    array = beat_length limit xs ∙ w.array;
    slots = λ i l. slot_formed_lem i (w.slots i l);
    keys = λ i j l m u v q. w.keys i j l m (stayed limit xs i u).used (stayed limit xs j v).used (sym (key_was i u) ∙ q ∙ key_was j v);
    ranks = stay_ranked n (λ i. (slot_then i).rank) w.ranks (λ i. (slot_at ys i).rank) young rank_after_lem younger;
    counts = λ i j l m u v. count_after i j l m u v;
    rest = λ i l m. (slot_formed_lem i (w.rest i l m).0, free_after i (w.rest i l m).1);
  }
    where
      key_was : (i : ℕ) → 0 < (slot_at ys i).rank → (slot_at ys i).key ≡ (slot_then i).key
      key_was i u = ap (λ (x : Slot). x.key) (stayed limit xs i u).is

      count_after : (i j : ℕ) → i < n → j < n → 0 < (slot_at ys i).rank → (slot_at ys i).rank < (slot_at ys j).rank → (slot_at ys i).beats ≤ (slot_at ys j).beats
      count_after i j l m u v =
          let a = stayed limit xs i u in
          let b = stayed limit xs j (omega arith) in
          let c : (slot_then i).beats ≤ (slot_then j).beats = w.counts i j l m a.used (omega (arith, ap (λ (x : Slot). x.rank) a.is, ap (λ (x : Slot). x.rank) b.is)) in
          omega (arith, c, ap (λ (x : Slot). x.beats) a.is, ap (λ (x : Slot). x.beats) b.is)

      free_after : (i : ℕ) → (slot_then i).rank ≡ 0 → (slot_at ys i).rank ≡ 0
      free_after i z = go (beaten? limit (slot_then i))
        where
          go : Beaten limit (slot_then i) → (slot_at ys i).rank ≡ 0
          go (was_free y r e) = ap (λ (x : Slot). x.rank) (beat_at limit xs i ∙ e) ∙ z
          go (is_dropped v l r e) = absurd (omega arith)
          go (is_older v l r e) = absurd (omega arith)
