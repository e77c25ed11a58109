-- What the proofs over the order of recency in place cite: first all ranks are changed, then slot i is written.
use Prim.Native.Nat.{ℕ, zero, suc, ◌+◌, ◌≤◌, ◌<◌}
use mathlib.Core.Path.{◌≡◌, refl, ap, ◌∙◌}
use mathlib.Core.Bool.{Bool, true, false, cond, ◌||◌}
use mathlib.Core.List.{List, [], ◌∷◌}
use native.Mathlib.Omega.{arith}
use lib.ListN.{length}
use lib.Dec.{eqb, ltb}
use borrow.Author.Rules.{rules}
use borrow.Author.Tests.{ltb-false, lt-ltb, le-ltb}
use Rattle.types.specs.declared.Key.{Key}
use Rattle.types.specs.declared.Slot.{Slot}
use Rattle.types.specs.declared.Record.{Record}
use Rattle.arrival.specs.Message.{most_parts}
use Rattle.slots.specs.Slots.{most_slots, slot_at, free_slot, opened, with_part, at_rank, at_front, with_slots, slots_in}
use Rattle.slots.specs.Found.{with_part_in}
use Rattle.slots.specs.Order.{rank_after, first_with, reranked, first_ranked, replaced}
use Rattle.layout.specs.Layout.{state_record, known}
use Rattle.layout.specs.Changes.{state_slot, with_slot, Became}
use Rattle.layout.specs.Laws.{slots_long, became_then}
use Rattle.layout.specs.Loops.{Turning, turns_start, turns_on, turns_end}

-- ---- the loop that changes the ranks
module _ (g : ℕ → ℕ) (n : ℕ) (s : List ℕ) where
  pub rerank_starts : n ≤ most_slots → Turning (reranked g) n s s 0
  rerank_starts l = turns_start (reranked g) n s l

  pub rerank_goes_on : (t u : List ℕ) (j p q : ℕ) → Turning (reranked g) n s t j → j < n → q ≡ (state_slot t j).rank → p ≡ g q
      → Became t u (with_slot t j (at_rank p (state_slot t j))) → Turning (reranked g) n s u (j + 1)
  rerank_goes_on t u j p q h l e f b =
      turns_on (reranked g) n s t j h u (at_rank p (state_slot t j)) l (ap (λ (r : ℕ). at_rank r (state_slot t j)) (f ∙ ap g e)) b

-- the ranks of all slots of the record that s holds, once slot i has come to the front or was freed
abbrev pub ranks_moved : Bool → List ℕ → ℕ → Record
ranks_moved front s i = with_slots (state_record s) (first_ranked (rank_after front (state_slot s i).rank) (slots_in (state_record s)) (state_record s).slots)

pub rerank_ends : (front : Bool) (n r i j : ℕ) (s t : List ℕ) → Turning (reranked (rank_after front r)) n s t j → n ≡ slots_in (state_record s) → r ≡ (state_slot s i).rank → n ≤ j
    → Became s t (ranks_moved front s i)
rerank_ends front n r i j s t h e f l = rw (← e, ← f) (turns_end (reranked (rank_after front r)) n s t j h l)

-- ---- then slot i
first_at : (f : Slot → Slot) (n i : ℕ) (xs : List Slot) → i < n → i < length xs → slot_at (first_with f n xs) i ≡ f (slot_at xs i)
unfolding first_with
first_at f zero i xs l m = absurd (omega arith)
first_at f (suc n) i [] l m = absurd (omega arith)
first_at f (suc n) zero (x ∷ xs) l m = refl
first_at f (suc n) (suc i) (x ∷ xs) l m = first_at f n i xs (omega arith) (omega arith)

slots_at_most : (r : Record) → slots_in r ≤ most_slots
slots_at_most r = go (ltb most_slots r.count) refl
  where
    go : (b : Bool) → ltb most_slots r.count ≡ b → cond b most_slots r.count ≤ most_slots
    go true e = omega arith
    go false e = ltb-false most_slots r.count e

pub none_moved : (front : Bool) (s : List ℕ) (i n : ℕ) (x : Slot) → n ≡ slots_in (state_record s) → n ≤ i → Became s s (replaced front (state_record s) i x)
none_moved front s i n x e l = record { still = λ k. k; now = λ k. rw (le-ltb i (slots_in (state_record s)) (omega arith)) }

module _ (front : Bool) (s t u : List ℕ) (i n : ℕ) (e : n ≡ slots_in (state_record s)) (l : i < n) (g : Became s t (ranks_moved front s i)) where
  -- slot i as it is in between: at another rank
  between : known s ≡ true → state_slot t i ≡ reranked (rank_after front (state_slot s i).rank) (state_slot s i)
  between k =
      ap (λ (r : Record). slot_at r.slots i) (g.now k)
      ∙ first_at (reranked (rank_after front (state_slot s i).rank)) (slots_in (state_record s)) i (state_record s).slots (omega arith)
      (omega (arith, slots_long s, slots_at_most (state_record s)))

  -- slot i written as f says, whatever its rank was
  moved_as : (f : Slot → Slot) (x : Slot) → ((q : ℕ) → f (at_rank q (state_slot s i)) ≡ x) → Became t u (with_slot t i (f (state_slot t i)))
      → Became s u (replaced front (state_record s) i x)
  moved_as f x same h = record {
    still = λ k. h.still (g.still k);
    now = λ k.
        h.now (g.still k) ∙ rw (between k, same (rank_after front (state_slot s i).rank (state_slot s i).rank), g.now k, lt-ltb i (slots_in (state_record s)) (omega arith));
  }

module _ (s t : List ℕ) (i n : ℕ) (e : n ≡ slots_in (state_record s)) (l : i < n) where
  pub moved_front : (u : List ℕ) → Became s t (ranks_moved true s i) → Became t u (with_slot t i (at_front (state_slot t i)))
      → Became s u (replaced true (state_record s) i (at_front (state_slot s i)))
  moved_front u g h = moved_as true s t u i n e l g at_front (at_front (state_slot s i)) (λ q. refl) h

  pub moved_kept : (u v : List ℕ) (number m : ℕ) → Became s t (ranks_moved true s i) → Became t u (with_slot t i (with_part_in (state_slot t i) number m))
      → Became u v (with_slot u i (at_front (state_slot u i))) → Became s v (replaced true (state_record s) i (at_front (with_part_in (state_slot s i) number m)))
  moved_kept u v number m g h o =
      moved_as true s t v i n e l g (λ x. at_front (with_part_in x number m)) (at_front (with_part_in (state_slot s i) number m)) same
      (became_then t u i (with_part_in (state_slot t i) number m) h v at_front o)
    where
      same : (q : ℕ) → at_front (with_part_in (at_rank q (state_slot s i)) number m) ≡ at_front (with_part_in (state_slot s i) number m)
      same q = go (eqb number 0 || ltb most_parts number)
        where
          go : (b : Bool) → at_front (cond b (at_rank q (state_slot s i)) (with_part (at_rank q (state_slot s i)) number m)) ≡ at_front (cond b (state_slot s i) (with_part (state_slot s i) number m))
          go true = refl
          go false = refl

  pub moved_new : (u v w : List ℕ) (key : Key) (total number m : ℕ) → Became s t (ranks_moved true s i) → Became t u (with_slot t i (opened key total))
      → Became u v (with_slot u i (with_part_in (state_slot u i) number m)) → Became v w (with_slot v i (at_front (state_slot v i)))
      → Became s w (replaced true (state_record s) i (at_front (with_part_in (opened key total) number m)))
  moved_new u v w key total number m g h o p =
      moved_as true s t w i n e l g (λ x. at_front (with_part_in (opened key total) number m)) (at_front (with_part_in (opened key total) number m)) (λ q. refl)
      (became_then t v i (with_part_in (opened key total) number m) (became_then t u i (opened key total) h v (λ x. with_part_in x number m) o) w at_front p)

  pub moved_free : (u : List ℕ) → Became s t (ranks_moved false s i) → Became t u (with_slot t i free_slot) → Became s u (replaced false (state_record s) i free_slot)
  moved_free u g h = moved_as false s t u i n e l g (λ x. free_slot) free_slot (λ q. refl) h

pub ruleset steps = (
  rules,
  rerank_starts,
  rerank_goes_on,
  rerank_ends,
  none_moved,
  moved_front,
  moved_kept,
  moved_new,
  moved_free,
)
