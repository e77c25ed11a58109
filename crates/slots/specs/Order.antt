-- What the call on the order of recency comes to on every input: also where i is no slot of the record, and at a rank that no slot of a
-- well-formed record has. Where neither is so it comes to `to_front` and to `freed`, by the laws at the end.
use Prim.Native.Nat.{ℕ, zero, suc, ◌+◌, ◌≤◌, ◌<◌}
use Rattle.std.specs.Prelude.{◌≡◌, Bool, cond, length, set, ltb}
use Rattle.std.proofs.Math.Path.{refl, ap}
use Rattle.std.proofs.Common.{sym, ◌∙◌, arith, add-one, length-set, lt-ltb, le-ltb}
use Rattle.std.proofs.Math.Bool.{true, false}
use mathlib.Core.List.{List, [], ◌∷◌, map}
use Rattle.types.specs.declared.Slot.{Slot}
use Rattle.types.specs.declared.Record.{Record}
use Rattle.slots.specs.Slots.{most_slots, slot_at, free_slot, at_rank, at_front, aged, closed, aged_slot, to_front, freed, with_slots, slots_in}

-- rank q once a slot of rank r has come to the front, or was freed; rank 255, behind which an octet has no other, stays
abbrev pub rank_after : Bool → ℕ → ℕ → ℕ
rank_after true r q = cond (ltb q 255) (aged r q) q
rank_after false r q = closed r q

-- the slots, the first j of them as f makes them: one loop that changes one slot after the other
unfoldable pub first_with : (Slot → Slot) → ℕ → List Slot → List Slot
first_with f zero xs = xs
first_with f (suc j) [] = []
first_with f (suc j) (x ∷ xs) = f x ∷ first_with f j xs

module _ (f : Slot → Slot) where
  -- the next is as it was
  pub first_next : (j : ℕ) (xs : List Slot) → slot_at (first_with f j xs) j ≡ slot_at xs j
  unfolding first_with
  first_next zero xs = refl
  first_next (suc j) [] = refl
  first_next (suc j) (x ∷ xs) = first_next j xs

  pub first_more : (j : ℕ) (xs : List Slot) → set (first_with f j xs) j (f (slot_at xs j)) ≡ first_with f (suc j) xs
  unfolding first_with
  first_more zero [] = refl
  first_more zero (x ∷ xs) = refl
  first_more (suc j) [] = refl
  first_more (suc j) (x ∷ xs) = ap (λ l. f x ∷ l) (first_more j xs)

  pub first_whole : (j : ℕ) (xs : List Slot) → length xs ≡ j → first_with f j xs ≡ map f xs
  unfolding first_with
  first_whole zero [] e = refl
  first_whole zero (x ∷ xs) e = absurd (omega arith)
  first_whole (suc j) [] e = refl
  first_whole (suc j) (x ∷ xs) e = ap (λ l. f x ∷ l) (first_whole j xs (omega arith))

  -- s is r with its first j slots changed
  pub record Changed (n : ℕ) (r s : Record) (j : ℕ) : Type 0 where
    pub after : length s.slots ≡ most_slots
    pub most : n ≤ most_slots
    pub within : j ≤ n
    pub kind : s.kind ≡ r.kind
    pub number : s.count ≡ r.count
    pub slots : s.slots ≡ first_with f j r.slots

-- at the rank that g makes of its rank
abbrev pub reranked : (ℕ → ℕ) → Slot → Slot
reranked g x = at_rank (g x.rank) x

abbrev pub first_ranked : (ℕ → ℕ) → ℕ → List Slot → List Slot
first_ranked g = first_with (reranked g)

-- ---- a loop that changes the ranks
module _ (g : ℕ → ℕ) (n : ℕ) (r : Record) where
  pub change_starts : length r.slots ≡ most_slots → n ≤ most_slots → Changed (reranked g) n r r 0
  unfolding first_with
  change_starts e l = record { after = e; most = l; within = omega arith; kind = refl; number = refl; slots = refl }

  module _ (s : Record) (j : ℕ) (done : Changed (reranked g) n r s j) where
    next : slot_at s.slots j ≡ slot_at r.slots j
    next = rw done.slots (first_next (reranked g) j r.slots)

    pub change_goes_on : (q : ℕ) → j < n → q ≡ g (slot_at s.slots j).rank
        → Changed (reranked g) n r (with_slots s (set s.slots j (at_rank q (slot_at s.slots j)))) (j + 1)
    change_goes_on q l e = record {
      after = length-set s.slots j (at_rank q (slot_at s.slots j)) ∙ done.after;
      most = done.most;
      within = omega arith;
      kind = done.kind;
      number = done.number;
      slots = rw (e, next, done.slots, add-one) (first_more (reranked g) j r.slots);
    }

-- Slot i becomes x, and each other slot of the record is at its rank once slot i has come to the front, or was freed. Where i is none of its
-- slots, the record stays as it is.
abbrev pub replaced : Bool → Record → ℕ → Slot → Record
replaced front r i x =
    cond (ltb i (slots_in r))
    (with_slots r (set (first_ranked (rank_after front (slot_at r.slots i).rank) (slots_in r) r.slots) i x))
    r

-- ---- where i is a slot, every rank is below 255, and the slots past the record's own are free
-- the rank of a free slot stays
kept_free : (front : Bool) (r : ℕ) → rank_after front r 0 ≡ 0
unfolding aged closed
kept_free true r = refl
kept_free false r = rw (le-ltb r 0 (omega arith))

free_reranked : (g : ℕ → ℕ) (x : Slot) → g 0 ≡ 0 → x.rank ≡ 0 → x ≡ reranked g x
free_reranked g x z e = ap (λ q. at_rank q x) (e ∙ sym (ap g e ∙ z))

-- those past the first n are free, so it comes to the same whether they are counted in or not
first_all : (g : ℕ → ℕ) → g 0 ≡ 0 → (n : ℕ) (xs : List Slot) → ((j : ℕ) → n ≤ j → (slot_at xs j).rank ≡ 0) → first_ranked g n xs ≡ map (reranked g) xs
unfolding first_with
first_all g z zero [] free = refl
first_all g z zero (x ∷ xs) free =
    let tail : xs ≡ map (reranked g) xs = first_all g z zero xs (λ j l. free (suc j) (omega arith)) in
    λ i. free_reranked g x z (free 0 (omega arith)) i ∷ tail i
first_all g z (suc n) [] free = refl
first_all g z (suc n) (x ∷ xs) free = ap (λ l. reranked g x ∷ l) (first_all g z n xs (λ j l. free (suc j) (omega arith)))

aged_all : (r : ℕ) (xs : List Slot) → ((j : ℕ) → (slot_at xs j).rank < 255) → map (reranked (rank_after true r)) xs ≡ map (aged_slot r) xs
aged_all r [] low = refl
aged_all r (x ∷ xs) low = rw (lt-ltb x.rank 255 (low 0), aged_all r xs (λ j. low (suc j)))

module _ (r : Record) (i : ℕ) (inside : i < slots_in r) (free : (j : ℕ) → slots_in r ≤ j → (slot_at r.slots j).rank ≡ 0) where
  all_ranked : (front : Bool) (q : ℕ) → first_ranked (rank_after front q) (slots_in r) r.slots ≡ map (reranked (rank_after front q)) r.slots
  all_ranked front q = first_all (rank_after front q) (kept_free front q) (slots_in r) r.slots free

  pub front_in : (x : Slot) → ((j : ℕ) → (slot_at r.slots j).rank < 255)
      → replaced true r i (at_front x) ≡ with_slots r (to_front r.slots i x)
  unfolding to_front
  front_in x low =
      rw (lt-ltb i (slots_in r) inside, all_ranked true (slot_at r.slots i).rank, aged_all (slot_at r.slots i).rank r.slots low)

  pub freed_in : replaced false r i free_slot ≡ with_slots r (freed r.slots i)
  unfolding freed
  freed_in = rw (lt-ltb i (slots_in r) inside, all_ranked false (slot_at r.slots i).rank)
