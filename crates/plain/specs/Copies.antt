-- Of a log and a record with cells that are the same: what the walks find is what the record says, and the copies leave the same as the first engine does.
use Prim.Native.Nat.{ℕ, suc, ◌+◌, ◌-◌, ◌≤◌, ◌<◌}
use Rattle.std.specs.Prelude.{◌≡◌, ◌⊎◌, Bool, true, false, not, cond, List, [], ◌∷◌, ◌++◌, map, length, replicate, eqb}
use Rattle.std.proofs.Math.Path.{refl}
use Rattle.std.proofs.Common.{sym, ap, ◌∙◌, inl, inr, arith, get_or-set_same, get_or-set_other, eqb-true, eq-eqb, ne_eqb, lt-ltb, ltb-true}
use Rattle.std.proofs.lemmas.List.{get_or-replicate, length-replicate}
use Rattle.std.proofs.lemmas.Bool.{eqb-false, not-true}
use Rattle.octets.specs.Octets.{placed}
use Rattle.octets.specs.Tests as tests
use Rattle.octets.specs.Tests.{clash, same?}
use Rattle.types.specs.declared.Kind.{Kind}
use Rattle.types.specs.declared.Key.{Key}
use Rattle.types.specs.declared.Slot.{Slot}
use Rattle.arrival.specs.Message.{most_parts}
use Rattle.slots.specs.BelowLaws.{count_zero}
use Rattle.slots.specs.RankLaws.{pos_taken, closed_taken}
use Rattle.slots.proofs.AgedLaws.{aged_taken}
use Rattle.slots.specs.FrontLaws.{front_here, front_there, freed_here, freed_there, key_same}
use Rattle.slots.specs.Slots as slots
use Rattle.slots.specs.Slots.{slot_at, opened, held_at, length_at, with_part, to_front, freed, aged, closed}
use Rattle.formed.specs.Formed.{mark_at}
use Rattle.formed.specs.Laws.{Formed, UsedSlot, slot_tells}
use Rattle.cells.specs.Cells.{cell_octets, cells_size, cell_at, cell_part}
use Rattle.cells.specs.CellLaws.{part_by_length, cell_here, cell_there}
use Rattle.series.specs.KeepLaws.{length_short}
use Rattle.beats.specs.Beats.{slots_after_beat}
use Rattle.beats.specs.Laws.{Beaten, was_free, is_dropped, is_older, beat_at}
use Rattle.beats.proofs.BeatenLaws.{beaten?}
use Rattle.plain.specs.Entries.{Entry}
use Rattle.plain.specs.Log.{has_entry, has_key, of_slot, is_part, of_rank, only, without, noted_as, touched, touch, moved_up, close, living, older, log_after_beat}
use Rattle.plain.specs.Same.{All, Once, Fits, SameLog}
use Rattle.plain.specs.Walks.{is_part_lem, part_is, has_more, has_none, all_map, all_only, all_snoc, part_noted, once_noted, part_only, once_only, snoc_old, snoc_new, once_snoc}

-- ---- what the walks find
module _ (n : ℕ) (k : Kind) (xs : List Slot) (cells : List ℕ) (log : List Entry) (w : Formed n k xs) (h : SameLog n xs cells log) where
  pub used_at : (i : ℕ) → i < n → 0 < (slot_at xs i).rank → UsedSlot k (slot_at xs i)
  used_at i l u = slot_tells k (slot_at xs i) (w.slots i l) u

  entry_used : (e : Entry) → Fits n xs cells e → 0 < (slot_at xs e.slot).rank
  entry_used e f = omega (arith, f.rank, f.used)

  -- the walk for a part says what the mark says
  pub has_part : (i m : ℕ) → i < n → 1 ≤ m → m ≤ most_parts → has_entry (is_part i m) log ≡ held_at (slot_at xs i) m
  has_part i m l low high = go (held_at (slot_at xs i) m) refl
    where
      go : (b : Bool) → held_at (slot_at xs i) m ≡ b → has_entry (is_part i m) log ≡ b
      go true e = h.back i m l low high e
      go false e =
          has_none (Fits n xs cells) (is_part i m) log h.each (λ x f t. let (p, q) = is_part_lem i m x t in clash (held_at (slot_at xs i) m) (rw (← p, ← q) f.held) e)

  -- a used slot has an entry, a free one has none
  pub has_slot : (i : ℕ) → i < n → 0 < (slot_at xs i).rank → has_entry (of_slot i) log ≡ true
  has_slot i l u = go (has_entry (of_slot i) log) refl
    where
      no_mark : has_entry (of_slot i) log ≡ false → (j : ℕ) → j < most_parts → mark_at (slot_at xs i) j ≡ false
      no_mark e j m = by (mark_at (slot_at xs i) j) refl
        where
          by : (b : Bool) → mark_at (slot_at xs i) j ≡ b → b ≡ false
          by false q = refl
          by true q =
              let v : j + 1 - 1 ≡ j = omega arith in
              absurd (clash (has_entry (of_slot i) log)
              (has_more (Fits n xs cells) (is_part i (j + 1)) (of_slot i) log h.each (λ x f t. eq-eqb x.slot i (is_part_lem i (j + 1) x t).0) (h.back i (j + 1) l (omega arith) (omega arith) (rw v q))) e)

      go : (b : Bool) → has_entry (of_slot i) log ≡ b → b ≡ true
      go true e = refl
      go false e = absurd (omega (arith, (used_at i l u).some, count_zero most_parts (mark_at (slot_at xs i)) (no_mark e)))

  pub no_slot : (i : ℕ) → (slot_at xs i).rank ≡ 0 → has_entry (of_slot i) log ≡ false
  no_slot i z =
      has_none (Fits n xs cells) (of_slot i) log h.each
      (λ x f t. omega (arith, entry_used x f, ap (λ (j : ℕ). (slot_at xs j).rank) (eqb-true x.slot i t)))

  -- the entries of a slot all pass what its slot passes: its key is found, and its rank
  pub has_key_lem : (i : ℕ) → i < n → 0 < (slot_at xs i).rank → (key : Key) → (slot_at xs i).key ≡ key → has_entry (has_key key) log ≡ true
  has_key_lem i l u key e =
      has_more (Fits n xs cells) (of_slot i) (has_key key) log h.each
      (λ x f t. key_same x.key key (sym f.key ∙ ap (λ (j : ℕ). (slot_at xs j).key) (eqb-true x.slot i t) ∙ e)) (has_slot i l u)

  pub has_rank_lem : (i r : ℕ) → i < n → 0 < r → (slot_at xs i).rank ≡ r → has_entry (of_rank r) log ≡ true
  has_rank_lem i r l u e =
      has_more (Fits n xs cells) (of_slot i) (of_rank r) log h.each
      (λ x f t. eq-eqb x.rank r (sym f.rank ∙ ap (λ (j : ℕ). (slot_at xs j).rank) (eqb-true x.slot i t) ∙ e)) (has_slot i l (omega arith))

-- ---- what the copies leave
-- an entry whose slot keeps all but rank and count
fits_moved : (n : ℕ) (xs ys : List Slot) (cells cells' : List ℕ) (e : Entry) (q b q' b' : ℕ) → Fits n xs cells e → 0 < q
    → slot_at ys e.slot ≡ slots.at_rank q' (slots.at_count b' (slot_at xs e.slot)) → q' ≡ q → b' ≡ b
    → cell_part cells' (slot_at xs e.slot) e.slot e.number ≡ cell_part cells (slot_at xs e.slot) e.slot e.number → Fits n ys cells' (noted_as q b e)
fits_moved n xs ys cells cells' e q b q' b' f u t r s c = record {
  inside = f.inside;
  used = u;
  rank = ap (λ (y : Slot). y.rank) t ∙ r;
  beats = ap (λ (y : Slot). y.beats) t ∙ s;
  key = ap (λ (y : Slot). y.key) t ∙ f.key;
  total = ap (λ (y : Slot). y.total) t ∙ f.total;
  low = f.low;
  high = f.high;
  held = ap (λ (y : Slot). held_at y e.number) t ∙ f.held;
  size = ap (λ (y : Slot). length_at y e.number) t ∙ f.size;
  octets = part_by_length cells' (slot_at ys e.slot) (slot_at xs e.slot) e.slot e.number (ap (λ (y : Slot). length_at y e.number) t) ∙ c ∙ f.octets;
}

aged_pos : (r q : ℕ) → 0 < q → 0 < aged r q
aged_pos r q u = pos_taken (aged r q) (aged_taken r q ∙ rw (ne_eqb q 0 (λ e. omega arith)))

closed_pos : (r q : ℕ) → 0 < r → 0 < q → 0 < closed r q
closed_pos r q l u = pos_taken (closed r q) (closed_taken r q l ∙ rw (ne_eqb q 0 (λ e. omega arith)))

-- an entry that is copied is of another slot
pub not_of : (i : ℕ) (e : Entry) → not (of_slot i e) ≡ true → e.slot ≡ i → ⊥
not_of i e t p = eqb-false e.slot i (not-true (eqb e.slot i) t) p

pub of_another_lem : (i : ℕ) (e : Entry) → (e.slot ≡ i → ⊥) → not (of_slot i e) ≡ true
of_another_lem i e ne = rw (ne_eqb e.slot i ne)

module _ (n : ℕ) (k : Kind) (xs : List Slot) (cells : List ℕ) (log : List Entry) (w : Formed n k xs) (h : SameLog n xs cells log) where
  -- ---- slot i, which had rank r
  module _ (i : ℕ) (inside : i < n) (r : ℕ) (was : (slot_at xs i).rank ≡ r) where
    -- the copy without slot i
    rest : All (λ e. Fits n xs cells e × (not (of_slot i e) ≡ true)) (without i log)
    rest = all_only (Fits n xs cells) (λ e. not (of_slot i e)) log h.each

    part_there : (j m : ℕ) → (j ≡ i → ⊥) → has_entry (is_part j m) (without i log) ≡ has_entry (is_part j m) log
    part_there j m ne = part_only (Fits n xs cells) (λ e. not (of_slot i e)) j m log h.each (λ e f q. of_another_lem i e (λ p. ne (sym q ∙ p)))

    -- what a touch notes
    abbrev rank_now : Entry → ℕ
    rank_now e = cond (of_slot i e) 1 (aged r e.rank)

    abbrev count_now : Entry → ℕ
    count_now e = cond (of_slot i e) 0 e.beats

    part_touch : (j m : ℕ) (l : List Entry) → has_entry (is_part j m) (touch i r l) ≡ has_entry (is_part j m) l
    part_touch j m l = part_noted rank_now count_now j m l

    once_touch : (l : List Entry) → Once l → Once (touch i r l)
    once_touch l o = once_noted rank_now count_now l o

    here_front : (x : Slot) (j : ℕ) → j ≡ i → slot_at (to_front xs i x) j ≡ slots.at_front x
    here_front x j p = rw p (front_here xs i x (omega (arith, w.high, w.array)))

    -- an entry of another slot, if slot i comes to the front as x
    other_fits : (x : Slot) (cells' : List ℕ) (e : Entry) → Fits n xs cells e → (e.slot ≡ i → ⊥)
        → cell_part cells' (slot_at xs e.slot) e.slot e.number ≡ cell_part cells (slot_at xs e.slot) e.slot e.number → Fits n (to_front xs i x) cells' (touched i r e)
    other_fits x cells' e f p c =
        let t : of_slot i e ≡ false = ne_eqb e.slot i p in
        rw t
        (fits_moved n xs (to_front xs i x) cells cells' e (aged r e.rank) e.beats (aged (slot_at xs i).rank (slot_at xs e.slot).rank) (slot_at xs e.slot).beats f
        (aged_pos r e.rank f.used) (front_there xs i x e.slot p) (rw (was, f.rank)) f.beats c)

    -- "held already"
    pub same_touch : SameLog n (to_front xs i (slot_at xs i)) cells (touch i r log)
    same_touch = record {
      each = all_map (Fits n xs cells) (Fits n (to_front xs i (slot_at xs i)) cells) (touched i r) log h.each (λ e f. go e f (same? e.slot i));
      back = λ j m a b c d. part_touch j m log ∙ h.back j m a b c (marks j m (same? j i) d);
      once = once_touch log h.once;
    }
      where
        go : (e : Entry) → Fits n xs cells e → tests.Same e.slot i → Fits n (to_front xs i (slot_at xs i)) cells (touched i r e)
        go e f (tests.same t p) =
            rw t (fits_moved n xs (to_front xs i (slot_at xs i)) cells cells e 1 0 1 0 f (omega arith) (here_front (slot_at xs i) e.slot p ∙ rw p) refl refl refl)
        go e f (tests.other t p) = other_fits (slot_at xs i) cells e f p refl

        marks : (j m : ℕ) → tests.Same j i → held_at (slot_at (to_front xs i (slot_at xs i)) j) m ≡ true → held_at (slot_at xs j) m ≡ true
        marks j m (tests.same t p) d = let d' : held_at (slot_at xs i) m ≡ true = rw (here_front (slot_at xs i) j p) at d in rw p d'
        marks j m (tests.other t p) d = rw (front_there xs i (slot_at xs i) j p) at d

    -- the series is dropped
    pub same_drop : 0 < r → SameLog n (freed xs i) cells (close r (without i log))
    same_drop u = record {
      each = all_map (λ e. Fits n xs cells e × (not (of_slot i e) ≡ true)) (Fits n (freed xs i) cells) (moved_up r) (without i log) rest (λ e f. go e f.0 (not_of i e f.1));
      back = λ j m a b c d. marks j m a b c (same? j i) d;
      once = once_noted (λ e. closed r e.rank) (λ e. e.beats) (without i log) (once_only (λ e. not (of_slot i e)) log h.once);
    }
      where
        go : (e : Entry) → Fits n xs cells e → (e.slot ≡ i → ⊥) → Fits n (freed xs i) cells (moved_up r e)
        go e f p =
            fits_moved n xs (freed xs i) cells cells e (closed r e.rank) e.beats (closed (slot_at xs i).rank (slot_at xs e.slot).rank) (slot_at xs e.slot).beats f
            (closed_pos r e.rank u f.used) (freed_there xs i e.slot p) (rw (was, f.rank)) f.beats refl

        marks : (j m : ℕ) → j < n → 1 ≤ m → m ≤ most_parts → tests.Same j i → held_at (slot_at (freed xs i) j) m ≡ true → has_entry (is_part j m) (close r (without i log)) ≡ true
        marks j m a b c (tests.same t p) d =
            let e : slot_at (freed xs i) j ≡ slots.free_slot = rw p (freed_here xs i (omega (arith, w.high, w.array))) in
            absurd (clash (held_at (slot_at (freed xs i) j) m) d (ap (λ (y : Slot). held_at y m) e ∙ get_or-replicate most_parts (m - 1) false false (omega arith)))
        marks j m a b c (tests.other t p) d =
            part_noted (λ e. closed r e.rank) (λ e. e.beats) j m (without i log) ∙ part_there j m p ∙ h.back j m a b c (rw (freed_there xs i j p) at d)

    -- ---- a part is kept
    module _ (size : length cells ≡ cells_size n) (key : Key) (total number : ℕ) (octets : List ℕ) (low : 1 ≤ number) (high : number ≤ most_parts) (fits : length octets ≤ cell_octets) where
      abbrev cells' : List ℕ
      cells' = placed cells (cell_at i number) octets

      abbrev new : Entry
      new = record { slot = i; rank = 1; beats = 0; key = key; total = total; number = number; size = length octets; octets = octets }

      -- a cell that was not written
      cell_kept : (e : Entry) → Fits n xs cells e → (x : Slot) → length_at x e.number ≡ length_at (slot_at xs e.slot) e.number → ((e.slot ≡ i → ⊥) ⊎ (e.number ≡ number → ⊥))
          → cell_part cells' x e.slot e.number ≡ cell_part cells (slot_at xs e.slot) e.slot e.number
      cell_kept e f x q ne =
          cell_there n cells size i number inside low high octets fits x (slot_at xs e.slot) e.slot e.number f.low f.high q
          (length_short k (slot_at xs e.slot) (used_at n k xs cells log w h e.slot f.inside (omega (arith, f.rank, f.used))) e.number f.low f.high) ne

      old_fits : (x : Slot) (e : Entry) → Fits n xs cells e → (e.slot ≡ i → ⊥) → Fits n (to_front xs i x) cells' (touched i r e)
      old_fits x e f p = other_fits x cells' e f p (cell_kept e f (slot_at xs e.slot) refl (inl p))

      new_fits : (x : Slot) → x.key ≡ key → x.total ≡ total → length x.held ≡ most_parts → length x.lengths ≡ most_parts
          → Fits n (to_front xs i (with_part x number (length octets))) cells' new
      new_fits x a b c d =
          let t : slot_at (to_front xs i (with_part x number (length octets))) i ≡ slots.at_front (with_part x number (length octets)) = here_front (with_part x number (length octets)) i refl in
          let long : length_at (slot_at (to_front xs i (with_part x number (length octets))) i) number ≡ length octets =
          ap (λ (y : Slot). length_at y number) t ∙ get_or-set_same x.lengths (number - 1) (length octets) 0 (omega arith) in record {
            inside = inside;
            used = omega arith;
            rank = ap (λ (y : Slot). y.rank) t;
            beats = ap (λ (y : Slot). y.beats) t;
            key = ap (λ (y : Slot). y.key) t ∙ a;
            total = ap (λ (y : Slot). y.total) t ∙ b;
            low = low;
            high = high;
            held = ap (λ (y : Slot). held_at y number) t ∙ get_or-set_same x.held (number - 1) true false (omega arith);
            size = long;
            octets = cell_here n cells size i number inside low high octets fits (slot_at (to_front xs i (with_part x number (length octets))) i) long;
          }

      -- in a series that is there
      pub same_more : UsedSlot k (slot_at xs i) → (slot_at xs i).key ≡ key → (slot_at xs i).total ≡ total → held_at (slot_at xs i) number ≡ false
          → SameLog n (to_front xs i (with_part (slot_at xs i) number (length octets))) cells' (touch i r log ++ new ∷ [])
      same_more u a b c = record {
        each = all_snoc (Fits n (to_front xs i (with_part (slot_at xs i) number (length octets))) cells') (touch i r log) new
            (all_map (Fits n xs cells) (Fits n (to_front xs i (with_part (slot_at xs i) number (length octets))) cells') (touched i r) log h.each (λ e f. go e f (same? e.slot i)))
            (new_fits (slot_at xs i) a b u.marks u.lengths);
        back = λ j m a b c d. marks j m a b c (same? j i) (same? m number) d;
        once = once_snoc (touch i r log) new (once_touch log h.once) (part_touch i number log ∙ has_part n k xs cells log w h i number inside low high ∙ c);
      }
        where
          go : (e : Entry) → Fits n xs cells e → tests.Same e.slot i → Fits n (to_front xs i (with_part (slot_at xs i) number (length octets))) cells' (touched i r e)
          go e f (tests.other t p) = old_fits (with_part (slot_at xs i) number (length octets)) e f p
          go e f (tests.same t p) =
              let y : slot_at (to_front xs i (with_part (slot_at xs i) number (length octets))) e.slot ≡ slots.at_front (with_part (slot_at xs e.slot) number (length octets)) =
              here_front (with_part (slot_at xs i) number (length octets)) e.slot p ∙ rw p in
              let ne : e.number ≡ number → ⊥ = λ q. clash (held_at (slot_at xs e.slot) e.number) f.held (rw (p, q) c) in
              let apart : e.number - 1 ≡ number - 1 → ⊥ = λ q. ne (omega (arith, f.low)) in
              let long : length_at (slot_at (to_front xs i (with_part (slot_at xs i) number (length octets))) e.slot) e.number ≡ length_at (slot_at xs e.slot) e.number =
              ap (λ (y : Slot). length_at y e.number) y ∙ get_or-set_other (slot_at xs e.slot).lengths (number - 1) (e.number - 1) (length octets) 0 apart in
              let f' : Fits n (to_front xs i (with_part (slot_at xs i) number (length octets))) cells' (noted_as 1 0 e) = record {
                inside = f.inside;
                used = omega arith;
                rank = ap (λ (y : Slot). y.rank) y;
                beats = ap (λ (y : Slot). y.beats) y;
                key = ap (λ (y : Slot). y.key) y ∙ f.key;
                total = ap (λ (y : Slot). y.total) y ∙ f.total;
                low = f.low;
                high = f.high;
                held = ap (λ (y : Slot). held_at y e.number) y ∙ get_or-set_other (slot_at xs e.slot).held (number - 1) (e.number - 1) true false apart ∙ f.held;
                size = long ∙ f.size;
                octets = cell_kept e f (slot_at (to_front xs i (with_part (slot_at xs i) number (length octets))) e.slot) long (inr ne) ∙ f.octets;
              } in
              rw t f'

          marks : (j m : ℕ) → j < n → 1 ≤ m → m ≤ most_parts → tests.Same j i → tests.Same m number
              → held_at (slot_at (to_front xs i (with_part (slot_at xs i) number (length octets))) j) m ≡ true → has_entry (is_part j m) (touch i r log ++ new ∷ []) ≡ true
          marks j m a b c (tests.same t p) (tests.same s q) d = snoc_new (is_part j m) (touch i r log) new (part_is j m new (sym p) (sym q))
          marks j m a b c (tests.same t p) (tests.other s q) d =
              let d' : held_at (with_part (slot_at xs i) number (length octets)) m ≡ true = rw (here_front (with_part (slot_at xs i) number (length octets)) j p) at d in
              let d'' : held_at (slot_at xs i) m ≡ true = sym (get_or-set_other (slot_at xs i).held (number - 1) (m - 1) true false (λ z. q (omega arith))) ∙ d' in
              snoc_old (is_part j m) (touch i r log) new (part_touch j m log ∙ h.back j m a b c (rw p d''))
          marks j m a b c (tests.other t p) s d =
              snoc_old (is_part j m) (touch i r log) new (part_touch j m log ∙ h.back j m a b c (rw (front_there xs i (with_part (slot_at xs i) number (length octets)) j p) at d))

      -- in a slot that is free, or whose series is displaced
      pub same_new : SameLog n (to_front xs i (with_part (opened key total) number (length octets))) cells' (touch i r (without i log) ++ new ∷ [])
      same_new = record {
        each = all_snoc (Fits n (to_front xs i (with_part (opened key total) number (length octets))) cells') (touch i r (without i log)) new
            (all_map (λ e. Fits n xs cells e × (not (of_slot i e) ≡ true)) (Fits n (to_front xs i (with_part (opened key total) number (length octets))) cells') (touched i r) (without i log) rest
            (λ e f. old_fits (with_part (opened key total) number (length octets)) e f.0 (not_of i e f.1)))
            (new_fits (opened key total) refl refl (length-replicate most_parts false) (length-replicate {A = ℕ} most_parts 0));
        back = λ j m a b c d. marks j m a b c (same? j i) (same? m number) d;
        once = once_snoc (touch i r (without i log)) new (once_touch (without i log) (once_only (λ e. not (of_slot i e)) log h.once))
            (part_touch i number (without i log)
            ∙ has_none (λ e. Fits n xs cells e × (not (of_slot i e) ≡ true)) (is_part i number) (without i log) rest (λ e f t. not_of i e f.1 (is_part_lem i number e t).0));
      }
        where
          marks : (j m : ℕ) → j < n → 1 ≤ m → m ≤ most_parts → tests.Same j i → tests.Same m number
              → held_at (slot_at (to_front xs i (with_part (opened key total) number (length octets))) j) m ≡ true → has_entry (is_part j m) (touch i r (without i log) ++ new ∷ []) ≡ true
          marks j m a b c (tests.same t p) (tests.same s q) d = snoc_new (is_part j m) (touch i r (without i log)) new (part_is j m new (sym p) (sym q))
          marks j m a b c (tests.same t p) (tests.other s q) d =
              absurd (clash (held_at (slot_at (to_front xs i (with_part (opened key total) number (length octets))) j) m) d
              (ap (λ (y : Slot). held_at y m) (here_front (with_part (opened key total) number (length octets)) j p)
              ∙ get_or-set_other (replicate most_parts false) (number - 1) (m - 1) true false (λ z. q (omega arith)) ∙ get_or-replicate most_parts (m - 1) false false (omega arith)))
          marks j m a b c (tests.other t p) s d =
              snoc_old (is_part j m) (touch i r (without i log)) new
              (part_touch j m (without i log) ∙ part_there j m p ∙ h.back j m a b c (rw (front_there xs i (with_part (opened key total) number (length octets)) j p) at d))

  -- ---- a beat
  pub same_beat : (limit : ℕ) → SameLog n (slots_after_beat limit xs) cells (log_after_beat limit log)
  unfolding log_after_beat
  same_beat limit = record {
    each = all_map (λ e. Fits n xs cells e × (living limit e ≡ true)) (Fits n (slots_after_beat limit xs) cells) older (only (living limit) log)
        (all_only (Fits n xs cells) (living limit) log h.each) (λ e f. go e f.0 (ltb-true (suc e.beats) limit f.1) (beaten? limit (slot_at xs e.slot)));
    back = λ j m a b c d. marks j m a b c (beaten? limit (slot_at xs j)) d;
    once = once_noted (λ e. e.rank) (λ e. suc e.beats) (only (living limit) log) (once_only (living limit) log h.once);
  }
    where
      go : (e : Entry) → Fits n xs cells e → suc e.beats < limit → Beaten limit (slot_at xs e.slot) → Fits n (slots_after_beat limit xs) cells (older e)
      go e f y (was_free z a q) = absurd (omega (arith, f.rank, f.used))
      go e f y (is_dropped v l a q) = absurd (omega (arith, f.beats))
      go e f y (is_older v l a q) =
          fits_moved n xs (slots_after_beat limit xs) cells cells e e.rank (suc e.beats) (slot_at xs e.slot).rank (suc (slot_at xs e.slot).beats) f
          f.used (beat_at limit xs e.slot ∙ q) f.rank (ap suc f.beats) refl

      -- the parts of a slot whose entries live
      still : (j m : ℕ) → j < n → 1 ≤ m → m ≤ most_parts → held_at (slot_at xs j) m ≡ true → ((e : Entry) → Fits n xs cells e → e.slot ≡ j → suc e.beats < limit)
          → has_entry (is_part j m) (map older (only (living limit) log)) ≡ true
      still j m a b c d lives =
          part_noted (λ e. e.rank) (λ e. suc e.beats) j m (only (living limit) log)
          ∙ part_only (Fits n xs cells) (living limit) j m log h.each (λ e f q. lt-ltb (suc e.beats) limit (lives e f q)) ∙ h.back j m a b c d

      marks : (j m : ℕ) → j < n → 1 ≤ m → m ≤ most_parts → Beaten limit (slot_at xs j) → held_at (slot_at (slots_after_beat limit xs) j) m ≡ true
          → has_entry (is_part j m) (map older (only (living limit) log)) ≡ true
      marks j m a b c (was_free z r q) d =
          still j m a b c (ap (λ (y : Slot). held_at y m) (sym (beat_at limit xs j ∙ q)) ∙ d)
          (λ e f p. absurd (omega (arith, f.rank, f.used, ap (λ (o : ℕ). (slot_at xs o).rank) p)))
      marks j m a b c (is_dropped v l r q) d =
          absurd (clash (held_at (slot_at (slots_after_beat limit xs) j) m) d
          (ap (λ (y : Slot). held_at y m) (beat_at limit xs j ∙ q) ∙ get_or-replicate most_parts (m - 1) false false (omega arith)))
      marks j m a b c (is_older v l r q) d =
          still j m a b c (ap (λ (y : Slot). held_at y m) (sym (beat_at limit xs j ∙ q)) ∙ d) (λ e f p. omega (arith, f.beats, ap (λ (o : ℕ). (slot_at xs o).beats) p))
