-- Whatever order its entries are in, a log that passes the test can be made as far as its parts go, entry by entry. A part of a series that is there is kept.
-- A new series goes to the lowest free slot: if another slot is wanted, each free slot below it is filled first, with a series of two parts of which one
-- comes; behind the part the others come, and the fillers are gone. They have a sender that no entry has, and the slot as their reference.
use Prim.Native.Nat.{ℕ, zero, suc, ◌+◌, ◌≤◌, ◌<◌}
use mathlib.Core.Path.{◌≡◌, refl, sym, ap, ◌∙◌, subst}
use mathlib.Core.Logic.{◌⊎◌, inl, inr, ⊎_elim}
use mathlib.Core.Bool.{Bool, true, false, not, cond, ◌||◌}
use mathlib.Core.List.{List, [], ◌∷◌, ◌++◌, append-nil, append_assoc}
use native.Mathlib.Omega.{arith}
use lib.ListN.{length}
use lib.Dec.{eqb}
use borrow.Author.Tests.{eqb-true, eqb-false, eq-eqb, ne_eqb, lt-ltb, le-leb, not-false}
use Rattle.octets.specs.Tests as tests
use Rattle.octets.specs.Tests.{clash, same?, by_test}
use Rattle.types.specs.declared.Kind.{Kind}
use Rattle.types.specs.declared.Key.{Key}
use Rattle.arrival.specs.Keys.{key_formed, room, length_fits}
use Rattle.slots.specs.Below.{all_below}
use Rattle.slots.specs.BelowLaws.{all_at}
use Rattle.slots.specs.FrontLaws.{same_key_lem, key_same}
use Rattle.slots.specs.Slots.{slot_at, aged, closed}
use Rattle.plain.specs.Entries.{Entry, log_octets}
use Rattle.plain.specs.Log.{has_entry, has_key, of_slot, is_part, only, without, touched, touch, moved_up, close, new_entry, log_complete}
use Rattle.plain.specs.Same.{All, Fits}
use Rattle.plain.specs.Walks.{is_part_lem, part_is, first_tells, has_more, has_none, free_hit, all_weaker, all_map, all_only, all_snoc, snoc_old, snoc_new, none_all, all_and}
use Rattle.plain.specs.Copies.{of_another_lem, not_of}
use Rattle.sequences.specs.Runs.{Slots}
use Rattle.sequences.proofs.Written.{done}
use Rattle.engines.proofs.LogReach.{Bringable, Reach, known, reach_part, blank}
use Rattle.engines.proofs.LogShape.{bare, bares, bare_noted, only_noted, bares_more, all_same, has_same, some_first, only_all, only_more, only_twice, all_of_only, keeps_log, finishes_log, opens_log}

-- the notes of a touch, and of closing a gap
module _ (i r : ℕ) where
  abbrev rank_now : Entry → ℕ
  rank_now x = cond (of_slot i x) 1 (aged r x.rank)

  abbrev count_now : Entry → ℕ
  count_now x = cond (of_slot i x) 0 x.beats

  touched_bares : (L : List Entry) → bares (touch i r L) ≡ bares L
  touched_bares L = bare_noted rank_now count_now L

  touched_zero : (L : List Entry) → All (λ x. x.beats ≡ 0) L → All (λ x. x.beats ≡ 0) (touch i r L)
  touched_zero L a = all_map (λ x. x.beats ≡ 0) (λ x. x.beats ≡ 0) (touched i r) L a (λ x z. go (of_slot i x) x.beats z)
    where
      go : (c : Bool) (m : ℕ) → m ≡ 0 → cond c 0 m ≡ 0
      go true m z = refl
      go false m z = z

-- a series of two parts that has one is complete with the other
both_parts : (i : ℕ) (L : List Entry) → has_entry (is_part i 1) L ≡ true → all_below 2 (λ j. eqb (j + 1) 2 || has_entry (is_part i (j + 1)) L) ≡ true
unfolding all_below
both_parts i L h = rw h

-- a copy of one entry
module _ (p : Entry → Bool) (x : Entry) where
  only_out : p x ≡ false → only p (x ∷ []) ≡ []
  unfolding only
  only_out h = rw h

  only_in : p x ≡ true → only p (x ∷ []) ≡ x ∷ []
  unfolding only
  only_in h = rw h

-- a slot that no entry names
without_none : (i : ℕ) (L : List Entry) → All (λ x. x.slot ≡ i → ⊥) L → without i L ≡ L
without_none i L a = only_all (λ x. not (of_slot i x)) L (all_weaker (λ x. x.slot ≡ i → ⊥) (λ x. not (of_slot i x) ≡ true) L a (λ x ne. of_another_lem i x ne))

module _ (n : ℕ) (good : Slots n) (k : Kind) (lent : List ℕ) (long : length lent ≡ log_octets) where
  abbrev Made : List Entry → Type 0
  Made L = Reach n good k lent long L

  -- ---- a log with these parts, untouched by beats
  pub record Built (P L : List Entry) : Type 0 where
    pub reach : Made L
    pub shape : bares L ≡ bares P
    pub zeros : All (λ x. x.beats ≡ 0) L

  -- ---- what is asked of an entry behind the entries P
  pub record Apart (e x : Entry) : Type 0 where
    pub same_series : x.slot ≡ e.slot → (x.key ≡ e.key) × (x.total ≡ e.total)
    pub other_key : x.key ≡ e.key → x.slot ≡ e.slot

  pub record Next (s : ℕ) (P : List Entry) (e : Entry) : Type 0 where
    pub inside : e.slot < n
    pub brought : Bringable k e.key e.total e.number e.octets
    pub long_as : e.size ≡ length e.octets
    pub apart : All (Apart e) P
    pub new : has_entry (is_part e.slot e.number) P ≡ false
    pub lacks : (j : ℕ) × (j < e.total) × (j + 1 ≡ e.number → ⊥) × (has_entry (is_part e.slot (j + 1)) P ≡ false)
    pub strange : e.key.sender ≡ s → ⊥
    pub strangers : All (λ x. x.key.sender ≡ s → ⊥) P

  -- the entry that the part of e becomes is e, up to what is noted
  new_bare : (e : Entry) (L : List Entry) (i : ℕ) → i ≡ e.slot → e.size ≡ length e.octets
      → bare (new_entry n k L blank e.key e.total e.number e.octets i) ≡ bare e
  new_bare e L i p q = let q' = sym q in λ d. record { slot = p d; rank = 0; beats = 0; key = e.key; total = e.total; number = e.number; size = q' d; octets = e.octets }

  -- ---- a part of a series that is there
  keep : (s : ℕ) (P : List Entry) (e : Entry) → Next s P e → (L : List Entry) → Built P L → has_entry (of_slot e.slot) P ≡ true → (M : List Entry) × Built (P ++ e ∷ []) M
  keep s P e a L m there =
      let apart_L : All (Apart e) L = all_same (Apart e) (λ x q. record { same_series = q.same_series; other_key = q.other_key }) (λ x q. record { same_series = q.same_series; other_key = q.other_key }) P L (sym m.shape) a.apart in
      let slot_L : has_entry (of_slot e.slot) L ≡ true = has_same (of_slot e.slot) (λ x. refl) L P m.shape ∙ there in
      let key_L : has_entry (has_key e.key) L ≡ true = has_more (Apart e) (of_slot e.slot) (has_key e.key) L apart_L (λ x q t. key_same x.key e.key (q.same_series (eqb-true x.slot e.slot t)).0) slot_L in
      let (x, found) = some_first (has_key e.key) L key_L in
      let (q, t) = first_tells (Apart e) (has_key e.key) L apart_L x found in
      let p : x.slot ≡ e.slot = q.other_key (same_key_lem x.key e.key t) in
      let counted : eqb x.total e.total ≡ true = eq-eqb x.total e.total (q.same_series p).1 in
      let (j, l, ne, gone) = a.lacks in
      let none_L : (number : ℕ) → has_entry (is_part e.slot number) P ≡ false → has_entry (is_part x.slot number) L ≡ false =
      λ number h. ap (λ (i : ℕ). has_entry (is_part i number) L) p ∙ has_same (is_part e.slot number) (λ x. refl) L P m.shape ∙ h in
      let unfinished : log_complete n k L blank e.key e.total e.number e.octets x.slot ≡ false =
      lacking e.total (λ i. eqb (i + 1) e.number || has_entry (is_part x.slot (i + 1)) L) j l (neither_of (eqb (j + 1) e.number) (has_entry (is_part x.slot (j + 1)) L) (ne_eqb (j + 1) e.number ne) (none_L (j + 1) gone)) in
      let N : List Entry = touch x.slot x.rank L in
      let f : Entry = new_entry n k L blank e.key e.total e.number e.octets x.slot in (
        N ++ f ∷ [],
        record {
          reach = reach_part n good k lent long L m.reach e.key e.total e.number e.octets a.brought (N ++ f ∷ [])
              (keeps_log n k L blank e.key e.total e.number e.octets x found counted (none_L e.number a.new) unfinished);
          shape = bares_more N (f ∷ []) ∙ ap (λ (h : List Entry). h ++ bare f ∷ []) (touched_bares x.slot x.rank L ∙ m.shape)
              ∙ ap (λ (h : Entry). bares P ++ h ∷ []) (new_bare e L x.slot p a.long_as) ∙ sym (bares_more P (e ∷ []));
          zeros = all_snoc (λ x. x.beats ≡ 0) N f (touched_zero x.slot x.rank L m.zeros) refl;
        },
      )
    where
      neither_of : (u v : Bool) → u ≡ false → v ≡ false → u || v ≡ false
      neither_of u v p q = rw (p, q)

      lacking : (m : ℕ) (f : ℕ → Bool) (j : ℕ) → j < m → f j ≡ false → all_below m f ≡ false
      lacking m f j l h = by_test (all_below m f) (λ t. absurd (clash (f j) (all_at m f t j l) h)) (λ t. t)

  -- ---- fillers
  module _ (s : ℕ) (small : s < 4294967296) where
    abbrev filler_key : ℕ → Key
    filler_key i = record { sender = s; width = 8; reference = i; serial = record { 0 = 0 }; identifier = record { 0 = 0 } }

    -- an entry that is no filler's
    abbrev own : Entry → Bool
    own x = not (eqb x.key.sender s)

    filler_brought : (i number : ℕ) → i < n → 1 ≤ number → number ≤ 2 → Bringable k (filler_key i) 2 number []
    unfolding key_formed length_fits
    filler_brought i number l low high = record {
      small = done;
      fits = record { sender = small; serial = omega arith };
      key_formed_lem = formed_key i (omega (arith, l, good.most));
      total_fits_lem = refl;
      low = low;
      high = high;
      length_fits_lem = le-leb 0 (room 8 number) (omega arith);
    }
      where
        formed_key : (i : ℕ) → i < 256 → key_formed k (filler_key i) ≡ true
        formed_key i l = rw (lt-ltb i 256 l)

    -- a filler of one of the slots below p
    record Filler (p : ℕ) (x : Entry) : Type 0 where
      key : x.key ≡ filler_key x.slot
      below : x.slot < p
      total : x.total ≡ 2
      number : x.number ≡ 1

    record Filled (p : ℕ) (P L : List Entry) : Type 0 where
      reach : Made L
      shape : bares (only own L) ≡ bares P
      zeros : All (λ x. x.beats ≡ 0) L
      fills : All (λ x. (own x ≡ true) ⊎ Filler p x) L

    not_own : (p : ℕ) (x : Entry) → Filler p x → own x ≡ false
    not_own p x f = rw (eq-eqb x.key.sender s (ap (λ (y : Key). y.sender) f.key))

    -- the key tells a filler and its slot
    told_filler : (p q : ℕ) (x : Entry) → (own x ≡ true) ⊎ Filler p x → x.key ≡ filler_key q → Filler p x × (x.slot ≡ q)
    told_filler p q x o e =
        ⊎_elim (λ (h : own x ≡ true). absurd (clash (own x) h (rw (eq-eqb x.key.sender s (ap (λ (y : Key). y.sender) e)))))
        (λ (f : Filler p x). (f, ap (λ (y : Key). y.reference) (sym f.key ∙ e))) o

    -- slot p is used already, or it is filled
    fill_one : (p : ℕ) → p < n → (P L : List Entry) → Filled p P L → ((j : ℕ) → j < p → has_entry (of_slot j) L ≡ true)
        → (M : List Entry) × Filled (suc p) P M × ((j : ℕ) → j < suc p → has_entry (of_slot j) M ≡ true)
    fill_one p l P L m used = by_test (has_entry (of_slot p) L) there gone
      where
        wider : (x : Entry) → (own x ≡ true) ⊎ Filler p x → (own x ≡ true) ⊎ Filler (suc p) x
        wider x o = ⊎_elim (λ (h : own x ≡ true). inl h) (λ (f : Filler p x). inr (record { key = f.key; below = omega (arith, f.below); total = f.total; number = f.number })) o

        there : has_entry (of_slot p) L ≡ true → (M : List Entry) × Filled (suc p) P M × ((j : ℕ) → j < suc p → has_entry (of_slot j) M ≡ true)
        there h = (L, record { reach = m.reach; shape = m.shape; zeros = m.zeros; fills = all_weaker (λ x. (own x ≡ true) ⊎ Filler p x) (λ x. (own x ≡ true) ⊎ Filler (suc p) x) L m.fills wider }, λ j b. go j b (same? j p))
          where
            go : (j : ℕ) → j < suc p → tests.Same j p → has_entry (of_slot j) L ≡ true
            go j b (tests.same e q) = subst (λ (i : ℕ). has_entry (of_slot i) L ≡ true) (sym q) h
            go j b (tests.other e ne) = used j (omega arith)

        f : Entry
        f = new_entry n k L blank (filler_key p) 2 1 [] p

        N : List Entry
        N = touch p 0 L

        gone : has_entry (of_slot p) L ≡ false → (M : List Entry) × Filled (suc p) P M × ((j : ℕ) → j < suc p → has_entry (of_slot j) M ≡ true)
        gone h = (
          touch p 0 L ++ new_entry n k L blank (filler_key p) 2 1 [] p ∷ [],
          record {
            reach = reach_part n good k lent long L m.reach (filler_key p) 2 1 [] (filler_brought p 1 l (omega arith) (omega arith)) (touch p 0 L ++ new_entry n k L blank (filler_key p) 2 1 [] p ∷ [])
                (opens_log n k L blank (filler_key p) 2 1 [] p no_key_lem (free_hit L n 0 p (omega arith) (omega arith) h (λ j a b. used j b))
                ∙ ap (λ (z : List Entry). touch p 0 z ++ new_entry n k L blank (filler_key p) 2 1 [] p ∷ []) (without_none p L nobody));
            shape = ap bares (only_more own (touch p 0 L) (new_entry n k L blank (filler_key p) 2 1 [] p ∷ []) ∙ ap (λ (z : List Entry). only own (touch p 0 L) ++ z) (only_filler (new_entry n k L blank (filler_key p) 2 1 [] p) refl)
                ∙ append-nil (only own (touch p 0 L)) ∙ only_noted (rank_now p 0) (count_now p 0) own (λ e. refl) L) ∙ touched_bares p 0 (only own L) ∙ m.shape;
            zeros = all_snoc (λ x. x.beats ≡ 0) (touch p 0 L) (new_entry n k L blank (filler_key p) 2 1 [] p) (touched_zero p 0 L m.zeros) refl;
            fills = all_snoc (λ x. (own x ≡ true) ⊎ Filler (suc p) x) (touch p 0 L) (new_entry n k L blank (filler_key p) 2 1 [] p)
                (all_map (λ x. (own x ≡ true) ⊎ Filler p x) (λ x. (own x ≡ true) ⊎ Filler (suc p) x) (touched p 0) L m.fills (λ x o. as_touched x (wider x o)))
                (inr (record { key = refl; below = omega arith; total = refl; number = refl }));
          },
          λ j b. go j b (same? j p),
        )
          where
            nobody : All (λ x. x.slot ≡ p → ⊥) L
            nobody = all_weaker (λ x. of_slot p x ≡ false) (λ x. x.slot ≡ p → ⊥) L (none_all (of_slot p) L h) (λ x e. eqb-false x.slot p e)

            no_key_lem : has_entry (has_key (filler_key p)) L ≡ false
            no_key_lem = has_none (λ x. (own x ≡ true) ⊎ Filler p x) (has_key (filler_key p)) L m.fills
                (λ x o t. let (g, e) = told_filler p p x o (same_key_lem x.key (filler_key p) t) in omega (arith, g.below))

            only_filler : (x : Entry) → x.key.sender ≡ s → only own (x ∷ []) ≡ []
            only_filler x e = only_out own x (rw (eq-eqb x.key.sender s e))

            as_touched : (x : Entry) → (own x ≡ true) ⊎ Filler (suc p) x → (own (touched p 0 x) ≡ true) ⊎ Filler (suc p) (touched p 0 x)
            as_touched x o =
                ⊎_elim (λ (h : own x ≡ true). inl h) (λ (f : Filler (suc p) x). inr (record { key = f.key; below = f.below; total = f.total; number = f.number })) o

            go : (j : ℕ) → j < suc p → tests.Same j p → has_entry (of_slot j) (touch p 0 L ++ new_entry n k L blank (filler_key p) 2 1 [] p ∷ []) ≡ true
            go j b (tests.same e q) = snoc_new (of_slot j) (touch p 0 L) (new_entry n k L blank (filler_key p) 2 1 [] p) (eq-eqb p j (sym q))
            go j b (tests.other e ne) =
                snoc_old (of_slot j) (touch p 0 L) (new_entry n k L blank (filler_key p) 2 1 [] p) (has_same (of_slot j) (λ x. refl) (touch p 0 L) L (touched_bares p 0 L) ∙ used j (omega arith))

    fill : (d p i : ℕ) → p + d ≡ i → i < n → (P L : List Entry) → Filled p P L → ((j : ℕ) → j < p → has_entry (of_slot j) L ≡ true)
        → (M : List Entry) × Filled i P M × ((j : ℕ) → j < i → has_entry (of_slot j) M ≡ true)
    fill zero p i e l P L m used =
        let q : p ≡ i = omega arith in
        subst (λ (z : ℕ). (M : List Entry) × Filled z P M × ((j : ℕ) → j < z → has_entry (of_slot j) M ≡ true)) q (L, m, used)
    fill (suc d) p i e l P L m used = let (M, m', used') = fill_one p (omega arith) P L m used in fill d (suc p) i (omega arith) l P M m' used'

    -- ---- the part that opens its series
    opening : (P : List Entry) (e : Entry) → Next s P e → has_entry (of_slot e.slot) P ≡ false → (L : List Entry) → Filled e.slot P L → ((j : ℕ) → j < e.slot → has_entry (of_slot j) L ≡ true)
        → (M : List Entry) × Filled e.slot (P ++ e ∷ []) M
    opening P e a empty L m used = (
      touch i 0 L ++ f ∷ [],
      record {
        reach = reach_part n good k lent long L m.reach e.key e.total e.number e.octets a.brought (touch i 0 L ++ f ∷ [])
            (opens_log n k L blank e.key e.total e.number e.octets i no_key_lem (free_hit L n 0 i (omega arith) (omega (arith, a.inside)) no_slot (λ j b c. used j c))
            ∙ ap (λ (z : List Entry). touch i 0 z ++ f ∷ []) (without_none i L nobody));
        shape = ap bares (only_more own (touch i 0 L) (f ∷ []) ∙ ap (λ (z : List Entry). only own (touch i 0 L) ++ z) (only_in own f f_own) ∙ ap (λ (z : List Entry). z ++ f ∷ []) (only_noted (rank_now i 0) (count_now i 0) own (λ e. refl) L))
            ∙ bares_more (touch i 0 (only own L)) (f ∷ []) ∙ ap (λ (z : List Entry). z ++ bare f ∷ []) (touched_bares i 0 (only own L) ∙ m.shape)
            ∙ ap (λ (z : Entry). bares P ++ z ∷ []) (new_bare e L i refl a.long_as) ∙ sym (bares_more P (e ∷ []));
        zeros = all_snoc (λ x. x.beats ≡ 0) (touch i 0 L) f (touched_zero i 0 L m.zeros) refl;
        fills = all_snoc (λ x. (own x ≡ true) ⊎ Filler i x) (touch i 0 L) f
            (all_map (λ x. (own x ≡ true) ⊎ Filler i x) (λ x. (own x ≡ true) ⊎ Filler i x) (touched i 0) L m.fills as_touched) (inl f_own);
      },
    )
      where
        i : ℕ
        i = e.slot

        f : Entry
        f = new_entry n k L blank e.key e.total e.number e.octets e.slot

        f_own : own (new_entry n k L blank e.key e.total e.number e.octets e.slot) ≡ true
        f_own = rw (ne_eqb e.key.sender s a.strange)

        as_touched : (x : Entry) → (own x ≡ true) ⊎ Filler e.slot x → (own (touched e.slot 0 x) ≡ true) ⊎ Filler e.slot (touched e.slot 0 x)
        as_touched x o =
            ⊎_elim (λ (h : own x ≡ true). inl h)
            (λ (g : Filler e.slot x). inr (record { key = g.key; below = g.below; total = g.total; number = g.number })) o

        -- no entry is of its slot, and none has its key
        Far : Entry → Type 0
        Far x = (x.slot ≡ e.slot → ⊥) × (x.key ≡ e.key → ⊥)

        far_P : All (λ x. (x.slot ≡ e.slot → ⊥) × (x.key ≡ e.key → ⊥)) P
        far_P = all_weaker (λ x. Apart e x × (of_slot e.slot x ≡ false)) (λ x. (x.slot ≡ e.slot → ⊥) × (x.key ≡ e.key → ⊥)) P
            (all_and (Apart e) (λ x. of_slot e.slot x ≡ false) P a.apart (none_all (of_slot e.slot) P empty))
            (λ x q. (eqb-false x.slot e.slot q.1, λ z. eqb-false x.slot e.slot q.1 (q.0.other_key z)))

        far : All (λ x. (x.slot ≡ e.slot → ⊥) × (x.key ≡ e.key → ⊥)) L
        far = all_weaker (λ x. (own x ≡ true → (x.slot ≡ e.slot → ⊥) × (x.key ≡ e.key → ⊥)) × ((own x ≡ true) ⊎ Filler e.slot x)) (λ x. (x.slot ≡ e.slot → ⊥) × (x.key ≡ e.key → ⊥)) L
            (all_and (λ x. own x ≡ true → (x.slot ≡ e.slot → ⊥) × (x.key ≡ e.key → ⊥)) (λ x. (own x ≡ true) ⊎ Filler e.slot x) L
            (all_of_only (λ x. (x.slot ≡ e.slot → ⊥) × (x.key ≡ e.key → ⊥)) own L (all_same (λ x. (x.slot ≡ e.slot → ⊥) × (x.key ≡ e.key → ⊥)) (λ x q. q) (λ x q. q) P (only own L) (sym m.shape) far_P)) m.fills)
            (λ x q. ⊎_elim (λ (h : own x ≡ true). q.0 h)
            (λ (g : Filler e.slot x). ((λ z. omega (arith, g.below)), (λ z. a.strange (ap (λ (y : Key). y.sender) (sym z ∙ g.key))))) q.1)

        nobody : All (λ x. x.slot ≡ e.slot → ⊥) L
        nobody = all_weaker (λ x. (x.slot ≡ e.slot → ⊥) × (x.key ≡ e.key → ⊥)) (λ x. x.slot ≡ e.slot → ⊥) L far (λ x q. q.0)

        no_slot : has_entry (of_slot e.slot) L ≡ false
        no_slot = has_none (λ x. x.slot ≡ e.slot → ⊥) (of_slot e.slot) L nobody (λ x q t. q (eqb-true x.slot e.slot t))

        no_key_lem : has_entry (has_key e.key) L ≡ false
        no_key_lem = has_none (λ x. (x.slot ≡ e.slot → ⊥) × (x.key ≡ e.key → ⊥)) (has_key e.key) L far (λ x q t. q.1 (same_key_lem x.key e.key t))

    -- ---- the fillers are finished
    finish_one : (q : ℕ) → q < n → (P L : List Entry) → Filled (suc q) P L → (M : List Entry) × Filled q P M
    finish_one q l P L m = by_test (has_entry (has_key (filler_key q)) L) there gone
      where
        -- a filler of another slot
        lower : (x : Entry) → (x.slot ≡ q → ⊥) → (own x ≡ true) ⊎ Filler (suc q) x → (own x ≡ true) ⊎ Filler q x
        lower x ne o = ⊎_elim (λ (h : own x ≡ true). inl h) (λ (f : Filler (suc q) x). inr (record { key = f.key; below = strict f.below; total = f.total; number = f.number })) o
          where
            strict : x.slot < suc q → x.slot < q
            strict b = omega arith

        gone : has_entry (has_key (filler_key q)) L ≡ false → (M : List Entry) × Filled q P M
        gone h = (
          L,
          record {
            reach = m.reach;
            shape = m.shape;
            zeros = m.zeros;
            fills = all_weaker (λ x. (has_key (filler_key q) x ≡ false) × ((own x ≡ true) ⊎ Filler (suc q) x)) (λ x. (own x ≡ true) ⊎ Filler q x) L
                (all_and (λ x. has_key (filler_key q) x ≡ false) (λ x. (own x ≡ true) ⊎ Filler (suc q) x) L (none_all (has_key (filler_key q)) L h) m.fills) (λ x o. by x o.0 o.1);
          },
        )
          where
            by : (x : Entry) → has_key (filler_key q) x ≡ false → (own x ≡ true) ⊎ Filler (suc q) x → (own x ≡ true) ⊎ Filler q x
            by x h o =
                ⊎_elim (λ (p : own x ≡ true). inl p)
                (λ (f : Filler (suc q) x). lower x (λ e. clash (has_key (filler_key q) x) (key_same x.key (filler_key q) (f.key ∙ ap filler_key e)) h) (inr f)) o

        there : has_entry (has_key (filler_key q)) L ≡ true → (M : List Entry) × Filled q P M
        there h =
            let (x, found) = some_first (has_key (filler_key q)) L h in
            let (o, t) = first_tells (λ x. (own x ≡ true) ⊎ Filler (suc q) x) (has_key (filler_key q)) L m.fills x found in
            let (f, e) = told_filler (suc q) q x o (same_key_lem x.key (filler_key q) t) in
            let (xs, cells, w, same) = known n good k lent long L m.reach in
            let (g, t') = first_tells (Fits n xs cells) (has_key (filler_key q)) L same.each x found in
            -- what has its slot is a filler
            let mine : All (λ y. y.slot ≡ x.slot → (own y ≡ false) × (y.number ≡ 1)) L =
            all_weaker (λ y. Fits n xs cells y × ((own y ≡ true) ⊎ Filler (suc q) y)) (λ y. y.slot ≡ x.slot → (own y ≡ false) × (y.number ≡ 1)) L
            (all_and (Fits n xs cells) (λ y. (own y ≡ true) ⊎ Filler (suc q) y) L same.each m.fills)
            (λ y p z. let (d, r) = told_filler (suc q) q y p.1 (sym p.0.key ∙ ap (λ (j : ℕ). (slot_at xs j).key) z ∙ g.key ∙ same_key_lem x.key (filler_key q) t) in (not_own (suc q) y d, d.number)) in
            let no_second : has_entry (is_part x.slot 2) L ≡ false = has_none (λ y. y.slot ≡ x.slot → (own y ≡ false) × (y.number ≡ 1)) (is_part x.slot 2) L mine (λ y p z. let (a, b) = is_part_lem x.slot 2 y z in omega (arith, (p a).1)) in
            let one : has_entry (is_part x.slot 1) L ≡ true =
            has_more (λ y. (own y ≡ true) ⊎ Filler (suc q) y) (has_key (filler_key q)) (is_part x.slot 1) L m.fills
            (λ y p z. let (d, r) = told_filler (suc q) q y p (same_key_lem y.key (filler_key q) z) in part_is x.slot 1 y (r ∙ sym e) d.number) h in
            let M : List Entry = close x.rank (without x.slot L) in (
              close x.rank (without x.slot L),
              record {
                reach = reach_part n good k lent long L m.reach (filler_key q) 2 2 [] (filler_brought q 2 l (omega arith) (omega arith)) (close x.rank (without x.slot L))
                    (finishes_log n k L blank (filler_key q) 2 2 [] x found (eq-eqb x.total 2 f.total) no_second (both_parts x.slot L one));
                shape = ap bares (only_noted (λ y. closed x.rank y.rank) (λ y. y.beats) own (λ y. refl) (without x.slot L)) ∙ bare_noted (λ y. closed x.rank y.rank) (λ y. y.beats) (only own (without x.slot L))
                    ∙ ap bares (only_twice own (λ y. not (of_slot x.slot y)) L
                    (all_weaker (λ y. y.slot ≡ x.slot → (own y ≡ false) × (y.number ≡ 1)) (λ y. not (of_slot x.slot y) ≡ false → own y ≡ false) L mine (λ y p z. (p (eqb-true y.slot x.slot (not-false (of_slot x.slot y) z))).0)))
                    ∙ m.shape;
                zeros = all_map (λ y. (y.beats ≡ 0) × (not (of_slot x.slot y) ≡ true)) (λ y. y.beats ≡ 0) (moved_up x.rank) (without x.slot L) (all_only (λ y. y.beats ≡ 0) (λ y. not (of_slot x.slot y)) L m.zeros) (λ y p. p.0);
                fills = all_map (λ y. ((own y ≡ true) ⊎ Filler (suc q) y) × (not (of_slot x.slot y) ≡ true)) (λ y. (own y ≡ true) ⊎ Filler q y) (moved_up x.rank) (without x.slot L)
                    (all_only (λ y. (own y ≡ true) ⊎ Filler (suc q) y) (λ y. not (of_slot x.slot y)) L m.fills) (λ y p. as_moved x y (lower y (λ z. not_of x.slot y p.1 (z ∙ sym e)) p.0));
              },
            )
          where
            as_moved : (x y : Entry) → (own y ≡ true) ⊎ Filler q y → (own (moved_up x.rank y) ≡ true) ⊎ Filler q (moved_up x.rank y)
            as_moved x y o =
                ⊎_elim (λ (h : own y ≡ true). inl h) (λ (f : Filler q y). inr (record { key = f.key; below = f.below; total = f.total; number = f.number })) o

    finish : (p : ℕ) → p ≤ n → (P L : List Entry) → Filled p P L → (M : List Entry) × Filled 0 P M
    finish zero l P L m = (L, m)
    finish (suc p) l P L m = let (M, m') = finish_one p (omega arith) P L m in finish p (omega arith) P M m'

    -- ---- one entry more
    more : (P : List Entry) (e : Entry) → Next s P e → (L : List Entry) → Built P L → (M : List Entry) × Built (P ++ e ∷ []) M
    more P e a L m = by_test (has_entry (of_slot e.slot) P) (keep s P e a L m) open_it
      where
        strange_L : All (λ x. own x ≡ true) L
        strange_L =
            all_weaker (λ x. x.key.sender ≡ s → ⊥) (λ x. own x ≡ true) L (all_same (λ x. x.key.sender ≡ s → ⊥) (λ x q. q) (λ x q. q) P L (sym m.shape) a.strangers) (λ x ne. rw (ne_eqb x.key.sender s ne))

        plain_again : (M : List Entry) → Filled 0 (P ++ e ∷ []) M → Built (P ++ e ∷ []) M
        plain_again M f = record {
          reach = f.reach;
          shape = ap bares (sym (only_all own M (all_weaker (λ x. (own x ≡ true) ⊎ Filler 0 x) (λ x. own x ≡ true) M f.fills
              (λ x o. ⊎_elim (λ (h : own x ≡ true). h) (λ (g : Filler 0 x). absurd (omega (arith, g.below))) o)))) ∙ f.shape;
          zeros = f.zeros;
        }

        open_it : has_entry (of_slot e.slot) P ≡ false → (M : List Entry) × Built (P ++ e ∷ []) M
        open_it empty =
            let begin : Filled 0 P L = record {
              reach = m.reach;
              shape = ap bares (only_all own L strange_L) ∙ m.shape;
              zeros = m.zeros;
              fills = all_weaker (λ x. own x ≡ true) (λ x. (own x ≡ true) ⊎ Filler 0 x) L strange_L (λ x h. inl h);
            } in
            let (L₁, m₁, used) = fill e.slot 0 e.slot (omega arith) a.inside P L begin (λ j b. absurd (omega arith)) in
            let (L₂, m₂) = opening P e a empty L₁ m₁ used in
            let (L₃, m₃) = finish e.slot (omega (arith, a.inside)) (P ++ e ∷ []) L₂ m₂ in
            (L₃, plain_again L₃ m₃)

    -- ---- all of them
    pub grow : (S P L : List Entry) → Built P L → ((Q : List Entry) (e : Entry) (R : List Entry) → P ++ S ≡ Q ++ e ∷ R → Next s Q e) → (M : List Entry) × Built (P ++ S) M
    grow [] P L m next = (L, subst (λ (Q : List Entry). Built Q L) (sym (append-nil P)) m)
    grow (e ∷ S) P L m next =
        let (M, m') = more P e (next P e S refl) L m in
        let same : (P ++ e ∷ []) ++ S ≡ P ++ e ∷ S = append_assoc P (e ∷ []) S in
        let (N, m'') = grow S (P ++ e ∷ []) M m' (λ Q f R q. next Q f R (sym same ∙ q)) in
        (N, subst (λ (Q : List Entry). Built Q N) same m'')
