-- Where the parts of one key go: for a key and a total there is one slot, told from the record alone, in which a part is kept or held. A part brought to
-- it comes to the front with that part, whether it was kept or held already; two parts of different numbers do not see one another.
use Prim.Native.Nat.{ℕ, ◌+◌, ◌-◌, ◌≤◌, ◌<◌}
use mathlib.Core.Path.{◌≡◌, refl, sym, ap, ◌∙◌, subst}
use mathlib.Core.Bool.{Bool, true, false, not, cond, ◌&&◌, ◌||◌}
use mathlib.Core.Logic.{inr}
use mathlib.Core.List.{List, []}
use mathlib.Core.Option.{Option, none, some}
use native.Mathlib.Omega.{arith}
use lib.ListN.{length, set, take, drop, length-drop, length-replicate, get_or-replicate}
use lib.Seq.{get_or-set_same, get_or-set_other, set-get_or, set_comm, length-take-le}
use lib.Dec.{ltb}
use borrow.Author.Tests.{eq-eqb, ne_eqb, eqb-false, ltb-true, ltb-false, not-true}
use Rattle.octets.specs.Octets.{placed, same_octets}
use Rattle.octets.specs.Laws.{same_true, same_self}
use Rattle.octets.specs.Tests.{clash, both, Same, same, other, same?}
use Rattle.types.specs.declared.Kind.{Kind}
use Rattle.types.specs.Refusals as reading
use Rattle.types.specs.declared.Key.{Key}
use Rattle.arrival.specs.Arrivals.{part}
use Rattle.types.specs.declared.Slot.{Slot}
use Rattle.types.specs.declared.Record.{Record}
use Rattle.arrival.specs.Message.{most_parts}
use Rattle.arrival.specs.Keys.{of_pages}
use Rattle.arrival.specs.Laws.{Admitted}
use Rattle.joined.specs.Fronts.{packet_in}
use Rattle.slots.specs.Slots.{slot_at, opened, used, same_key, bears, is_free, find_in, is_least_recent, slot_or, least_recent, held_at, length_at, with_part, at_front, to_front, freed, with_slots}
use Rattle.slots.specs.RankLaws.{pos_taken, last_rank_lem}
use Rattle.slots.specs.FrontLaws.{front_here, same_key_lem, key_same, FoundIn, hit_in, miss_in, find_in?}
use Rattle.formed.specs.Formed.{mark_at}
use Rattle.formed.specs.Laws.{Formed, slot_tells, array_holds}
use Rattle.cells.specs.Cells.{cell_octets, cell_at, cell_part, joined_octets}
use Rattle.cells.specs.CellLaws.{cell_inside, cell_here, cell_there}
use Rattle.series.specs.CaseLaws.{Bears}
use Rattle.series.specs.PartLaws.{total_bounds, ready_opened}
use Rattle.series.specs.KeepLaws.{short}
use Rattle.series.proofs.KeepsFormed.{part_sound, taken_kind}
use Rattle.series.specs.Taking.{State, After, Answer, kept, held_already, packet, refused_by, state, after, hand_out, Step, refuses, repeats, keeps, finishes, completes, step, acted, take_part}
use Rattle.series.specs.KeepLaws.{length_short}
use Rattle.sequences.specs.Runs.{Store, left}
use Rattle.shuffles.specs.Shuffled.{not_complete, unmarked, repeated}
use Rattle.sequences.proofs.Calls.{Kept}
use Rattle.shuffles.proofs.Overwritten.{placed_apart, placed_there, front_more, Missing, missing_told, missing_open}

-- ---- an answer that names a slot names this one, and one that says "kept" has this mark
abbrev pub Said : ℕ → Bool → Answer → Type 0
Said slot mark a = elim a [ kept i d ↦ (i ≡ slot) × (d ≡ mark) | held_already i ↦ i ≡ slot | packet m ↦ Unit {0} | refused_by m ↦ Unit {0} ]

-- ---- one key, one total
module _ (n : ℕ) (k : Kind) (K : Key) (t : ℕ) where
  abbrev pub asked : Store → List ℕ → ℕ → List ℕ → After
  asked st output m o = take_part n (state st.rec st.cells output) K t m o

  -- a part that reading admits
  abbrev pub IsPart : ℕ → List ℕ → Type 0
  IsPart m o = Admitted k K t m o

  high : (m : ℕ) (o : List ℕ) → IsPart m o → m ≤ most_parts
  high m o p = omega (arith, p.high, total_bounds K t p.total_fits)

  -- slot i, of which x is the entry, comes to the front with the part
  abbrev pub put : Store → ℕ → Slot → ℕ → List ℕ → Store
  put st i x m o =
      record { rec = with_slots st.rec (to_front st.rec.slots i (with_part x m (length o))); cells = placed st.cells (cell_at i m) o }

  -- the slot afterwards
  abbrev with_it : Slot → ℕ → List ℕ → Slot
  with_it x m o = at_front (with_part x m (length o))

  abbrev fits : Store → ℕ → Slot → ℕ → List ℕ → Bool
  fits st i x m o = same_octets (cell_part st.cells x i m) o

  -- held with other octets; and not completing the series
  abbrev stuck : Store → ℕ → Slot → ℕ → List ℕ → Bool
  stuck st i x m o = held_at x m && not (fits st i x m o)

  abbrev open' : Slot → ℕ → Bool
  open' x m = held_at x m || not (completes x m)

  -- what a part does that does not complete the series: its answer, and what is left
  abbrev reply : Store → ℕ → Bool → Slot → ℕ → List ℕ → Answer
  reply st i d x m o = cond (held_at x m) (cond (fits st i x m o) (held_already i) (refused_by 8)) (kept i d)

  abbrev leaves : Store → ℕ → Slot → ℕ → List ℕ → Store
  leaves st i x m o = cond (stuck st i x m o) st (put st i x m o)

  abbrev step_as : Store → ℕ → Bool → Slot → ℕ → List ℕ → Step
  step_as st i d x m o = cond (held_at x m) (cond (fits st i x m o) (repeats i) (refuses 8)) (cond (completes x m) (finishes i) (keeps i d x))

  -- parts of the key go to slot i, whose entry before is x; d says whether another series is displaced
  pub record Seat (st : Store) (i : ℕ) (d : Bool) (x : Slot) : Type 0 where
    pub inside : i < n
    pub key : x.key ≡ K
    pub total : x.total ≡ t
    pub lengths : length x.lengths ≡ most_parts
    pub marks : length x.held ≡ most_parts
    pub small : (m : ℕ) → 1 ≤ m → m ≤ most_parts → length_at x m ≤ cell_octets
    pub steps : (output : List ℕ) (m : ℕ) (o : List ℕ) → IsPart m o → step n (state st.rec st.cells output) K t m o ≡ step_as st i d x m o
    pub stands : (m : ℕ) → 1 ≤ m → m ≤ most_parts → held_at x m ≡ true → (slot_at st.rec.slots i ≡ x) × (d ≡ false)

  -- the key is held with another total, or its parts have a slot
  pub data Seats (st : Store) : Type 0 where
    shut : ((output : List ℕ) (m : ℕ) (o : List ℕ) → asked st output m o ≡ after (refused_by 7) st.rec st.cells output) → Seats st
    seated : (i : ℕ) (d : Bool) (x : Slot) → Seat st i d x → Seats st

  module _ (st : Store) (w : Kept n k st) where
    abbrev xs : List Slot
    xs = st.rec.slots

    formed : Formed n k xs
    formed = subst (λ (z : Kind). Formed n z xs) w.kind w.sound.formed

    enough : n ≤ length xs
    enough = array_holds n k xs formed

    -- a slot that bears the key is found
    found_is : (i : ℕ) → Bears n xs K i → (r : Option ℕ) → FoundIn n (bears K) xs r → r ≡ some i
    found_is i b r (hit_in j l e f) =
        let (u, q) = both (used (slot_at xs j)) (same_key (slot_at xs j).key K) e in
        ap some (formed.keys j i l b.inside (pos_taken (slot_at xs j).rank u) b.used (same_key_lem (slot_at xs j).key K q ∙ sym b.key))
    found_is i b r (miss_in f) =
        absurd (clash (bears K (slot_at xs i)) (rw (ne_eqb (slot_at xs i).rank 0 (λ z. omega (arith, b.used)), key_same (slot_at xs i).key K b.key)) (f i b.inside))

    there : (i : ℕ) → Bears n xs K i → (slot_at xs i).total ≡ t → Seat st i false (slot_at xs i)
    unfolding step
    there i b e =
        let u = slot_tells k (slot_at xs i) (formed.slots i b.inside) b.used in
        record {
          inside = b.inside;
          key = b.key;
          total = e;
          lengths = u.lengths;
          marks = u.marks;
          small = length_short k (slot_at xs i) u;
          steps = λ output m o p. rw (found_is i b (find_in n (bears K) xs) (find_in? n (bears K) xs enough), eq-eqb (slot_at xs i).total t e);
          stands = λ m l h e. (refl, refl);
        }

    -- a series that is opened: a part of it is neither held nor the last
    new : (i : ℕ) (d : Bool) → i < n
        → ((output : List ℕ) (m : ℕ) (o : List ℕ) → step n (state st.rec st.cells output) K t m o ≡ keeps i d (opened K t)) → Seat st i d (opened K t)
    new i d l is = record {
      inside = l;
      key = refl;
      total = refl;
      lengths = length-replicate {A = ℕ} most_parts 0;
      marks = length-replicate most_parts false;
      small = λ m a b. omega (arith, get_or-replicate {A = ℕ} most_parts (m - 1) 0 0 (omega arith));
      steps = λ output m o p. is output m o ∙ sym (rw (none_held m p.low (high m o p), missing_open (opened K t) m (lacking m o p)));
      stands = λ m a b e. absurd (clash (held_at (opened K t) m) e (none_held m a b));
    }
      where
        none_held : (m : ℕ) → 1 ≤ m → m ≤ most_parts → held_at (opened K t) m ≡ false
        none_held m a b = get_or-replicate most_parts (m - 1) false false (omega arith)

        lacking : (m : ℕ) (o : List ℕ) → IsPart m o → Missing (opened K t) m
        lacking m o p =
            let (j, l, e, ne) = (ready_opened k K t m p.key_formed p.total_fits p.low p.high).missing in
            record { place = j; below = l; empty = e; apart = ne }

    pub seats? : Seats st
    unfolding step take_part
    seats? = go (find_in n (bears K) xs) refl (find_in? n (bears K) xs enough)
      where
        last_used : ((j : ℕ) → j < n → is_free (slot_at xs j) ≡ false) → (r : Option ℕ) → FoundIn n (is_least_recent n) xs r → slot_or 0 r < n
        last_used f r (hit_in i l e g) = l
        last_used f r (miss_in g) =
            let (i, l, e) = last_rank_lem n (λ j. (slot_at xs j).rank) formed.ranks formed.low (λ j l. let ne = eqb-false (slot_at xs j).rank 0 (f j l) in omega arith) in
            absurd (eqb-false (slot_at xs i).rank n (g i l) e)

        go_new : find_in n (bears K) xs ≡ none → (r : Option ℕ) → find_in n is_free xs ≡ r → FoundIn n is_free xs r → Seats st
        go_new q r e (hit_in i l u f) = seated i false (opened K t) (new i false l (λ output m o. rw (q, e)))
        go_new q r e (miss_in f) =
            seated (least_recent n xs) true (opened K t)
            (new (least_recent n xs) true (last_used f (find_in n (is_least_recent n) xs) (find_in? n (is_least_recent n) xs enough)) (λ output m o. rw (q, e)))

        go_total : (i : ℕ) → find_in n (bears K) xs ≡ some i → Bears n xs K i → Same (slot_at xs i).total t → Seats st
        go_total i q b (same e p) = seated i false (slot_at xs i) (there i b p)
        go_total i q b (other e p) = shut (λ output m o. rw (q, e))

        go : (r : Option ℕ) → find_in n (bears K) xs ≡ r → FoundIn n (bears K) xs r → Seats st
        go r q (hit_in i l e f) =
            let (u, s) = both (used (slot_at xs i)) (same_key (slot_at xs i).key K) e in
            go_total i q (record { inside = l; used = pos_taken (slot_at xs i).rank u; key = same_key_lem (slot_at xs i).key K s }) (same? (slot_at xs i).total t)
        go r q (miss_in f) = go_new q (find_in n is_free xs) refl (find_in? n is_free xs enough)

    -- a part that is kept has the total of the slot that bears its key
    pub kept_total : (i : ℕ) → Bears n xs K i → (output : List ℕ) (m : ℕ) (o : List ℕ) (j : ℕ) (d : Bool) → (asked st output m o).answer ≡ kept j d → (slot_at xs i).total ≡ t
    unfolding step take_part
    kept_total i b output m o j d e = go (same? (slot_at xs i).total t)
      where
        go : Same (slot_at xs i).total t → (slot_at xs i).total ≡ t
        go (same f q) = q
        go (other f q) =
            let g : refused_by 7 ≡ kept j d = rw (found_is i b (find_in n (bears K) xs) (find_in? n (bears K) xs enough), f) at e in
            let z : ◌≡◌ {A = ℕ} 0 1 = cc in absurd (omega arith)

    -- a record that is well formed stays so
    pub kept_asked : (output : List ℕ) (m : ℕ) (o : List ℕ) → IsPart m o → Kept n k (left (asked st output m o))
    kept_asked output m o p =
        let s : State = state st.rec st.cells output in record {
          kind = taken_kind n s false o (reading.gives (part K t m 0)) ∙ w.kind;
          sound = part_sound n s w.sound K t m o (subst (λ (z : Kind). Admitted z K t m o) (sym w.kind) p);
        }

  handed_ends : (s : State) (r : Record) (p : Option (List ℕ)) → not_complete (hand_out s r p).answer ≡ false
  handed_ends s r none = refl
  handed_ends s r (some p) = refl

  -- ---- what a part does that has a slot
  module _ (st : Store) (w : Kept n k st) (i : ℕ) (d : Bool) (x : Slot) (seat : Seat st i d x) where
    module _ (m : ℕ) (o : List ℕ) (p : IsPart m o) where
      room : cell_at i m + cell_octets ≤ length st.cells
      room = omega (arith, cell_inside n i m seat.inside p.low (high m o p), w.sound.size)

      brief : length o ≤ cell_octets
      brief = short K m (length o) p.length_fits

      -- a part that is held with its octets is put where it is
      put_held : held_at x m ≡ true → fits st i x m o ≡ true
          → put st i x m o ≡ record { rec = with_slots st.rec (to_front st.rec.slots i (slot_at st.rec.slots i)); cells = st.cells }
      unfolding cell_part
      put_held h f =
          let e : take (length_at x m) (drop (cell_at i m) st.cells) ≡ o = same_true (cell_part st.cells x i m) o f in
          let small : length_at x m ≤ cell_octets = seat.small m p.low (high m o p) in
          let l : length o ≡ length_at x m = ap length (sym e) ∙ length-take-le (length_at x m) (drop (cell_at i m) st.cells) (simp length-drop (omega (arith, room))) in
          let ls : set x.lengths (m - 1) (length o) ≡ x.lengths = ap (set x.lengths (m - 1)) l ∙ set-get_or x.lengths (m - 1) 0 in
          let hs : set x.held (m - 1) true ≡ x.held = ap (set x.held (m - 1)) (sym h) ∙ set-get_or x.held (m - 1) false in
          let y : with_part x m (length o) ≡ x = λ j. record { rank = x.rank; beats = x.beats; key = x.key; total = x.total; lengths = ls j; held = hs j } in
          let z : with_part x m (length o) ≡ slot_at st.rec.slots i = y ∙ sym (seat.stands m p.low (high m o p) h).0 in
          let c : placed st.cells (cell_at i m) o ≡ st.cells = ap (placed st.cells (cell_at i m)) (sym e) ∙ placed_there st.cells (cell_at i m) (length_at x m) (omega (arith, room)) in
          λ j. record { rec = with_slots st.rec (to_front st.rec.slots i (z j)); cells = c j }

      pub ok_is : (output : List ℕ) → not_complete (asked st output m o).answer ≡ open' x m
      unfolding take_part
      ok_is output = rw (seat.steps output m o p) (go (held_at x m) (fits st i x m o) (completes x m))
        where
          go : (h f c : Bool) → not_complete (acted n (state st.rec st.cells output) K t m o (cond h (cond f (repeats i) (refuses 8)) (cond c (finishes i) (keeps i d x)))).answer ≡ h || not c
          go true true c = refl
          go true false c = refl
          go false f true =
              handed_ends (state st.rec st.cells output) (with_slots st.rec (freed st.rec.slots i))
              (packet_in st.rec.kind (of_pages K) t (joined_octets st.cells (slot_at st.rec.slots i) i m o))
          go false f false = refl

      pub does : (output : List ℕ) → open' x m ≡ true
          → asked st output m o ≡ after (reply st i d x m o) (leaves st i x m o).rec (leaves st i x m o).cells output
      unfolding take_part
      does output op = rw (seat.steps output m o p) (go (held_at x m) refl (fits st i x m o) refl (completes x m) refl)
        where
          go : (h : Bool) → held_at x m ≡ h → (f : Bool) → fits st i x m o ≡ f → (c : Bool) → completes x m ≡ c
              → acted n (state st.rec st.cells output) K t m o (cond h (cond f (repeats i) (refuses 8)) (cond c (finishes i) (keeps i d x)))
              ≡ after (cond h (cond f (held_already i) (refused_by 8)) (kept i d)) (cond (h && not f) st (put st i x m o)).rec (cond (h && not f) st (put st i x m o)).cells output
          go true e true f c q = ap (λ (z : Store). after (held_already i) z.rec z.cells output) (sym (put_held e f))
          go true e false f c q = refl
          go false e f g true q = absurd (clash false (simp (e, q) at op) refl)
          go false e f g false q = refl

      abbrev x' : Slot
      x' = with_it x m o

      here : slot_at (to_front st.rec.slots i (with_part x m (length o))) i ≡ x'
      here = front_here st.rec.slots i (with_part x m (length o)) (omega (arith, enough st w, seat.inside))

      pub bears_put : Bears n (put st i x m o).rec.slots K i
      bears_put = record { inside = seat.inside; used = omega (arith, ap (λ (z : Slot). z.rank) here); key = ap (λ (z : Slot). z.key) here ∙ seat.key }

      total_put : (slot_at (put st i x m o).rec.slots i).total ≡ t
      total_put = ap (λ (z : Slot). z.total) here ∙ seat.total

      pub seat_put : Kept n k (put st i x m o) → Seat (put st i x m o) i false x'
      seat_put v = subst (λ (z : Slot). Seat (put st i x m o) i false z) here (there (put st i x m o) v i bears_put total_put)

      held_here : held_at x' m ≡ true
      held_here = get_or-set_same x.held (m - 1) true false (omega (arith, seat.marks, high m o p, p.low))

      fits_here : fits (put st i x m o) i x' m o ≡ true
      fits_here =
          rw (cell_here n st.cells w.sound.size i m seat.inside p.low (high m o p) o brief x' (get_or-set_same x.lengths (m - 1) (length o) 0 (omega (arith, seat.lengths, high m o p, p.low))))
          (same_self o)

      module _ (b : ℕ) (q : List ℕ) (r : IsPart b q) (ne : b ≡ m → ⊥) where
        held_there : held_at x' b ≡ held_at x b
        held_there = get_or-set_other x.held (m - 1) (b - 1) true false (λ e. ne (omega (arith, p.low, r.low)))

        fits_there : fits (put st i x m o) i x' b q ≡ fits st i x b q
        fits_there =
            ap (λ (z : List ℕ). same_octets z q)
            (cell_there n st.cells w.sound.size i m seat.inside p.low (high m o p) o brief x' x i b r.low (high b q r)
            (get_or-set_other x.lengths (m - 1) (b - 1) (length o) 0 (λ e. ne (omega (arith, p.low, r.low)))) (seat.small b r.low (high b q r)) (inr ne))

      -- a place that is empty now was, and is none of this part
      mark_more : (j : ℕ) → mark_at x' j ≡ false → (mark_at x j ≡ false) × (j + 1 ≡ m → ⊥)
      mark_more j e = go (same? j (m - 1))
        where
          go : Same j (m - 1) → (mark_at x j ≡ false) × (j + 1 ≡ m → ⊥)
          go (same f q) = absurd (clash (mark_at x' j) (ap (mark_at x') q ∙ held_here) e)
          go (other f q) = (sym (get_or-set_other x.held (m - 1) j true false q) ∙ e, λ z. q (omega arith))

      mark_less : (j : ℕ) → mark_at x j ≡ false → (j + 1 ≡ m → ⊥) → mark_at x' j ≡ false
      mark_less j e ne = get_or-set_other x.held (m - 1) j true false (λ z. ne (omega (arith, p.low))) ∙ e

      next_is : open' x m ≡ true → left (asked st [] m o) ≡ leaves st i x m o
      next_is op = ap (λ (a : After). left a) (does [] op)

      kept_put : open' x m ≡ true → stuck st i x m o ≡ false → Kept n k (put st i x m o)
      kept_put op free' = subst (λ (z : Store). Kept n k z) (next_is op ∙ rw free') (kept_asked st w [] m o p)

    -- ---- two parts of different numbers
    module _ (a : ℕ) (oa : List ℕ) (pa : IsPart a oa) (b : ℕ) (ob : List ℕ) (pb : IsPart b ob) (ne : a ≡ b → ⊥) where
      abbrev xa : Slot
      xa = with_it x a oa

      abbrev xb : Slot
      xb = with_it x b ob

      -- A place other than those of both stays empty in whatever order they come.
      open_back : held_at xa b || not (completes xa b) ≡ true → open' x b ≡ true
      open_back op = go (held_at x b) refl
        where
          go : (h : Bool) → held_at x b ≡ h → h || not (completes x b) ≡ true
          go true e = refl
          go false e =
              let l = missing_told xa b (not-true (completes xa b) (simp (held_there a oa pa b ob pb (λ z. ne (sym z)), e) at op)) in
              ap not (missing_open x b (record { place = l.place; below = l.below; empty = (mark_more a oa pa l.place l.empty).0; apart = l.apart }))

      open_swap : open' x a ≡ true → held_at xa b || not (completes xa b) ≡ true → held_at xb a || not (completes xb a) ≡ true
      open_swap oa' ob' = rw (held_there b ob pb a oa pa ne) (go (held_at x a) refl (held_at x b) refl)
        where
          empty_now : (j : ℕ) → j < x.total → mark_at x j ≡ false → (j + 1 ≡ a → ⊥) → (j + 1 ≡ b → ⊥) → not (completes xb a) ≡ true
          empty_now j l e na nb = ap not (missing_open xb a (record { place = j; below = l; empty = mark_less b ob pb j e nb; apart = na }))

          go : (h : Bool) → held_at x a ≡ h → (h' : Bool) → held_at x b ≡ h' → h || not (completes xb a) ≡ true
          go true e h' e' = refl
          go false e true e' =
              let l = missing_told x a (not-true (completes x a) (simp e at oa')) in
              empty_now l.place l.below l.empty l.apart
              (λ z. clash (held_at x b) e' (ap (mark_at x) (omega (arith, pb.low)) ∙ l.empty))
          go false e false e' =
              let l = missing_told xa b (not-true (completes xa b) (simp (held_there a oa pa b ob pb (λ z. ne (sym z)), e') at ob')) in
              let (f, na) = mark_more a oa pa l.place l.empty in empty_now l.place l.below f na l.apart

      -- the second after the first: as if it came alone, without a mark
      stuck_there : stuck (put st i x a oa) i xa b ob ≡ stuck st i x b ob
      stuck_there = rw (held_there a oa pa b ob pb (λ z. ne (sym z)), fits_there a oa pa b ob pb (λ z. ne (sym z)))

      put_put : put (put st i x a oa) i xa b ob ≡ put (put st i x b ob) i xb a oa
      put_put =
          let inside : i < length st.rec.slots = omega (arith, enough st w, seat.inside) in
          let apart : a - 1 ≡ b - 1 → ⊥ = λ z. ne (omega (arith, pa.low, pb.low)) in
          let ls = set_comm x.lengths (a - 1) (b - 1) (length oa) (length ob) apart in
          let hs = set_comm x.held (a - 1) (b - 1) true true apart in
          let y : with_part (with_part x a (length oa)) b (length ob) ≡ with_part (with_part x b (length ob)) a (length oa) =
          λ j. record { rank = x.rank; beats = x.beats; key = x.key; total = x.total; lengths = ls j; held = hs j } in
          let slots : to_front (to_front st.rec.slots i (with_part x a (length oa))) i (with_part xa b (length ob)) ≡ to_front (to_front st.rec.slots i (with_part x b (length ob))) i (with_part xb a (length oa)) =
          front_more st.rec.slots i (with_part x a (length oa)) (with_part (with_part x a (length oa)) b (length ob)) (with_part xa b (length ob)) inside refl
          ∙ ap (to_front st.rec.slots i) y
          ∙ sym (front_more st.rec.slots i (with_part x b (length ob)) (with_part (with_part x b (length ob)) a (length oa)) (with_part xb a (length oa)) inside refl) in
          let octets = cells_put (ltb a b) refl in
          λ j. record { rec = with_slots st.rec (slots j); cells = octets j }
        where
          cells_put : (c : Bool) → ltb a b ≡ c
              → placed (placed st.cells (cell_at i a) oa) (cell_at i b) ob ≡ placed (placed st.cells (cell_at i b) ob) (cell_at i a) oa
          cells_put true e =
              placed_apart st.cells (cell_at i a) oa (cell_at i b) ob (omega (arith, ltb-true a b e, pa.low, brief a oa pa)) (omega (arith, room b ob pb, brief b ob pb))
          cells_put false e =
              let l : b ≤ a = ltb-false a b e in
              let m : b < a = less (same? a b) l in
              sym (placed_apart st.cells (cell_at i b) ob (cell_at i a) oa (omega (arith, pb.low, brief b ob pb)) (omega (arith, room a oa pa, brief a oa pa)))
            where
              less : Same a b → b ≤ a → b < a
              less (same f q) l = absurd (ne q)
              less (other f q) l = omega arith

  -- ---- a part that may be brought: it does not complete the series
  abbrev pub next : Store → ℕ → List ℕ → Store
  next st m o = left (asked st [] m o)

  abbrev pub answer_to : Store → ℕ → List ℕ → Answer
  answer_to st m o = (asked st [] m o).answer

  pub record May (st : Store) (m : ℕ) (o : List ℕ) : Type 0 where
    pub store : Kept n k st
    pub is_part_lem : IsPart m o
    pub waiting : not_complete (answer_to st m o) ≡ true

  -- brought again it changes nothing
  pub record Again (st : Store) (m : ℕ) (o : List ℕ) : Type 0 where
    pub still_open : not_complete (answer_to (next st m o) m o) ≡ true
    pub stays_so : next (next st m o) m o ≡ next st m o
    pub answered : answer_to (next st m o) m o ≡ repeated (answer_to st m o)

  -- another part before it and behind it
  pub record Swap (st : Store) (a : ℕ) (oa : List ℕ) (b : ℕ) (ob : List ℕ) : Type 0 where
    pub first : not_complete (answer_to st b ob) ≡ true
    pub second : not_complete (answer_to (next st b ob) a oa) ≡ true
    pub equal : next (next st b ob) a oa ≡ next (next st a oa) b ob
    pub answered : answer_to (next st a oa) b ob ≡ unmarked (answer_to st b ob)

  module _ (st : Store) (w : Kept n k st) (i : ℕ) (d : Bool) (x : Slot) (seat : Seat st i d x) where
    replied : (m : ℕ) (o : List ℕ) (p : IsPart m o) → open' x m ≡ true → answer_to st m o ≡ reply st i d x m o
    replied m o p op = ap (λ (z : After). z.answer) (does st w i d x seat m o p [] op)

    moved : (m : ℕ) (o : List ℕ) (p : IsPart m o) → open' x m ≡ true → (s : Bool) → stuck st i x m o ≡ s → next st m o ≡ cond s st (put st i x m o)
    moved m o p op s e = next_is st w i d x seat m o p op ∙ rw e

    without_mark : (m : ℕ) (o : List ℕ) → unmarked (reply st i d x m o) ≡ reply st i false x m o
    without_mark m o = go (held_at x m) (fits st i x m o)
      where
        go : (h f : Bool) → unmarked (cond h (cond f (held_already i) (refused_by 8)) (kept i d)) ≡ cond h (cond f (held_already i) (refused_by 8)) (kept i false)
        go true true = refl
        go true false = refl
        go false f = refl

    again_seated : (m : ℕ) (o : List ℕ) (p : IsPart m o) → open' x m ≡ true → (s : Bool) → stuck st i x m o ≡ s → Again st m o
    again_seated m o p op true e =
        let nx : next st m o ≡ st = moved m o p op true e in
        let (h, f) = both (held_at x m) (not (fits st i x m o)) e in
        let an : answer_to st m o ≡ refused_by 8 = replied m o p op ∙ rw (h, not-true (fits st i x m o) f) in record {
          still_open = ap (λ (z : Store). not_complete (answer_to z m o)) nx ∙ ap not_complete an;
          stays_so = ap (λ (z : Store). next z m o) nx;
          answered = ap (λ (z : Store). answer_to z m o) nx ∙ an ∙ sym (ap repeated an);
        }
    again_seated m o p op false e =
        let nx : next st m o ≡ put st i x m o = moved m o p op false e in
        let v = kept_put st w i d x seat m o p op e in
        let s' = seat_put st w i d x seat m o p v in
        let h = held_here st w i d x seat m o p in
        let f = fits_here st w i d x seat m o p in
        let op' : open' (with_it x m o) m ≡ true = rw h in
        let an : answer_to (put st i x m o) m o ≡ held_already i = ap (λ (z : After). z.answer) (does (put st i x m o) v i false (with_it x m o) s' m o p [] op') ∙ rw (h, f) in
        let inside : i < length st.rec.slots = omega (arith, enough st w, seat.inside) in
        let ys : to_front (put st i x m o).rec.slots i (slot_at (put st i x m o).rec.slots i) ≡ (put st i x m o).rec.slots =
        ap (to_front (put st i x m o).rec.slots i) (here st w i d x seat m o p)
        ∙ front_more st.rec.slots i (with_part x m (length o)) (with_part x m (length o)) (with_it x m o) inside refl in
        let put' : next (put st i x m o) m o ≡ put st i x m o =
        next_is (put st i x m o) v i false (with_it x m o) s' m o p op' ∙ rw (h, f) (put_held (put st i x m o) v i false (with_it x m o) s' m o p h f)
        ∙ ap (λ (z : List Slot). record { rec = with_slots st.rec z; cells = (put st i x m o).cells }) ys in
        record {
          still_open = ap (λ (z : Store). not_complete (answer_to z m o)) nx ∙ ap not_complete an;
          stays_so = ap (λ (z : Store). next z m o) nx ∙ put' ∙ sym nx;
          answered = ap (λ (z : Store). answer_to z m o) nx ∙ an ∙ sym (ap repeated (replied m o p op) ∙ go (held_at x m) (fits st i x m o) e);
        }
      where
        go : (h f : Bool) → h && not f ≡ false → repeated (cond h (cond f (held_already i) (refused_by 8)) (kept i d)) ≡ held_already i
        go true true q = refl
        go true false q = absurd (clash true refl q)
        go false f q = refl

    module _ (a : ℕ) (oa : List ℕ) (pa : IsPart a oa) (b : ℕ) (ob : List ℕ) (pb : IsPart b ob) (ne : a ≡ b → ⊥) where
      -- what both leave, in this order
      two : open' x a ≡ true → open' x b ≡ true → (sa : Bool) → stuck st i x a oa ≡ sa → (sa ≡ false → open' (with_it x a oa) b ≡ true) → (sb : Bool) → stuck st i x b ob ≡ sb
          → next (next st a oa) b ob ≡ cond sa (cond sb st (put st i x b ob)) (cond sb (put st i x a oa) (put (put st i x a oa) i (with_it x a oa) b ob))
      two u v true e later sb f = ap (λ (z : Store). next z b ob) (moved a oa pa u true e) ∙ moved b ob pb v sb f
      two u v false e later sb f =
          let q = kept_put st w i d x seat a oa pa u e in
          ap (λ (z : Store). next z b ob) (moved a oa pa u false e)
          ∙ next_is (put st i x a oa) q i false (with_it x a oa) (seat_put st w i d x seat a oa pa q) b ob pb (later refl)
          ∙ rw (stuck_there st w i d x seat a oa pa b ob pb ne, f)

      -- the answer to the second
      second_reply : open' x a ≡ true → open' x b ≡ true → (sa : Bool) → stuck st i x a oa ≡ sa → (sa ≡ false → open' (with_it x a oa) b ≡ true)
          → answer_to (next st a oa) b ob ≡ reply st i false x b ob
      second_reply u v true e later =
          let h = (both (held_at x a) (not (fits st i x a oa)) e).0 in
          ap (λ (z : Store). answer_to z b ob) (moved a oa pa u true e) ∙ replied b ob pb v
          ∙ ap (λ (z : Bool). reply st i z x b ob) (seat.stands a pa.low (high a oa pa) h).1
      second_reply u v false e later =
          let q = kept_put st w i d x seat a oa pa u e in
          ap (λ (z : Store). answer_to z b ob) (moved a oa pa u false e)
          ∙ ap (λ (z : After). z.answer) (does (put st i x a oa) q i false (with_it x a oa) (seat_put st w i d x seat a oa pa q) b ob pb [] (later refl))
          ∙ rw (held_there st w i d x seat a oa pa b ob pb (λ z. ne (sym z)), fits_there st w i d x seat a oa pa b ob pb (λ z. ne (sym z)))

      -- both may come in the other order: what each finds open
      record Opens (sa : Bool) : Type 0 where
        alone : open' x b ≡ true
        behind : sa ≡ false → open' (with_it x a oa) b ≡ true
        before : open' (with_it x b ob) a ≡ true

      opens : open' x a ≡ true → not_complete (answer_to (next st a oa) b ob) ≡ true → (sa : Bool) → stuck st i x a oa ≡ sa → Opens sa
      opens u v true e =
          let h = (both (held_at x a) (not (fits st i x a oa)) e).0 in
          record {
            alone = sym (ok_is st w i d x seat b ob pb []) ∙ subst (λ (z : Store). not_complete (answer_to z b ob) ≡ true) (moved a oa pa u true e) v;
            behind = λ z. absurd (clash true refl z);
            before = rw (held_there st w i d x seat b ob pb a oa pa ne, h);
          }
      opens u v false e =
          let q = kept_put st w i d x seat a oa pa u e in
          let o' : open' (with_it x a oa) b ≡ true =
          sym (ok_is (put st i x a oa) q i false (with_it x a oa) (seat_put st w i d x seat a oa pa q) b ob pb [])
          ∙ subst (λ (z : Store). not_complete (answer_to z b ob) ≡ true) (moved a oa pa u false e) v in
          record { alone = open_back st w i d x seat a oa pa b ob pb ne o'; behind = λ z. o'; before = open_swap st w i d x seat a oa pa b ob pb ne u o' }

    swap_seated : (a : ℕ) (oa : List ℕ) (pa : IsPart a oa) (b : ℕ) (ob : List ℕ) (pb : IsPart b ob) → (a ≡ b → ⊥)
        → open' x a ≡ true → not_complete (answer_to (next st a oa) b ob) ≡ true → Swap st a oa b ob
    swap_seated a oa pa b ob pb ne u v = go (stuck st i x a oa) refl (stuck st i x b ob) refl
      where
        turned : (sa sb : Bool)
            → cond sb (cond sa st (put st i x a oa)) (cond sa (put st i x b ob) (put (put st i x b ob) i (with_it x b ob) a oa))
            ≡ cond sa (cond sb st (put st i x b ob)) (cond sb (put st i x a oa) (put (put st i x a oa) i (with_it x a oa) b ob))
        turned true true = refl
        turned true false = refl
        turned false true = refl
        turned false false = sym (put_put st w i d x seat a oa pa b ob pb ne)

        second_open : (sb : Bool) → stuck st i x b ob ≡ sb → open' x b ≡ true → open' (with_it x b ob) a ≡ true → not_complete (answer_to (cond sb st (put st i x b ob)) a oa) ≡ true
        second_open true e v' o' = ok_is st w i d x seat a oa pa [] ∙ u
        second_open false e v' o' =
            let q = kept_put st w i d x seat b ob pb v' e in
            ok_is (put st i x b ob) q i false (with_it x b ob) (seat_put st w i d x seat b ob pb q) a oa pa [] ∙ o'

        go : (sa : Bool) → stuck st i x a oa ≡ sa → (sb : Bool) → stuck st i x b ob ≡ sb → Swap st a oa b ob
        go sa ea sb eb =
            let os = opens a oa pa b ob pb ne u v sa ea in record {
              first = ok_is st w i d x seat b ob pb [] ∙ os.alone;
              second = ap (λ (z : Store). not_complete (answer_to z a oa)) (moved b ob pb os.alone sb eb) ∙ second_open sb eb os.alone os.before;
              equal = two b ob pb a oa pa (λ z. ne (sym z)) os.alone u sb eb (λ z. os.before) sa ea ∙ turned sa sb
                  ∙ sym (two a oa pa b ob pb ne u os.alone sa ea os.behind sb eb);
              answered = second_reply a oa pa b ob pb ne u os.alone sa ea os.behind ∙ sym (ap unmarked (replied b ob pb os.alone) ∙ without_mark b ob);
            }

  -- ---- every part of the key
  module _ (st : Store) (f : (output : List ℕ) (m : ℕ) (o : List ℕ) → asked st output m o ≡ after (refused_by 7) st.rec st.cells output) where
    shut_next : (m : ℕ) (o : List ℕ) → next st m o ≡ st
    shut_next m o = ap (λ (z : After). left z) (f [] m o)

    shut_answer : (m : ℕ) (o : List ℕ) → answer_to st m o ≡ refused_by 7
    shut_answer m o = ap (λ (z : After). z.answer) (f [] m o)

    shut_later : (m : ℕ) (o : List ℕ) (b : ℕ) (ob : List ℕ) → answer_to (next st m o) b ob ≡ refused_by 7
    shut_later m o b ob = ap (λ (z : Store). answer_to z b ob) (shut_next m o) ∙ shut_answer b ob

    shut_twice : (m : ℕ) (o : List ℕ) (b : ℕ) (ob : List ℕ) → next (next st m o) b ob ≡ st
    shut_twice m o b ob = ap (λ (z : Store). next z b ob) (shut_next m o) ∙ shut_next b ob

  pub again : (st : Store) (m : ℕ) (o : List ℕ) → May st m o → Again st m o
  again st m o may = go (seats? st may.store)
    where
      go : Seats st → Again st m o
      go (shut f) = record {
        still_open = ap not_complete (shut_later st f m o m o);
        stays_so = shut_twice st f m o m o ∙ sym (shut_next st f m o);
        answered = shut_later st f m o m o ∙ sym (ap repeated (shut_answer st f m o));
      }
      go (seated i d x seat) =
          again_seated st may.store i d x seat m o may.is_part_lem (sym (ok_is st may.store i d x seat m o may.is_part_lem []) ∙ may.waiting) (stuck st i x m o) refl

  pub swap : (st : Store) (a : ℕ) (oa : List ℕ) (b : ℕ) (ob : List ℕ) → (a ≡ b → ⊥) → May st a oa → May (next st a oa) b ob → Swap st a oa b ob
  swap st a oa b ob ne ma mb = go (seats? st ma.store)
    where
      go : Seats st → Swap st a oa b ob
      go (shut f) = record {
        first = ap not_complete (shut_answer st f b ob);
        second = ap not_complete (shut_later st f b ob a oa);
        equal = shut_twice st f b ob a oa ∙ sym (shut_twice st f a oa b ob);
        answered = shut_later st f a oa b ob ∙ sym (ap unmarked (shut_answer st f b ob));
      }
      go (seated i d x seat) =
          swap_seated st ma.store i d x seat a oa ma.is_part_lem b ob mb.is_part_lem ne
          (sym (ok_is st ma.store i d x seat a oa ma.is_part_lem []) ∙ ma.waiting) mb.waiting

  -- the output that is lent does not matter
  pub any_output : (st : Store) → Kept n k st → (m : ℕ) (o : List ℕ) → IsPart m o → (u v : List ℕ) → not_complete (asked st u m o).answer ≡ true
      → asked st v m o ≡ after (asked st u m o).answer (left (asked st u m o)).rec (left (asked st u m o)).cells v
  any_output st w m o p u v e = go (seats? st w)
    where
      go : Seats st → asked st v m o ≡ after (asked st u m o).answer (left (asked st u m o)).rec (left (asked st u m o)).cells v
      go (shut f) = f v m o ∙ sym (ap (λ (z : After). after z.answer z.state.rec z.state.cells v) (f u m o))
      go (seated i d x seat) =
          let op = sym (ok_is st w i d x seat m o p u) ∙ e in
          does st w i d x seat m o p v op ∙ sym (ap (λ (z : After). after z.answer z.state.rec z.state.cells v) (does st w i d x seat m o p u op))

  -- ---- all answers name one slot, and all that say "kept" have one mark
  pub data OneSeat (st : Store) : Type 0 where
    one_seat : (slot : ℕ) (mark : Bool) → ((m : ℕ) (o : List ℕ) → May st m o → Said slot mark (answer_to st m o)) → OneSeat st

  pub seat_of_lem : (st : Store) → Kept n k st → OneSeat st
  seat_of_lem st w = go (seats? st w)
    where
      go : Seats st → OneSeat st
      go (shut f) = one_seat 0 false (λ m o may. subst (Said 0 false) (sym (shut_answer st f m o)) tt)
      go (seated i d x seat) =
          one_seat i d (λ m o may. subst (Said i d) (sym (replied st w i d x seat m o may.is_part_lem (sym (ok_is st w i d x seat m o may.is_part_lem []) ∙ may.waiting))) (says (held_at x m) (fits st i x m o)))
        where
          says : (h f : Bool) → Said i d (cond h (cond f (held_already i) (refused_by 8)) (kept i d))
          says true true = refl
          says true false = tt
          says false f = (refl, refl)

  -- where a part was kept, the key is borne with the part's total
  pub kept_bears : (st : Store) (m : ℕ) (o : List ℕ) → May st m o → (j : ℕ) (e : Bool) → answer_to st m o ≡ kept j e
      → (i : ℕ) × Bears n (next st m o).rec.slots K i × ((slot_at (next st m o).rec.slots i).total ≡ t)
  kept_bears st m o may j e q = go (seats? st may.store)
    where
      go : Seats st → (i : ℕ) × Bears n (next st m o).rec.slots K i × ((slot_at (next st m o).rec.slots i).total ≡ t)
      go (shut f) = let g = sym (shut_answer st f m o) ∙ q in let z : ◌≡◌ {A = ℕ} 0 1 = cc in absurd (omega arith)
      go (seated i d x seat) =
          let w = may.store in
          let p = may.is_part_lem in
          let op = sym (ok_is st w i d x seat m o p []) ∙ may.waiting in
          let new' = unheld (held_at x m) (fits st i x m o) (sym (replied st w i d x seat m o p op) ∙ q) in
          let is = moved st w i d x seat m o p op false (rw new') in
          subst (λ (z : Store). (i : ℕ) × Bears n z.rec.slots K i × ((slot_at z.rec.slots i).total ≡ t)) (sym is)
          (i, bears_put st w i d x seat m o p, total_put st w i d x seat m o p)
        where
          unheld : (h f : Bool) → cond h (cond f (held_already i) (refused_by 8)) (kept i d) ≡ kept j e → h ≡ false
          unheld true true g = let z : ◌≡◌ {A = ℕ} 0 1 = cc in absurd (omega arith)
          unheld true false g = let z : ◌≡◌ {A = ℕ} 0 1 = cc in absurd (omega arith)
          unheld false f g = refl
