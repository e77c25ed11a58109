-- No series is displaced while at most n keys are unfinished: the key of every used slot is unfinished, from call to call. Where a series is
-- displaced, all n slots are used, and the key that comes is none of theirs: with it there are n + 1 unfinished keys.
use Prim.Native.Nat.{ℕ, suc, ◌≤◌, ◌<◌}
use mathlib.Core.Path.{◌≡◌, refl, sym, ap, ◌∙◌, subst}
use mathlib.Core.Bool.{Bool, true, false, not, cond, ◌&&◌}
use mathlib.Core.List.{List, [], ◌∷◌, ◌++◌, append_assoc}
use mathlib.Core.Logic.{⊎_elim}
use mathlib.Core.Option.{Option, none, some}
use native.Mathlib.Nat.{eq-or-lt_of_le}
use native.Mathlib.Omega.{arith}
use lib.ListN.{length, drop}
use lib.Dec.{eqb}
use borrow.Author.Tests.{ne_eqb}
use Rattle.octets.specs.Tests.{clash, Same, same, other, same?}
use Rattle.types.specs.declared.Kind.{Kind}
use Rattle.types.specs.Refusals as reading
use Rattle.types.specs.declared.Key.{Key}
use Rattle.arrival.specs.Arrivals.{Brought, single, part}
use Rattle.arrival.specs.Keys.{of_pages}
use Rattle.joined.specs.Fronts.{packet_in}
use Rattle.types.specs.declared.Slot.{Slot}
use Rattle.slots.specs.Slots.{slot_at, bears, opened, at_rank, with_part, with_slots, aged, closed, to_front, freed}
use Rattle.slots.specs.RankLaws.{closed_taken}
use Rattle.slots.proofs.AgedLaws.{aged_taken}
use Rattle.slots.specs.BelowLaws.{any_hold}
use Rattle.beats.specs.Beats.{AfterBeat, slots_after_beat, beat}
use Rattle.beats.proofs.BeatenLaws.{stayed}
use Rattle.slots.specs.FrontLaws.{key_same, front_here, front_there, freed_here, freed_there}
use Rattle.formed.specs.Laws.{Formed, array_holds}
use Rattle.cells.specs.Cells.{joined_octets}
use Rattle.series.specs.Taking.{State, After, Answer, state, kept, held_already, packet, refused_by, Step, acted, hand_out, step, take_part, taken, unfit, refuse}
use Rattle.series.specs.CaseLaws.{Bears, Lacks, Case, other_total, other_octets, held_so, last, more, takes_free, displaces, case_of}
use Rattle.series.specs.Calls.{Input, octets_of, read, take_input}
use Rattle.sequences.specs.Lists.{elem_key, add_key, drop_key}
use Rattle.sequences.specs.Runs.{Slots, Call, Event, takes, beats, Store, fresh, outcome, left_by, run, Each}
use Rattle.sequences.specs.Always.{BringsOctets}
use Rattle.sequences.specs.Crowding.{unfinished_after, unfinished_with, holds_key, not_dropped, unfinished_by, unfinished, NeverDisplaced}
use Rattle.sequences.proofs.Lists.{Alike, alike, unlike, alike?, elem_key_add, elem_key_self, elem_dropped, pigeon, keys_apart}
use Rattle.sequences.proofs.Track.{key_there, used_before}
use Rattle.sequences.proofs.Calls.{is_page, taking_any, fresh_free, Beat, no_beat, is_beat, beat?, Formed', fresh_all, formed_by_lem}
use Rattle.sequences.proofs.Wake.{admits}

module _ (n : ℕ) (pos : Slots n) (k : Kind) where
  -- the key of every used slot is unfinished
  abbrev Held : List Slot → List Key → Type 0
  Held xs l = (j : ℕ) → j < n → 0 < (slot_at xs j).rank → elem_key (slot_at xs j).key l ≡ true

  -- ---- slot j becomes another, and the rest keep their keys
  module _ (xs : List Slot) (w : Formed n k xs) (l : List Key) (held : Held xs l) where
    moved : (ys : List Slot) (j : ℕ) (g : ℕ → ℕ) → ((q : ℕ) → not (eqb (g q) 0) ≡ not (eqb q 0))
        → ((m : ℕ) → (m ≡ j → ⊥) → slot_at ys m ≡ at_rank (g (slot_at xs m).rank) (slot_at xs m)) → (l' : List Key)
        → ((m : ℕ) → m < n → (m ≡ j → ⊥) → 0 < (slot_at xs m).rank → elem_key (slot_at xs m).key l' ≡ true)
        → (0 < (slot_at ys j).rank → elem_key (slot_at ys j).key l' ≡ true) → Held ys l'
    moved ys j g same-used there l' rest here m a u = go (same? m j)
      where
        go : Same m j → elem_key (slot_at ys m).key l' ≡ true
        go (same e p) = rw p (here (omega (arith, ap (λ (o : ℕ). (slot_at ys o).rank) p)))
        go (other e p) = rw (key_there xs ys j g same-used there m p) (rest m a p (used_before xs ys j g same-used there m p u))

    fronted : (j : ℕ) → j < n → (y : Slot) (l' : List Key) → ((Y : Key) → elem_key Y l ≡ true → elem_key Y l' ≡ true) → elem_key y.key l' ≡ true
        → Held (to_front xs j y) l'
    fronted j inside y l' keeps e =
        moved (to_front xs j y) j (aged (slot_at xs j).rank) (aged_taken (slot_at xs j).rank) (front_there xs j y) l'
        (λ m a ne u. keeps (slot_at xs m).key (held m a u)) (λ u. rw (front_here xs j y (omega (arith, array_holds n k xs w))) e)

    ended : (X : Key) (j : ℕ) → Bears n xs X j → Held (freed xs j) (drop_key X l)
    ended X j b =
        moved (freed xs j) j (closed (slot_at xs j).rank) (λ q. closed_taken (slot_at xs j).rank q b.used) (freed_there xs j) (drop_key X l)
        (λ m a ne u. elem_dropped X (slot_at xs m).key l (λ e. ne (w.keys m j a b.inside u b.used (e ∙ sym b.key))) (held m a u))
        (λ u. absurd (omega (arith, ap (λ (x : Slot). x.rank) (freed_here xs j (omega (arith, array_holds n k xs w, b.inside))))))

    -- n used slots, and a key that none of them bears
    crowded : (X : Key) → Lacks n xs X → ((j : ℕ) → j < n → 0 < (slot_at xs j).rank) → n < length (add_key X l)
    crowded X lacks all =
        pigeon (suc n) (λ j. cond (eqb j n) X (slot_at xs j).key) (add_key X l) (λ j a. here j a (same? j n))
        (keys_apart n (suc n) n xs X below all w.keys lacks)
      where
        below : (j : ℕ) → j < suc n → (j ≡ n → ⊥) → j < n
        below j a ne = ⊎_elim (λ (q : suc j ≡ suc n). absurd (ne (omega arith))) (λ (q : suc j < suc n). omega arith) (eq-or-lt_of_le a)

        here : (j : ℕ) → j < suc n → Same j n → elem_key (cond (eqb j n) X (slot_at xs j).key) (add_key X l) ≡ true
        here j a (same e p) = rw e (elem_key_self X l)
        here j a (other e p) = rw e (elem_key_add X (slot_at xs j).key l (held j (below j a p) (all j (below j a p))))

  -- ---- one call
  -- what it leaves, and what it comes to where a series is displaced
  abbrev Fine : List Key → After → Type 0
  Fine l a = Held a.state.rec.slots l × ((slot : ℕ) → a.answer ≡ kept slot true → n < length l)

  abbrev marked : Answer → Bool
  marked (kept i d) = d
  marked (held_already i) = false
  marked (packet m) = false
  marked (refused_by m) = false

  unmarked : {A : Type 0} (a : Answer) → marked a ≡ false → (slot : ℕ) → a ≡ kept slot true → A
  unmarked a none_there slot e = absurd (clash (marked a) (ap marked e) none_there)

  module _ (s : State) (w : Formed n s.rec.kind s.rec.slots) (kind : s.rec.kind ≡ k) (l : List Key) (held : Held s.rec.slots l) where
    abbrev xs : List Slot
    xs = s.rec.slots

    w' : Formed n k xs
    w' = subst (λ (x : Kind). Formed n x xs) kind w

    handed : (o : Option (List ℕ)) → Fine l (hand_out s s.rec o)
    handed none = (held, unmarked (refused_by 9) refl)
    handed (some p) = (held, unmarked (packet (length p)) refl)

    module _ (X : Key) (total number : ℕ) (o : List ℕ) where
      abbrev Left : After → Type 0
      Left a = Fine (unfinished_after X a.answer l) a

      finished : (j : ℕ) → Bears n xs X j → (p : Option (List ℕ)) → Left (hand_out s (with_slots s.rec (freed xs j)) p)
      finished j b none = (ended xs w' l held X j b, unmarked (refused_by 9) refl)
      finished j b (some p) = (ended xs w' l held X j b, unmarked (packet (length p)) refl)

      -- slot j comes to the front with X
      comes : (j : ℕ) → j < n → (y : Slot) → y.key ≡ X → Held (to_front xs j y) (add_key X l)
      comes j inside y e = fronted xs w' l held j inside y (add_key X l) (λ Y. elem_key_add X Y l) (rw e (elem_key_self X l))

      by_case : (st : Step) → Case n s X total number o st → Left (acted n s X total number o st)
      by_case st (other_total j b t) = (held, unmarked (refused_by 7) refl)
      by_case st (other_octets j b t h c) = (held, unmarked (refused_by 8) refl)
      by_case st (held_so j b t h c) =
          (fronted xs w' l held j b.inside (slot_at xs j) l (λ Y h. h) (held j b.inside b.used), unmarked (held_already j) refl)
      by_case st (last j b t h c) = finished j b (packet_in s.rec.kind (of_pages X) total (joined_octets s.cells (slot_at xs j) j number o))
      by_case st (more j b t h c) =
          (comes j b.inside (with_part (slot_at xs j) number (length o)) b.key, unmarked (kept j false) refl)
      by_case st (takes_free j lacks a z lower) =
          (comes j a (with_part (opened X total) number (length o)) refl, unmarked (kept j false) refl)
      by_case st (displaces j lacks a z all) = (comes j a (with_part (opened X total) number (length o)) refl, (λ slot e. crowded xs w' l held X lacks all))

    by_reading : (paged : Bool) (o : List ℕ) (r : reading.Outcome Brought) → Fine (unfinished_with r (taken n s paged o r).answer l) (taken n s paged o r)
    unfolding take_part
    by_reading paged o (reading.refused m) = (held, unmarked (refused_by m) refl)
    by_reading paged o (reading.gives (single start)) = handed (packet_in s.rec.kind paged 1 (drop start o))
    by_reading paged o (reading.gives (part X total number start)) =
        by_case X total number (drop start o) (step n s X total number (drop start o)) (case_of n s X total number (drop start o) w)

    unfit_call : (r : reading.Outcome Brought) → Fine (unfinished_with r (refuse 1 s).answer l) (refuse 1 s)
    unfit_call (reading.refused m) = (held, unmarked (refused_by 1) refl)
    unfit_call (reading.gives (single start)) = (held, unmarked (refused_by 1) refl)
    unfit_call (reading.gives (part X total number start)) = (held, unmarked (refused_by 1) refl)

    abbrev fitting : Input → Bool → After
    fitting i b = cond b (refuse 1 s) (taken n s (is_page i) (octets_of i) (read s.rec.kind i))

    by_fit : (i : Input) (b : Bool) → Fine (unfinished_with (read s.rec.kind i) (fitting i b).answer l) (fitting i b)
    by_fit i true = unfit_call (read s.rec.kind i)
    by_fit i false = by_reading (is_page i) (octets_of i) (read s.rec.kind i)

    any_call : (i : Input) → Fine (unfinished_with (read k i) (take_input n s i).answer l) (take_input n s i)
    any_call i =
        subst (λ (x : Kind). Fine (unfinished_with (read x i) (take_input n s i).answer l) (take_input n s i)) kind
        (subst (λ (a : After). Fine (unfinished_with (read s.rec.kind i) a.answer l) a) (sym (taking_any n s i)) (by_fit i (unfit n s)))

  one_call : (st : Store) → Formed' n pos k (admits k) st → (l : List Key) → Held st.rec.slots l → (c : Call)
      → Fine (unfinished_with (read k c.input) (outcome n st c).answer l) (outcome n st c)
  one_call st (kind, number, w) l held c =
      any_call (state st.rec st.cells c.output) (subst (λ (x : Kind). Formed n x st.rec.slots) (sym kind) w) kind l held c.input

  -- ---- one beat: the key of a slot that is used afterwards is held then, and so it is not dropped
  still_there : (xs ys : List Slot) (l : List Key) (Y : Key) → holds_key n ys Y ≡ true → elem_key Y l ≡ true → elem_key Y (not_dropped n xs ys l) ≡ true
  still_there xs ys [] Y h e = e
  still_there xs ys (X ∷ l) Y h e = go (still_there xs ys l Y h) (alike? Y X) (holds_key n xs X) (holds_key n ys X) refl
    where
      go : (elem_key Y l ≡ true → elem_key Y (not_dropped n xs ys l) ≡ true) → Alike Y X → (b a : Bool) → holds_key n ys X ≡ a
          → elem_key Y (cond (b && not a) (not_dropped n xs ys l) (X ∷ not_dropped n xs ys l)) ≡ true
      go ih (alike f x) b true q = go' b
        where
          go' : (b : Bool) → elem_key Y (cond (b && false) (not_dropped n xs ys l) (X ∷ not_dropped n xs ys l)) ≡ true
          go' true = rw f
          go' false = rw f
      go ih (alike f x) b false q = absurd (clash (holds_key n ys Y) h (ap (holds_key n ys) x ∙ q))
      go ih (unlike f ne) b a q = go' (b && not a)
        where
          go' : (d : Bool) → elem_key Y (cond d (not_dropped n xs ys l) (X ∷ not_dropped n xs ys l)) ≡ true
          go' true = ih (simp f at e)
          go' false = rw f (ih (simp f at e))

  held_beat : (st : Store) (limit : ℕ) (l : List Key) → Held st.rec.slots l → Held (left_by n st (beats limit)).rec.slots (not_dropped n st.rec.slots (left_by n st (beats limit)).rec.slots l)
  held_beat st limit l held = go (beat n st.rec limit) (beat? n pos k st.rec limit)
    where
      bears_it : (ys : List Slot) (j : ℕ) → j < n → 0 < (slot_at ys j).rank → holds_key n ys (slot_at ys j).key ≡ true
      bears_it ys j a u =
          any_hold n (λ i. bears (slot_at ys j).key (slot_at ys i)) j a (rw (ne_eqb (slot_at ys j).rank 0 (λ z. omega arith), key_same (slot_at ys j).key (slot_at ys j).key refl))

      go : (a : AfterBeat) → Beat n pos k st.rec limit a → Held a.rec.slots (not_dropped n st.rec.slots a.rec.slots l)
      go a (no_beat m) j b u = still_there st.rec.slots st.rec.slots l (slot_at st.rec.slots j).key (bears_it st.rec.slots j b u) (held j b u)
      go a (is_beat low) j b u =
          let ys = slots_after_beat limit st.rec.slots in
          let s = stayed limit st.rec.slots j u in
          still_there st.rec.slots ys l (slot_at ys j).key (bears_it ys j b u) (rw (ap (λ (x : Slot). x.key) s.is) (held j b s.used))

  one_event : (st : Store) → Formed' n pos k (admits k) st → (l : List Key) → Held st.rec.slots l → (e : Event) → Held (left_by n st e).rec.slots (unfinished_by n k st l e)
  one_event st w l held (takes c) = (one_call st w l held c).0
  one_event st w l held (beats limit) = held_beat st limit l held

  -- ---- any list of events
  never : (u : List Event) (st : Store) (l : List Key) → Formed' n pos k (admits k) st → Held st.rec.slots l → (c : Call) (v : List Event)
      → Each BringsOctets (u ++ takes c ∷ v) → length (unfinished n k st l (u ++ takes c ∷ [])) ≤ n → (slot : ℕ) → (outcome n (run n st u) c).answer ≡ kept slot true → ⊥
  never [] st l w held c v bytes few = λ slot e. let f = (one_call st w l held c).1 slot e in omega arith
  never (d ∷ u) st l w held c v bytes few =
      never u (left_by n st d) (unfinished_by n k st l d)
      (formed_by_lem n pos k (admits k) st w d (bytes [] d (u ++ takes c ∷ v) refl)) (one_event st w l held d) c v
      (λ t x y e. bytes (d ∷ t) x y (ap (λ (m : List Event). d ∷ m) e)) few

  pub never_displaced : NeverDisplaced n k
  never_displaced cells calls bytes few u c v e =
      never u (fresh n k cells) [] (fresh_all n pos k (admits k) cells) (λ j a u. absurd (fresh_free n k pos j a u)) c v
      (subst (Each BringsOctets) e bytes) (few (u ++ takes c ∷ []) v (e ∙ sym (append_assoc u (takes c ∷ []) v)))
