-- One beat does what the rule says, slot by slot. With every beat of a limit, a series that nothing touches is a beat older, and younger than the
-- limit if it is left: after as many beats as the limit there can be none.
use Prim.Native.Nat.{ℕ, zero, suc, ◌+◌, ◌-◌, ◌≤◌, ◌<◌}
use mathlib.Core.Path.{◌≡◌, refl, sym, ap, ◌∙◌, subst}
use mathlib.Core.Bool.{Bool, true, false, not, cond, ◌&&◌, ◌||◌}
use mathlib.Core.Option.{Option, none, some}
use mathlib.Core.List.{List, [], ◌∷◌, ◌++◌}
use native.Mathlib.Omega.{arith}
use lib.ListN.{length, drop, length-replicate}
use lib.Dec.{eqb, ltb, leb}
use borrow.Author.Tests.{eq-eqb, ne_eqb, eqb-true, ltb-true, ltb-false, leb-true}
use Rattle.octets.specs.Tests.{clash, both, Same, same, other, same?}
use Rattle.types.specs.declared.Kind.{Kind}
use Rattle.types.specs.declared.Kind.TheVariants.{Command}
use Rattle.types.specs.Refusals as reading
use Rattle.types.specs.declared.Key.{Key}
use Rattle.types.specs.declared.Record.{Record}
use Rattle.types.specs.declared.Slot.{Slot}
use Rattle.arrival.specs.Arrivals.{Brought, single, part}
use Rattle.arrival.specs.Keys.{of_pages}
use Rattle.joined.specs.Fronts.{packet_in}
use Rattle.slots.specs.Below.{all_below}
use Rattle.slots.specs.RankLaws.{ranks_differ, closed_taken}
use Rattle.slots.proofs.AgedLaws.{aged_taken}
use Rattle.slots.specs.FrontLaws.{front_here, front_there, freed_here, freed_there}
use Rattle.slots.specs.Slots.{slot_at, opened, free_slot, at_rank, at_count, with_part, aged, closed, to_front, freed, with_slots}
use Rattle.formed.specs.Formed.{slots_formed, record_formed}
use Rattle.formed.specs.Laws.{Formed, array_holds, formed_tells, formed_told}
use Rattle.beats.specs.Beats.{AfterBeat, after_beat, slots_after_beat, dropped_by, beaten, beat}
use Rattle.beats.specs.Laws.{Beaten, was_free, is_dropped, is_older, beat_at}
use Rattle.beats.proofs.BeatenLaws.{beaten?, stayed, beat_formed}
use Rattle.cells.specs.Cells.{cells_size, joined_octets}
use Rattle.series.specs.Taking.{State, After, state, kept, packet, hand_out, Step, acted, step, take_part, taken}
use Rattle.series.specs.CaseLaws.{Lacks, Case, other_total, other_octets, held_so, last, more, takes_free, displaces, case_of}
use Rattle.series.specs.Calls.{octets_of, read}
use Rattle.sequences.specs.Examples.{M}
use Rattle.sequences.specs.Lists.{elem}
use Rattle.sequences.specs.Runs.{Slots, Call, Event, takes, beats, ProperCall, Proper, Each, Store, fresh, outcome, left, left_by, run}
use Rattle.sequences.specs.Wake as window
use Rattle.sequences.specs.Timely.{limits_of, FewerThanLeastOfAll}
use Rattle.sequences.specs.Wake.{History, counts, Start, begin, history_by, follow, Fair}
use Rattle.sequences.specs.Reached.{key, halves, first, second, cells}
use Rattle.sequences.specs.Silence.{BeatRefuses, BeatDoes, Beating, NoTouch, beats_within, silence, SilentGivenUp, MetInTime, MissedTooLate, OnTheLimit}
use Rattle.sequences.proofs.Calls.{is_page, taking, fresh_free, Kept, Beat, no_beat, is_beat, beat?, beat_is, kept_beat, kept_by, kept_fresh}
use Rattle.sequences.proofs.Track.{key_there, used_before}
use Rattle.sequences.proofs.Along.{All, each, Along, each_with, store_run}
use Rattle.sequences.proofs.Wake.{admits, wake_window_of_all}
use Rattle.sequences.proofs.Reached.{same_part, proper_first, proper_second, reads_first, reads_second}

-- ---- one beat
module _ (n : ℕ) (r : Record) (limit : ℕ) where
  refuses : BeatRefuses n r limit
  unfolding beat
  refuses = record { malformed = λ f. rw f; no_limit = λ f z. rw (f, eq-eqb limit 0 z) }

  module _ (f : record_formed n r ≡ true) (low : 0 < limit) (high : limit < 256) where
    abbrev xs : List Slot
    xs = r.slots

    accepted : beat n r limit ≡ beaten (reading.gives (dropped_by limit xs)) (with_slots r (slots_after_beat limit xs))
    unfolding beat
    accepted = rw (f, ne_eqb limit 0 (λ z. omega arith))

    number : r.count ≡ n
    number = eqb-true r.count n (both (eqb r.count n) (slots_formed n r.kind xs) f).0

    w : Formed n r.kind xs
    w = formed_tells n r.kind xs (both (eqb r.count n) (slots_formed n r.kind xs) f).1

    at : (i : ℕ) → slot_at (beat n r limit).rec.slots i ≡ slot_at (slots_after_beat limit xs) i
    at i = rw accepted

    behind : (i j : ℕ) → i < n → j < n → 0 < (slot_at xs i).rank → limit ≤ suc (slot_at xs i).beats → 0 < (slot_at xs j).rank → suc (slot_at xs j).beats < limit
        → (slot_at xs j).rank < (slot_at xs i).rank
    behind i j l m u old v young = go (ltb (slot_at xs j).rank (slot_at xs i).rank) refl (same? (slot_at xs i).rank (slot_at xs j).rank)
      where
        go : (t : Bool) → ltb (slot_at xs j).rank (slot_at xs i).rank ≡ t → Same (slot_at xs i).rank (slot_at xs j).rank → (slot_at xs j).rank < (slot_at xs i).rank
        go true e s = ltb-true (slot_at xs j).rank (slot_at xs i).rank e
        go false e (same p q) =
            let there : i ≡ j = ranks_differ n (λ i. (slot_at xs i).rank) w.ranks i j l m v q in
            absurd (omega (arith, ap (λ (o : ℕ). (slot_at xs o).beats) there))
        go false e (other p q) = absurd (omega (arith, w.counts i j l m u (omega (arith, ltb-false (slot_at xs j).rank (slot_at xs i).rank e))))

    -- a used slot whose count reaches the limit is free afterwards, each other one is a beat older, and a free one stays
    dropped : (i : ℕ) → 0 < (slot_at xs i).rank → limit ≤ suc (slot_at xs i).beats → Beaten limit (slot_at xs i) → after_beat limit (slot_at xs i) ≡ free_slot
    dropped i u l (was_free z q e) = absurd (omega arith)
    dropped i u l (is_dropped v m q e) = e
    dropped i u l (is_older v m q e) = absurd (omega arith)

    older : (i : ℕ) → 0 < (slot_at xs i).rank → suc (slot_at xs i).beats < limit → Beaten limit (slot_at xs i)
        → after_beat limit (slot_at xs i) ≡ at_count (suc (slot_at xs i).beats) (slot_at xs i)
    older i u l (was_free z q e) = absurd (omega arith)
    older i u l (is_dropped v m q e) = absurd (omega arith)
    older i u l (is_older v m q e) = e

    still : (i : ℕ) → (slot_at xs i).rank ≡ 0 → Beaten limit (slot_at xs i) → after_beat limit (slot_at xs i) ≡ slot_at xs i
    still i y (was_free z q e) = e
    still i y (is_dropped v m q e) = absurd (omega arith)
    still i y (is_older v m q e) = absurd (omega arith)

    does : BeatDoes n r limit
    does = record {
      answered = ap (λ (a : AfterBeat). a.answer) accepted;
      drops = λ i u l. at i ∙ beat_at limit xs i ∙ dropped i u l (beaten? limit (slot_at xs i));
      stays = λ i u l. at i ∙ beat_at limit xs i ∙ older i u l (beaten? limit (slot_at xs i));
      free = λ i z. at i ∙ beat_at limit xs i ∙ still i z (beaten? limit (slot_at xs i));
      least_recent_lem = behind;
      formed = rw (accepted, eq-eqb r.count n number) (formed_told n r.kind (slots_after_beat limit xs) (beat_formed n r.kind xs w limit low (omega arith)));
    }

pub beating : (n : ℕ) → Beating n
beating n r limit = (refuses n r limit, does n r limit)

-- ---- silence
module _ (n : ℕ) (pos : Slots n) (k : Kind) (limit : ℕ) (low : 0 < limit) (high : limit < 256) where
  -- each series that is left is m beats old at least, and younger than the limit
  abbrev Aged : ℕ → Store → Type 0
  Aged m st = (i : ℕ) → 0 < (slot_at st.rec.slots i).rank → (m ≤ (slot_at st.rec.slots i).beats) × ((slot_at st.rec.slots i).beats < limit)

  one_older : (m : ℕ) (st : Store) → Kept n k st → ((i : ℕ) → 0 < (slot_at st.rec.slots i).rank → m ≤ (slot_at st.rec.slots i).beats) → Aged (suc m) (left_by n st (beats limit))
  one_older m st w old =
      subst (Aged (suc m)) (sym (beat_is n pos k st w limit (λ z. omega arith)))
      (λ i u.
      let s = stayed limit st.rec.slots i u in
      let e = ap (λ (x : Slot). x.beats) s.is in (omega (arith, old i s.used), omega (arith, s.young)))

  older_run : (j m : ℕ) (st : Store) → Kept n k st → Aged m st → Aged (j + m) (run n st (silence limit j))
  older_run zero m st w a = let e : m ≡ 0 + m = omega arith in subst (λ (q : ℕ). Aged q st) e a
  older_run (suc j) m st w a =
      let e : j + suc m ≡ suc j + m = omega arith in
      subst (λ (q : ℕ). Aged q (run n st (silence limit (suc j)))) e
      (older_run j (suc m) (left_by n st (beats limit)) (kept_beat n pos k (admits k) st w limit high) (one_older m st w (λ i u. (a i u).0)))

  kept_silent : (j : ℕ) (st : Store) → Kept n k st → Kept n k (run n st (silence limit j))
  kept_silent zero st w = w
  kept_silent (suc j) st w = kept_silent j (left_by n st (beats limit)) (kept_beat n pos k (admits k) st w limit high)

  module _ (st : Store) (w : Kept n k st) where
    abbrev end : Store
    end = run n st (silence limit limit)

    -- no slot is used any more
    none_used : (i : ℕ) → 0 < (slot_at (run n st (silence limit limit)).rec.slots i).rank → ⊥
    none_used i u = go limit low refl
      where
        go : (q : ℕ) → 0 < q → q ≡ limit → ⊥
        go zero l e = omega arith
        go (suc q) l e =
            let a : Aged (q + 1) (run n (left_by n st (beats limit)) (silence limit q)) =
            older_run q 1 (left_by n st (beats limit)) (kept_beat n pos k (admits k) st w limit high) (one_older 0 st w (λ i u. omega arith)) in
            let (old, young) = subst (λ (m : ℕ). Aged (q + 1) (run n st (silence limit m))) e a i u in
            omega arith

    module _ (c : Call) (p : ProperCall c) (K : Key) (total number start : ℕ) (reads : read k c.input ≡ reading.gives (part K total number start)) where
      abbrev s : State
      s = state end.rec end.cells c.output

      abbrev o : List ℕ
      o = drop start (octets_of c.input)

      by_case : (z : Step) → Case n s K total number o z → (acted n s K total number o z).answer ≡ kept 0 false
      by_case z (other_total i a t) = absurd (none_used i a.used)
      by_case z (other_octets i a t h e) = absurd (none_used i a.used)
      by_case z (held_so i a t h e) = absurd (none_used i a.used)
      by_case z (last i a t h e) = absurd (none_used i a.used)
      by_case z (more i a t h e) = absurd (none_used i a.used)
      by_case z (takes_free i lacks l e lower) = ap (λ (j : ℕ). kept j false) (lowest i lower)
        where
          lowest : (i : ℕ) → ((j : ℕ) → j < i → 0 < (slot_at end.rec.slots j).rank) → i ≡ 0
          lowest zero f = refl
          lowest (suc i) f = absurd (none_used 0 (f 0 (omega arith)))
      by_case z (displaces i lacks l e all) = absurd (none_used i (all i l))

      anew : (outcome n end c).answer ≡ kept 0 false
      unfolding take_part
      anew =
          let w' = kept_silent limit st w in
          let e : outcome n end c ≡ taken n s (is_page c.input) (octets_of c.input) (reading.gives (part K total number start)) =
          taking n s w'.sound p.output c.input ∙ ap (λ (x : Kind). taken n s (is_page c.input) (octets_of c.input) (read x c.input)) w'.kind
          ∙ ap (taken n s (is_page c.input) (octets_of c.input)) reads in
          ap (λ (a : After). a.answer) e
          ∙ by_case (step n s K total number o) (case_of n s K total number o w'.sound.formed)

-- ---- no touch
-- Each slot with the key is m beats old at least, m being the beats so far with a limit up to this one, and m is below the limit: the next such beat
-- finds it too old, or it is one older.
module _ (n : ℕ) (pos : Slots n) (k : Kind) (K : Key) (limit : ℕ) where
  abbrev Old : ℕ → List Slot → Type 0
  Old m xs = (j : ℕ) → j < n → 0 < (slot_at xs j).rank → (slot_at xs j).key ≡ K → (m ≤ (slot_at xs j).beats) × (m < limit)

  -- slot j becomes another, without the key, and each other slot keeps all but its rank
  module _ (m : ℕ) (xs : List Slot) (old : Old m xs) where
    moved : (ys : List Slot) (j : ℕ) (g : ℕ → ℕ) → ((q : ℕ) → not (eqb (g q) 0) ≡ not (eqb q 0))
        → ((l : ℕ) → (l ≡ j → ⊥) → slot_at ys l ≡ at_rank (g (slot_at xs l).rank) (slot_at xs l)) → (0 < (slot_at ys j).rank → (slot_at ys j).key ≡ K → ⊥) → Old m ys
    moved ys j g same-used there here l a u q = go (same? l j)
      where
        go : Same l j → (m ≤ (slot_at ys l).beats) × (m < limit)
        go (same e p) = absurd (here (omega (arith, ap (λ (o : ℕ). (slot_at ys o).rank) p)) (ap (λ (o : ℕ). (slot_at ys o).key) (sym p) ∙ q))
        go (other e p) =
            let (x, y) = old l a (used_before xs ys j g same-used there l p u) (sym (key_there xs ys j g same-used there l p) ∙ q) in
            (omega (arith, x, ap (λ (z : Slot). z.beats) (there l p)), y)

  module _ (m : ℕ) (s : State) (w : Formed n s.rec.kind s.rec.slots) (old : Old m s.rec.slots) where
    abbrev own : List Slot
    own = s.rec.slots

    inside : (j : ℕ) → j < n → j < length own
    inside j l = omega (arith, array_holds n s.rec.kind own w)

    fronted : (X : Key) (j : ℕ) → j < n → (y : Slot) → y.key ≡ X → (X ≡ K → ⊥) → Old m (to_front own j y)
    fronted X j l y e ne =
        moved m own old (to_front own j y) j (aged (slot_at own j).rank) (aged_taken (slot_at own j).rank) (front_there own j y)
        (λ u q. ne (sym e ∙ ap (λ (z : Slot). z.key) (sym (front_here own j y (inside j l))) ∙ q))

    ended : (j : ℕ) → j < n → 0 < (slot_at own j).rank → (p : Option (List ℕ)) → Old m (hand_out s (with_slots s.rec (freed own j)) p).state.rec.slots
    ended j l u none = freed_old
      where
        freed_old : Old m (freed own j)
        freed_old =
            moved m own old (freed own j) j (closed (slot_at own j).rank) (λ q. closed_taken (slot_at own j).rank q u) (freed_there own j)
            (λ v q. omega (arith, ap (λ (z : Slot). z.rank) (freed_here own j (inside j l))))
    ended j l u (some p) =
        moved m own old (freed own j) j (closed (slot_at own j).rank) (λ q. closed_taken (slot_at own j).rank q u) (freed_there own j)
        (λ v q. omega (arith, ap (λ (z : Slot). z.rank) (freed_here own j (inside j l))))

    module _ (X : Key) (total number : ℕ) (o : List ℕ) where
      -- an answer that counts is not to the key
      not_own : (a : After) → (X ≡ K → counts a ≡ false) → counts a ≡ true → X ≡ K → ⊥
      not_own a quiet loud e = clash (counts a) loud (quiet e)

      old_case : (z : Step) → Case n s X total number o z → (X ≡ K → counts (acted n s X total number o z) ≡ false) → Old m (acted n s X total number o z).state.rec.slots
      old_case z (other_total j b t) quiet = old
      old_case z (other_octets j b t h c) quiet = old
      old_case z (held_so j b t h c) quiet = fronted X j b.inside (slot_at own j) b.key (not_own (acted n s X total number o z) quiet refl)
      old_case z (last j b t h c) quiet = ended j b.inside b.used (packet_in s.rec.kind (of_pages X) total (joined_octets s.cells (slot_at own j) j number o))
      old_case z (more j b t h c) quiet = fronted X j b.inside (with_part (slot_at own j) number (length o)) b.key (not_own (acted n s X total number o z) quiet refl)
      old_case z (takes_free j lacks l e lower) quiet = fronted X j l (with_part (opened X total) number (length o)) refl (not_own (acted n s X total number o z) quiet refl)
      old_case z (displaces j lacks l e all) quiet = fronted X j l (with_part (opened X total) number (length o)) refl (not_own (acted n s X total number o z) quiet refl)

    single_old : (p : Option (List ℕ)) → Old m (hand_out s s.rec p).state.rec.slots
    single_old none = old
    single_old (some p) = old

    old_taken : (paged : Bool) (o : List ℕ) (r : reading.Outcome Brought)
        → ((total number start : ℕ) → r ≡ reading.gives (part K total number start) → counts (taken n s paged o r) ≡ false) → Old m (taken n s paged o r).state.rec.slots
    unfolding take_part
    old_taken paged o (reading.refused q) quiet = old
    old_taken paged o (reading.gives (single start)) quiet = single_old (packet_in s.rec.kind paged 1 (drop start o))
    old_taken paged o (reading.gives (part X total number start)) quiet =
        old_case X total number (drop start o) (step n s X total number (drop start o)) (case_of n s X total number (drop start o) w)
        (λ e. quiet total number start (ap (λ (Y : Key). reading.gives (part Y total number start)) e))

  -- ---- one event
  old_call : (m : ℕ) (st : Store) → Kept n k st → Old m st.rec.slots → (c : Call) → ProperCall c
      → ((total number start : ℕ) → read k c.input ≡ reading.gives (part K total number start) → counts (outcome n st c) ≡ false) → Old m (left (outcome n st c)).rec.slots
  old_call m st w old c p quiet =
      let s : State = state st.rec st.cells c.output in
      let e : outcome n st c ≡ taken n s (is_page c.input) (octets_of c.input) (read k c.input) =
      taking n s w.sound p.output c.input ∙ ap (λ (x : Kind). taken n s (is_page c.input) (octets_of c.input) (read x c.input)) w.kind in
      subst (λ (a : After). Old m a.state.rec.slots) (sym e)
      (old_taken m s w.sound.formed old (is_page c.input) (octets_of c.input) (read k c.input)
      (λ total number start r. ap counts (sym e) ∙ quiet total number start r))

  -- a beat counts if its limit is one of 1 to this one
  abbrev counted : ℕ → Bool
  counted l = not (eqb l 0) && leb l limit

  old_beat : (m : ℕ) (st : Store) → Kept n k st → Old m st.rec.slots → (l : ℕ) → Old (cond (counted l) (suc m) m) (left_by n st (beats l)).rec.slots
  old_beat m st w old l = go (same? l 0)
    where
      refused_there : (a : AfterBeat) → Beat n pos k st.rec l a → l ≡ 0 → Old m a.rec.slots
      refused_there a (no_beat q) z = old
      refused_there a (is_beat low) z = absurd (omega arith)

      older : (b : Bool) → leb l limit ≡ b → Old (cond b (suc m) m) (slots_after_beat l st.rec.slots)
      older true e j a u q =
          let s = stayed l st.rec.slots j u in
          let (x, y) = old j a s.used (sym (ap (λ (z : Slot). z.key) s.is) ∙ q) in
          let e' = ap (λ (z : Slot). z.beats) s.is in
          (omega arith, omega (arith, s.young, leb-true l limit e))
      older false e j a u q =
          let s = stayed l st.rec.slots j u in
          let (x, y) = old j a s.used (sym (ap (λ (z : Slot). z.key) s.is) ∙ q) in
          let e' = ap (λ (z : Slot). z.beats) s.is in
          (omega arith, y)

      go : Same l 0 → Old (cond (counted l) (suc m) m) (left_by n st (beats l)).rec.slots
      go (same e z) = rw e (refused_there (beat n st.rec l) (beat? n pos k st.rec l) z)
      go (other e z) =
          rw e (subst (λ (x : Store). Old (cond (leb l limit) (suc m) m) x.rec.slots) (sym (beat_is n pos k st w l z)) (older (leb l limit) refl))

  -- ---- any list of events
  old_run : (events : List Event) (m : ℕ) (st : Store) → Kept n k st → Each Proper events → NoTouch n k K st events → Old m st.rec.slots
      → Old (beats_within limit events + m) (run n st events).rec.slots
  old_run [] m st w ps quiet old = let e : m ≡ 0 + m = omega arith in subst (λ (q : ℕ). Old q st.rec.slots) e old
  old_run (takes c ∷ events) m st w ps quiet old =
      old_run events m (left (outcome n st c)) (kept_by n pos k (admits k) st w (takes c) (ps [] (takes c) events refl))
      (λ u d v e. ps (takes c ∷ u) d v (ap (λ (l : List Event). takes c ∷ l) e)) (λ u d v e. quiet (takes c ∷ u) d v (ap (λ (l : List Event). takes c ∷ l) e))
      (old_call m st w old c (ps [] (takes c) events refl) (λ total number start r. quiet [] c events refl total number start r))
  old_run (beats l ∷ events) m st w ps quiet old =
      subst (λ (q : ℕ). Old q (run n st (beats l ∷ events)).rec.slots) (by_count (counted l))
      (old_run events (cond (counted l) (suc m) m) (left_by n st (beats l)) (kept_by n pos k (admits k) st w (beats l) (ps [] (beats l) events refl))
      (λ u d v e. ps (beats l ∷ u) d v (ap (λ (x : List Event). beats l ∷ x) e)) (λ u d v e. quiet (beats l ∷ u) d v (ap (λ (x : List Event). beats l ∷ x) e))
      (old_beat m st w old l))
    where
      by_count : (b : Bool) → beats_within limit events + cond b (suc m) m ≡ cond b (suc (beats_within limit events)) (beats_within limit events) + m
      by_count true = omega arith
      by_count false = refl

  kept_all : (events : List Event) (st : Store) → Kept n k st → Each Proper events → Kept n k (run n st events)
  kept_all [] st w ps = w
  kept_all (e ∷ events) st w ps = kept_all events (left_by n st e) (kept_by n pos k (admits k) st w e (ps [] e events refl)) (λ u d v f. ps (e ∷ u) d v (ap (λ (l : List Event). e ∷ l) f))

  -- a part of a key that is not held is kept
  module _ (st : Store) (w : Kept n k st) (lacks : Lacks n st.rec.slots K) (c : Call) (p : ProperCall c) (total number start : ℕ)
      (reads : read k c.input ≡ reading.gives (part K total number start)) where
    abbrev here : State
    here = state st.rec st.cells c.output

    abbrev Kept' : After → Type 0
    Kept' a = (slot : ℕ) × (displaced : Bool) × (a.answer ≡ kept slot displaced)

    new_case : (z : Step) → Case n here K total number (drop start (octets_of c.input)) z → Kept' (acted n here K total number (drop start (octets_of c.input)) z)
    new_case z (other_total i a t) = absurd (lacks i a.inside a.used a.key)
    new_case z (other_octets i a t h e) = absurd (lacks i a.inside a.used a.key)
    new_case z (held_so i a t h e) = absurd (lacks i a.inside a.used a.key)
    new_case z (last i a t h e) = absurd (lacks i a.inside a.used a.key)
    new_case z (more i a t h e) = absurd (lacks i a.inside a.used a.key)
    new_case z (takes_free i none_held l e lower) = (i, false, refl)
    new_case z (displaces i none_held l e all) = (i, true, refl)

    kept_new : Kept' (outcome n st c)
    unfolding take_part
    kept_new =
        let e : outcome n st c ≡ taken n here (is_page c.input) (octets_of c.input) (reading.gives (part K total number start)) =
        taking n here w.sound p.output c.input ∙ ap (λ (x : Kind). taken n here (is_page c.input) (octets_of c.input) (read x c.input)) w.kind
        ∙ ap (taken n here (is_page c.input) (octets_of c.input)) reads in
        subst Kept' (sym e) (new_case (step n here K total number (drop start (octets_of c.input))) (case_of n here K total number (drop start (octets_of c.input)) w.sound.formed))

pub silent_given_up : (n : ℕ) → Slots n → SilentGivenUp n
silent_given_up n pos k K cells earlier events size before proper quiet limit low enough =
    let st : Store = run n (fresh n k cells) earlier in
    let w : Kept n k st = kept_fresh n pos k (admits k) cells size earlier before in
    let old = old_run n pos k K limit events 0 st w proper quiet (λ j l u e. (omega arith, low)) in
    let gone : Lacks n (run n st events).rec.slots K = λ j l u e. omega (arith, (old j l u e).1) in
    record { gone = gone; taken_anew = kept_new n pos k K limit (run n st events) (kept_all n pos k K limit events st w proper) gone }

-- ---- the number is the right one
module _ (n : ℕ) (pos : Slots n) (b limit : ℕ) (low : 0 < limit) (high : limit < 256) where
  abbrev w₀ : History
  w₀ = begin n Command (cells n b) []

  abbrev w₁ : History
  w₁ = history_by n Command key w₀ (takes (first b))

  kept_first : Kept n Command (run n (fresh n Command (cells n b)) (takes (first b) ∷ []))
  kept_first = kept_fresh n pos Command (admits Command) (cells n b) (length-replicate (cells_size n) b) (takes (first b) ∷ []) (each Proper (takes (first b) ∷ []) (proper_first n pos b, tt))

  missed_too_late : MissedTooLate n b limit
  missed_too_late =
      let st : Store = run n (fresh n Command (cells n b)) (takes (first b) ∷ []) in
      record {
        lost = λ j l u e. none_used n pos Command limit low high st kept_first j u;
        kept_anew = anew n pos Command limit low high st kept_first (second b) (proper_second n pos b) key 2 2 6 (reads_second n pos b);
      }

  -- after the first part, and m beats behind it
  record Waits (m : ℕ) (q : History) : Type 0 where
    arrived : q.arrived ≡ 1 ∷ []
    alone : q.others_since ≡ []
    count : length q.beats_since ≡ m

  waits_first : Waits 0 w₁
  waits_first = rw (reads_first n pos b) (record { arrived = refl; alone = refl; count = refl })

  waits_beat : (m : ℕ) (q : History) → Waits m q → Waits (suc m) (history_by n Command key q (beats limit))
  waits_beat m q w = rw (ne_eqb limit 0 (λ z. omega arith)) (record { arrived = w.arrived; alone = w.alone; count = ap suc w.count })

  waits_all : (j m : ℕ) (q : History) → Waits m q → Waits (j + m) (follow n Command key q (silence limit j))
  waits_all zero m q w = let e : m ≡ 0 + m = omega arith in subst (λ (o : ℕ). Waits o q) e w
  waits_all (suc j) m q w =
      let e : j + suc m ≡ suc j + m = omega arith in
      subst (λ (o : ℕ). Waits o (follow n Command key q (silence limit (suc j)))) e (waits_all j (suc m) (history_by n Command key q (beats limit)) (waits_beat m q w))

  abbrev calls : List Event
  calls = takes (first b) ∷ silence limit (limit - 1) ++ takes (second b) ∷ []

  -- the sequence uses one limit
  one_limit : (j l : ℕ) → elem l (limits_of (silence limit j ++ takes (second b) ∷ [])) ≡ true → l ≡ limit
  one_limit zero l e = absurd (clash false e refl)
  one_limit (suc j) l e = go (same? l limit) (rw (ne_eqb limit 0 (λ z. omega arith)) at e) (one_limit j l)
    where
      go : Same l limit → eqb l limit || elem l (limits_of (silence limit j ++ takes (second b) ∷ [])) ≡ true
          → (elem l (limits_of (silence limit j ++ takes (second b) ∷ [])) ≡ true → l ≡ limit) → l ≡ limit
      go (same p x) e ih = x
      go (other p x) e ih = ih (simp p at e)

  abbrev Fair' : History → Call → (total number start : ℕ) → Type 0
  Fair' = Fair n Command key M halves (FewerThanLeastOfAll calls)

  fair_rest : (j m : ℕ) (q : History) → Waits m q → j + m < limit → Along n Command key 2 Fair' q (silence limit j ++ takes (second b) ∷ [])
  fair_rest zero m q w few = (
    (λ total number start e o.
        let (k, t, m', s) = same_part (sym (reads_second n pos b) ∙ e) in
        record {
          counted = sym t;
          brought = rw (← m', ← s);
          few_others = λ ne. rw w.alone pos.some;
          in_time = λ ne l h. omega (arith, w.count, one_limit (limit - 1) l h);
        }),
    tt,
  )
  fair_rest (suc j) m q w few = (tt, fair_rest j (suc m) (history_by n Command key q (beats limit)) (waits_beat m q w) (omega arith))

  proper_rest : (j : ℕ) → All Proper (silence limit j ++ takes (second b) ∷ [])
  proper_rest zero = (proper_second n pos b, tt)
  proper_rest (suc j) = (high, proper_rest j)

  starts : Start n Command key M halves (FewerThanLeastOfAll calls) (cells n b) [] calls
  starts = record {
    formed = refl;
    cut = window.in_messages refl refl;
    two = omega arith;
    size = length-replicate (cells_size n) b;
    before = each Proper [] tt;
    proper = each Proper calls (proper_first n pos b, proper_rest (limit - 1));
    lacks = λ j l u e. fresh_free n Command pos j l u;
    fair = each_with n Command key 2 Fair' calls w₀ (
      (λ total number start e o.
          let (k, t, m, s) = same_part (sym (reads_first n pos b) ∙ e) in
          record { counted = sym t; brought = rw (← m, ← s); few_others = λ ne. absurd (ne refl); in_time = λ ne. absurd (ne refl) }),
      fair_rest (limit - 1) 0 w₁ waits_first (omega arith),
    );
  }

  abbrev q₁ : History
  q₁ = follow n Command key w₀ (takes (first b) ∷ silence limit (limit - 1))

  waits_then : Waits (limit - 1 + 0) q₁
  waits_then = waits_all (limit - 1) 0 w₁ waits_first

  handed : window.Served n Command key M halves q₁ (second b) 2 2 6 → (outcome n q₁.store (second b)).answer ≡ packet 16
  unfolding all_below
  handed (window.again r old bears e) = absurd (clash false (rw waits_then.arrived at old) refl)
  handed (window.waits r i d new open' e place bears) = absurd (clash true refl (rw waits_then.arrived at open'))
  handed (window.wakes r new all lacks e) = ap (λ (x : After). x.answer) e

  met_in_time : MetInTime n b limit
  unfolding all_below
  met_in_time = record {
    start = starts;
    comes = ap (λ (st : Store). (outcome n st (second b)).answer) (sym (store_run n Command key (takes (first b) ∷ silence limit (limit - 1)) w₀))
        ∙ handed (wake_window_of_all n pos Command key M halves (cells n b) [] calls starts (takes (first b) ∷ silence limit (limit - 1)) (second b) [] refl 2 2 6 (reads_second n pos b) (rw waits_then.arrived));
  }

pub on_the_limit : (n : ℕ) → Slots n → OnTheLimit n
on_the_limit n pos b limit low high = (met_in_time n pos b limit low high, missed_too_late n pos b limit low high)
