-- Others do not show. The window's exact answers to a call with the key depend on what has arrived, on the slot of the first answer, and on the
-- call; so does what record and cells hold of the series, by the invariant. What has arrived depends on the calls with the key alone. The first
-- answer is the same in two runs, since it is the same call on the same record; and the run without the others is within the window too: as
-- many beats have come since the last call with the key, and no others.
use Prim.Native.Nat.{ℕ, zero, suc, ◌-◌, ◌≤◌, ◌<◌}
use mathlib.Core.Path.{◌≡◌, refl, sym, ap, ◌∙◌, subst}
use mathlib.Core.Bool.{Bool, true, false, cond}
use mathlib.Core.List.{List, [], ◌∷◌, ◌++◌, nil≢cons, head-eq_of_cons-eq}
use mathlib.Core.Option.{Option, none, some}
use native.Mathlib.Omega.{arith}
use lib.ListN.{length, get_or, drop}
use lib.Dec.{eqb, ltb}
use borrow.Author.Tests.{ne_eqb, not-true, ltb-true, ltb-false}
use Rattle.octets.specs.Octets.{placed}
use Rattle.octets.specs.Tests.{clash, both, both_hold}
use Rattle.types.specs.declared.Kind.{Kind}
use Rattle.types.specs.declared.Kind.TheVariants.{Command}
use Rattle.types.specs.Refusals as reading
use Rattle.packet.specs.Packets.{well_formed}
use Rattle.types.specs.declared.Key.{Key}
use Rattle.arrival.specs.Arrivals.{Brought, single, part}
use Rattle.header.specs.Header.{elements_after, summary}
use Rattle.arrival.specs.Message.{most_parts, judged, read_message}
use Rattle.arrival.specs.Keys.{key_formed, length_fits}
use Rattle.joined.specs.Fronts.{packet_in}
use Rattle.slots.specs.Below.{all_below, any_below, count_below}
use Rattle.types.specs.declared.Slot.{Slot}
use Rattle.slots.specs.Slots.{slot_at, used, same_key, bears, find, find_in, aged, closed, to_front, freed}
use Rattle.slots.specs.RankLaws.{pos_taken}
use Rattle.slots.specs.FrontLaws.{same_key_lem, key_same, FoundIn, hit_in, miss_in, find_in?}
use Rattle.formed.specs.Formed.{all_zero, used_formed, slot_formed, keys_differ, ranked, counts_follow, slots_formed}
use Rattle.formed.specs.Laws.{Formed, array_holds}
use Rattle.cells.specs.Cells.{joined, cell_part, joined_octets}
use Rattle.series.specs.CaseLaws.{Bears, Lacks}
use Rattle.series.specs.Taking.{After, Answer, kept, held_already, packet, step, take_part, take_message}
use Rattle.series.specs.Calls.{read}
use Rattle.sequences.specs.Lists.{elem, add, complete}
use Rattle.sequences.specs.Runs.{Slots, Call, Event, takes, beats, Store, fresh, outcome, left, Proper, Each}
use Rattle.sequences.specs.Timely.{FewerThanLeast, InTime}
use Rattle.sequences.specs.Wake.{Cut, History, first_slot, Seating, lowest_free, least_recent_lem, goes_on, begin, history_after, history_by, follow, EachWith, Fair, Served, again, waits, wakes, Start}
use Rattle.sequences.specs.SplitTaken.{listed}
use Rattle.sequences.specs.Examples.{M}
use Rattle.sequences.specs.Reached.{key, halves, first, second, stranger, strangers, crowd, cells}
use Rattle.shuffles.specs.Others.{bears_own, bears_other, with_key, of_another, without_others, calls_with, Holding, part_held, holding_at, holding, View, view_by, view_of, view_behind, OfSeries, OthersUnseen, WithinToo, Isolated, OnlyByMany, OthersDoNotShow, OthersShow, TwoOthers, second_view}
use Rattle.sequences.proofs.Lists.{Alike, alike, unlike, alike?, add_old, add_not_nil, first_known}
use Rattle.sequences.proofs.Track.{Track}
use Rattle.sequences.proofs.Calls.{Kept, kept_proper, kept_fresh}
use Rattle.sequences.proofs.Window.{Phase, before, during, done}
use Rattle.sequences.proofs.Wake.{admits, sound_next, one_event, sharper}
use Rattle.sequences.proofs.Reached.{reads_first, reads_second, reads_other, met, missed}
use Rattle.sequences.proofs.Along.{All, each, all_of_lem, all_more, Here, HereBy, Along, each_with, along_of, along_more, run_more, store_run}

-- ---- the run without the others is within the window
module _ (n : ℕ) (k : Kind) (K : Key) where
  -- what two histories have in common, where the second is without the others
  record Beside (w w' : History) : Type 0 where
    arrived : w'.arrived ≡ w.arrived
    beats : w'.beats_since ≡ w.beats_since
    nobody : w'.others_since ≡ []

  left_out : (w w' : History) (a : After) (r : reading.Outcome Brought) → bears_other K r ≡ true → Beside w w' → Beside (history_after n k K w a r) w'
  left_out w w' a (reading.refused m) e b = absurd (clash false e refl)
  left_out w w' a (reading.gives (single start)) e b = absurd (clash false e refl)
  left_out w w' a (reading.gives (part X total number start)) e b = go (alike? X K)
    where
      go : Alike X K → Beside (history_after n k K w a (reading.gives (part X total number start))) w'
      go (alike f x) = absurd (clash false (rw f at e) refl)
      go (unlike f ne) = rw f (record { arrived = b.arrived; beats = b.beats; nobody = b.nobody })

  in_both : (w w' : History) (a a' : After) (r : reading.Outcome Brought) → bears_other K r ≡ false → Beside w w' → Beside (history_after n k K w a r) (history_after n k K w' a' r)
  in_both w w' a a' (reading.refused m) e b = record { arrived = b.arrived; beats = b.beats; nobody = b.nobody }
  in_both w w' a a' (reading.gives (single start)) e b = record { arrived = b.arrived; beats = b.beats; nobody = b.nobody }
  in_both w w' a a' (reading.gives (part X total number start)) e b = go (alike? X K)
    where
      go : Alike X K → Beside (history_after n k K w a (reading.gives (part X total number start))) (history_after n k K w' a' (reading.gives (part X total number start)))
      go (alike f x) = rw f (record { arrived = ap (add number) b.arrived; beats = refl; nobody = refl })
      go (unlike f ne) = absurd (clash true refl (rw f at e))

  event_left_out : (w w' : History) (e : Event) → of_another k K e ≡ true → Beside w w' → Beside (history_by n k K w e) w'
  event_left_out w w' (takes c) e b = left_out w w' (outcome n w.store c) (read k c.input) e b
  event_left_out w w' (beats limit) e b = absurd (clash false e refl)

  event_in_both : (w w' : History) (e : Event) → of_another k K e ≡ false → Beside w w' → Beside (history_by n k K w e) (history_by n k K w' e)
  event_in_both w w' (takes c) e b = in_both w w' (outcome n w.store c) (outcome n w'.store c) (read k c.input) e b
  event_in_both w w' (beats limit) e b =
      record { arrived = b.arrived; beats = ap (λ (l : List ℕ). cond (eqb limit 0) l (limit ∷ l)) b.beats; nobody = b.nobody }

  module _ (P : List ℕ) (parts : List (List ℕ)) (Timely : List ℕ → Type 0) (some-slot : 0 < n) where
    abbrev FairHere : History → Event → Type 0
    FairHere = HereBy n k K (length parts) (Fair n k K P parts Timely)

    fair_here : (w w' : History) (e : Event) → Beside w w' → FairHere w e → FairHere w' e
    fair_here w w' (beats limit) b f = tt
    fair_here w w' (takes c) b f = λ total number start reads open'.
        let g = f total number start reads (ap (complete (length parts)) (sym b.arrived) ∙ open') in record {
          counted = g.counted;
          brought = g.brought;
          few_others = λ begun. omega (arith, ap length b.nobody);
          in_time = λ begun. subst Timely (sym b.beats) (g.in_time (λ z. begun (b.arrived ∙ z)));
        }

    abbrev FairAll : History → List Event → Type 0
    FairAll = Along n k K (length parts) (Fair n k K P parts Timely)

    fair_without : (calls : List Event) (w w' : History) → Beside w w' → FairAll w calls → FairAll w' (without_others k K calls)
    fair_without [] w w' b f = tt
    fair_without (e ∷ es) w w' b f = go (of_another k K e) refl (λ v b'. fair_without es (history_by n k K w e) v b' f.1)
      where
        go : (t : Bool) → of_another k K e ≡ t → ((v : History) → Beside (history_by n k K w e) v → FairAll v (without_others k K es)) → FairAll w' (cond t (without_others k K es) (e ∷ without_others k K es))
        go true h ih = ih w' (event_left_out w w' e h b)
        go false h ih = (fair_here w w' e b f.0, ih (history_by n k K w' e) (event_in_both w w' e h b))

    proper_without : (calls : List Event) → All Proper calls → All Proper (without_others k K calls)
    proper_without [] ps = tt
    proper_without (e ∷ es) ps = go (of_another k K e) (proper_without es ps.1)
      where
        go : (t : Bool) → All Proper (without_others k K es) → All Proper (cond t (without_others k K es) (e ∷ without_others k K es))
        go true ih = ih
        go false ih = (ps.0, ih)

    within_too : WithinToo n k K P parts Timely
    within_too cells earlier calls st = record {
      formed = st.formed;
      cut = st.cut;
      two = st.two;
      size = st.size;
      before = st.before;
      proper = each Proper (without_others k K calls) (proper_without calls (all_of_lem Proper calls st.proper));
      lacks = st.lacks;
      fair = each_with n k K (length parts) (Fair n k K P parts Timely) (without_others k K calls) (begin n k cells earlier)
          (fair_without calls (begin n k cells earlier) (begin n k cells earlier) (record { arrived = refl; beats = refl; nobody = refl })
          (along_of n k K (length parts) (Fair n k K P parts Timely) calls (begin n k cells earlier) st.fair));
    }

-- ---- what has arrived depends on the calls with the key
same_numbers : {K : Key} {t₁ t₂ m₁ m₂ s₁ s₂ : ℕ} → reading.gives (part K t₁ m₁ s₁) ≡ reading.gives (part K t₂ m₂ s₂) → (t₁ ≡ t₂) × (m₁ ≡ m₂) × (s₁ ≡ s₂)
same_numbers e = (cc, cc, cc)

module _ (k : Kind) (K : Key) where
  -- a call with the key, by its reading
  data Own (c : Call) : Type 0 where
    own : (total number start : ℕ) → read k c.input ≡ reading.gives (part K total number start) → Own c

  own_call : (c : Call) → with_key k K c ≡ true → Own c
  own_call c = go (read k c.input) refl
    where
      go : (r : reading.Outcome Brought) → read k c.input ≡ r → bears_own K r ≡ true → Own c
      go (reading.refused m) e t = absurd (clash false t refl)
      go (reading.gives (single start)) e t = absurd (clash false t refl)
      go (reading.gives (part X total number start)) e t = own total number start (e ∙ ap (λ (Y : Key). reading.gives (part Y total number start)) (same_key_lem X K t))

  own_or_other : (r : reading.Outcome Brought) → bears_other K r ≡ true → bears_own K r ≡ false
  own_or_other (reading.refused m) e = refl
  own_or_other (reading.gives (single start)) e = refl
  own_or_other (reading.gives (part X total number start)) e = not-true (same_key X K) e

  own_stays : (c : Call) → with_key k K c ≡ true → of_another k K (takes c) ≡ false
  own_stays c t = go (of_another k K (takes c)) refl
    where
      go : (b : Bool) → of_another k K (takes c) ≡ b → b ≡ false
      go true e = absurd (clash (with_key k K c) t (own_or_other (read k c.input) e))
      go false e = refl

  without_own : (c : Call) (v : List Event) → with_key k K c ≡ true → without_others k K (takes c ∷ v) ≡ takes c ∷ without_others k K v
  without_own c v t = ap (λ (b : Bool). cond b (without_others k K v) (takes c ∷ without_others k K v)) (own_stays c t)

  without_more : (u v : List Event) → without_others k K (u ++ v) ≡ without_others k K u ++ without_others k K v
  without_more [] v = refl
  without_more (e ∷ u) v = go (of_another k K e) (without_more u v)
    where
      go : (b : Bool) → without_others k K (u ++ v) ≡ without_others k K u ++ without_others k K v
          → cond b (without_others k K (u ++ v)) (e ∷ without_others k K (u ++ v)) ≡ cond b (without_others k K u) (e ∷ without_others k K u) ++ without_others k K v
      go true ih = ih
      go false ih = ap (λ (l : List Event). e ∷ l) ih

  -- the calls with the key are the same in both runs
  calls_stay : (u : List Event) → calls_with k K (without_others k K u) ≡ calls_with k K u
  calls_stay [] = refl
  calls_stay (beats limit ∷ u) = calls_stay u
  calls_stay (takes c ∷ u) = go (of_another k K (takes c)) refl (calls_stay u)
    where
      go : (b : Bool) → of_another k K (takes c) ≡ b → calls_with k K (without_others k K u) ≡ calls_with k K u
          → calls_with k K (cond b (without_others k K u) (takes c ∷ without_others k K u)) ≡ cond (with_key k K c) (c ∷ calls_with k K u) (calls_with k K u)
      go true e ih = ih ∙ sym (ap (λ (b : Bool). cond b (c ∷ calls_with k K u) (calls_with k K u)) (own_or_other (read k c.input) e))
      go false e ih = ap (λ (l : List Call). cond (with_key k K c) (c ∷ l) l) ih

  abbrev numbered : reading.Outcome Brought → List ℕ → List ℕ
  numbered (reading.refused m) got = got
  numbered (reading.gives (single start)) got = got
  numbered (reading.gives (part X total number start)) got = add number got

  abbrev arrived_by : List ℕ → List Call → List ℕ
  arrived_by got [] = got
  arrived_by got (c ∷ cs) = arrived_by (numbered (read k c.input) got) cs

  module _ (n : ℕ) where
    arrived_by_lem : (u : List Event) (w : History) → (follow n k K w u).arrived ≡ arrived_by w.arrived (calls_with k K u)
    arrived_by_lem [] w = refl
    arrived_by_lem (beats limit ∷ u) w = arrived_by_lem u (history_by n k K w (beats limit))
    arrived_by_lem (takes c ∷ u) w = arrived_by_lem u (history_by n k K w (takes c)) ∙ go (read k c.input) refl
      where
        go : (r : reading.Outcome Brought) → read k c.input ≡ r
            → arrived_by (history_after n k K w (outcome n w.store c) r).arrived (calls_with k K u) ≡ arrived_by w.arrived (cond (bears_own K r) (c ∷ calls_with k K u) (calls_with k K u))
        go (reading.refused m) e = refl
        go (reading.gives (single start)) e = refl
        go (reading.gives (part X total number start)) e = by_key (alike? X K)
          where
            by_key : Alike X K
                → arrived_by (history_after n k K w (outcome n w.store c) (reading.gives (part X total number start))).arrived (calls_with k K u)
                ≡ arrived_by w.arrived (cond (same_key X K) (c ∷ calls_with k K u) (calls_with k K u))
            by_key (alike f x) = rw f (ap (λ (r : reading.Outcome Brought). arrived_by (numbered r w.arrived) (calls_with k K u)) (sym e))
            by_key (unlike f ne) = rw f

    -- behind the first part, the slot of the first answer stays
    record Begun (i : ℕ) (w : History) : Type 0 where
      some_came : w.arrived ≡ [] → ⊥
      in_slot : w.slot ≡ i

    begun_more : (i : ℕ) (w : History) (e : Event) → Begun i w → Begun i (history_by n k K w e)
    begun_more i w (beats limit) b = record { some_came = b.some_came; in_slot = b.in_slot }
    begun_more i w (takes c) b = go (read k c.input)
      where
        go : (r : reading.Outcome Brought) → Begun i (history_after n k K w (outcome n w.store c) r)
        go (reading.refused m) = record { some_came = b.some_came; in_slot = b.in_slot }
        go (reading.gives (single start)) = record { some_came = b.some_came; in_slot = b.in_slot }
        go (reading.gives (part X total number start)) = by_key (alike? X K)
          where
            by_key : Alike X K → Begun i (history_after n k K w (outcome n w.store c) (reading.gives (part X total number start)))
            by_key (alike f x) =
                rw f (record { some_came = add_not_nil number w.arrived; in_slot = first_known w.arrived (outcome n w.store c).answer w.slot b.some_came ∙ b.in_slot })
            by_key (unlike f ne) = rw f (record { some_came = b.some_came; in_slot = b.in_slot })

    begun_all : (i : ℕ) (u : List Event) (w : History) → Begun i w → Begun i (follow n k K w u)
    begun_all i [] w b = b
    begun_all i (e ∷ u) w b = begun_all i u (history_by n k K w e) (begun_more i w e b)

    begun_first : (w : History) (c : Call) → Own c → Begun (history_by n k K w (takes c)).slot (history_by n k K w (takes c))
    begun_first w c (own total number start e) = record { some_came = came; in_slot = refl }
      where
        arrives : (history_after n k K w (outcome n w.store c) (reading.gives (part K total number start))).arrived ≡ add number w.arrived
        arrives = rw (key_same K K refl)

        came : (history_by n k K w (takes c)).arrived ≡ [] → ⊥
        came z = add_not_nil number w.arrived (sym arrives ∙ ap (λ (r : reading.Outcome Brought). (history_after n k K w (outcome n w.store c) r).arrived) (sym e) ∙ z)

-- ---- what is held of the series, by the invariant
listed_same : {A : Type 0} (f g : ℕ → A) (t : ℕ) → ((m : ℕ) → 1 ≤ m → m ≤ t → f m ≡ g m) → listed f t ≡ listed g t
listed_same f g zero h = refl
listed_same f g (suc t) h = rw (listed_same f g t (λ m a b. h m a (omega arith)), h (suc t) (omega arith) (omega arith))

module _ (n : ℕ) (k : Kind) (K : Key) (xs : List Slot) (w : Formed n k xs) where
  found_there : (i : ℕ) → Bears n xs K i → find_in n (bears K) xs ≡ some i
  found_there i b = go (find_in n (bears K) xs) (find_in? n (bears K) xs (array_holds n k xs w))
    where
      go : (r : Option ℕ) → FoundIn n (bears K) xs r → r ≡ some i
      go r (hit_in j l e f) =
          let (u, q) = both (used (slot_at xs j)) (same_key (slot_at xs j).key K) e in
          ap some (w.keys j i l b.inside (pos_taken (slot_at xs j).rank u) b.used (same_key_lem (slot_at xs j).key K q ∙ sym b.key))
      go r (miss_in f) =
          absurd (clash (bears K (slot_at xs i)) (both_hold (used (slot_at xs i)) (same_key (slot_at xs i).key K) (rw (ne_eqb (slot_at xs i).rank 0 (λ z. omega (arith, b.used)))) (key_same (slot_at xs i).key K b.key)) (f i b.inside))

  found_nowhere : Lacks n xs K → find_in n (bears K) xs ≡ none
  found_nowhere lacks = go (find_in n (bears K) xs) (find_in? n (bears K) xs (array_holds n k xs w))
    where
      go : (r : Option ℕ) → FoundIn n (bears K) xs r → r ≡ none
      go r (hit_in j l e f) =
          let (u, q) = both (used (slot_at xs j)) (same_key (slot_at xs j).key K) e in
          absurd (lacks j l (pos_taken (slot_at xs j).rank u) (same_key_lem (slot_at xs j).key K q))
      go r (miss_in f) = refl

module _ (n : ℕ) (k : Kind) (K : Key) (parts : List (List ℕ)) where
  -- the series in slot i, with the numbers that have come
  abbrev part_came : List ℕ → ℕ → Option (List ℕ)
  part_came got m = cond (elem m got) (some (get_or parts (m - 1) [])) none

  abbrev held_by : ℕ → List ℕ → Option Holding
  held_by i got = some (record { slot = i; total = length parts; parts = listed (part_came got) most_parts })

  holding_is : (st : Store) → Formed n k st.rec.slots → (i : ℕ) (got : List ℕ) (since : List Key) (late : List ℕ)
      → Track n K parts st.rec.slots st.cells i got since late → holding n K st ≡ held_by i got
  holding_is st w i got since late tr =
      ap (holding_at st) (found_there n k K st.rec.slots w i tr.bears)
      ∙ ap (λ (t : ℕ). some (record { slot = i; total = t; parts = listed (part_held st.cells (slot_at st.rec.slots i) i) most_parts })) tr.total
      ∙ ap (λ (ps : List (Option (List ℕ))). some (record { slot = i; total = length parts; parts = ps })) (listed_same (part_held st.cells (slot_at st.rec.slots i) i) (part_came got) most_parts each_part)
    where
      each_part : (m : ℕ) → 1 ≤ m → m ≤ most_parts → part_held st.cells (slot_at st.rec.slots i) i m ≡ part_came got m
      each_part m a b =
          ap (λ (t : Bool). cond t (some (cell_part st.cells (slot_at st.rec.slots i) i m)) none) (tr.held m a b) ∙ go (elem m got) refl
        where
          go : (t : Bool) → elem m got ≡ t → cond t (some (cell_part st.cells (slot_at st.rec.slots i) i m)) none ≡ cond t (some (get_or parts (m - 1) [])) none
          go true e = ap some (tr.octets m a b e)
          go false e = refl

  holding_none : (st : Store) → Formed n k st.rec.slots → Lacks n st.rec.slots K → holding n K st ≡ none
  holding_none st w lacks = ap (holding_at st) (found_nowhere n k K st.rec.slots w lacks)

-- ---- what a call with the key shows, from what has arrived, the slot of the first answer, and the call
module _ (n : ℕ) (pos : Slots n) (k : Kind) (K : Key) (P : List ℕ) (parts : List (List ℕ)) where
  abbrev expected_by : Bool → Bool → List ℕ → ℕ → List ℕ → ℕ → View
  expected_by true b got i output number = record { found = held_by n k K parts i got; answer = held_already i; output = output; leaves = held_by n k K parts i got }
  expected_by false true got i output number = record { found = held_by n k K parts i got; answer = packet (length P); output = P ++ drop (length P) output; leaves = none }
  expected_by false false got i output number = record { found = held_by n k K parts i got; answer = kept i false; output = output; leaves = held_by n k K parts i (add number got) }

  abbrev expected : List ℕ → ℕ → List ℕ → ℕ → View
  expected got i output number = expected_by (elem number got) (complete (length parts) (add number got)) got i output number

  view_is : (h h' : Option Holding) (a : After) (x : Answer) (o : List ℕ) (l : Option Holding) → h ≡ h' → a.answer ≡ x → a.state.output ≡ o → holding n K (left a) ≡ l
      → view_by n K h a ≡ record { found = h'; answer = x; output = o; leaves = l }
  view_is h h' a x o l e f g i = cc

  abbrev PhaseAt : History → Type 0
  PhaseAt w = Phase n K parts w.store.rec.slots w.store.cells w.arrived w.slot w.others_since w.beats_since

  formed_at : (st : Store) → Kept n k st → Formed n k st.rec.slots
  formed_at st w = subst (λ (x : Kind). Formed n x st.rec.slots) w.kind w.sound.formed

  module _ (q : History) (w : Kept n k q.store) (c : Call) (w' : Kept n k (left (outcome n q.store c))) (total number start : ℕ)
      (reads : read k c.input ≡ reading.gives (part K total number start)) (missing : complete (length parts) q.arrived ≡ false) (begun : q.arrived ≡ [] → ⊥)
      (fair : Fair n k K P parts InTime q c total number start) (ph : PhaseAt q) (ph' : PhaseAt (history_by n k K q (takes c))) where
    abbrev a : After
    a = outcome n q.store c

    finds : holding n K q.store ≡ held_by n k K parts q.slot q.arrived
    finds = go ph
      where
        go : PhaseAt q → holding n K q.store ≡ held_by n k K parts q.slot q.arrived
        go (before z lacks) = absurd (begun z)
        go (during ne track) =
            holding_is n k K parts q.store (formed_at q.store w) q.slot q.arrived q.others_since q.beats_since (track (fair.few_others begun) (fair.in_time begun))
        go (done d) = absurd (clash (complete (length parts) q.arrived) d missing)

    -- if parts are still missing, the series is held with one part more
    leaves_more : complete (length parts) (add number q.arrived) ≡ false → holding n K (left a) ≡ held_by n k K parts q.slot (add number q.arrived)
    leaves_more open' = go (rw (key_same K K refl) at (subst (λ (r : reading.Outcome Brought). PhaseAt (history_after n k K q a r)) reads ph'))
      where
        go : Phase n K parts a.state.rec.slots a.state.cells (add number q.arrived) (first_slot q.arrived a.answer q.slot) [] []
            → holding n K (left a) ≡ held_by n k K parts q.slot (add number q.arrived)
        go (before z lacks) = absurd (add_not_nil number q.arrived z)
        go (during ne track) =
            holding_is n k K parts (left a) (formed_at (left a) w') (first_slot q.arrived a.answer q.slot) (add number q.arrived) [] [] (track (omega (arith, pos.some)) tt)
            ∙ ap (λ (i : ℕ). held_by n k K parts i (add number q.arrived)) (first_known q.arrived a.answer q.slot begun)
        go (done d) = absurd (clash (complete (length parts) (add number q.arrived)) d open')

    shows : Served n k K P parts q c total number start → view_of n K q.store c ≡ expected q.arrived q.slot c.output number
    shows (again r old bears is) =
        view_is (holding n K q.store) (held_by n k K parts q.slot q.arrived) a (held_already q.slot) c.output (held_by n k K parts q.slot q.arrived)
        finds (ap (λ (x : After). x.answer) is) (ap (λ (x : After). x.state.output) is)
        (leaves_more (ap (complete (length parts)) (add_old number q.arrived old) ∙ missing) ∙ ap (held_by n k K parts q.slot) (add_old number q.arrived old))
        ∙ sym (ap (λ (t : Bool). expected_by t (complete (length parts) (add number q.arrived)) q.arrived q.slot c.output number) old)
    shows (waits r i d new open' is place bears) =
        let (at, unmarked) = goes_on_there place in
        view_is (holding n K q.store) (held_by n k K parts q.slot q.arrived) a (kept q.slot false) c.output (held_by n k K parts q.slot (add number q.arrived))
        finds (ap (λ (x : After). x.answer) is ∙ ap (λ (j : ℕ). kept j d) at ∙ ap (kept q.slot) unmarked) (ap (λ (x : After). x.state.output) is) (leaves_more open')
        ∙ sym (ap (λ (t : Bool). expected_by t (complete (length parts) (add number q.arrived)) q.arrived q.slot c.output number) new
        ∙ ap (λ (t : Bool). expected_by false t q.arrived q.slot c.output number) open')
      where
        goes_on_there : {i : ℕ} {d : Bool} {rank : ℕ → ℕ} → Seating n rank q i d → (i ≡ q.slot) × (d ≡ false)
        goes_on_there (lowest_free z l f lower) = absurd (begun z)
        goes_on_there (least_recent_lem z l all) = absurd (begun z)
        goes_on_there (goes_on ne at) = (at, refl)
    shows (wakes r new full lacks is) =
        view_is (holding n K q.store) (held_by n k K parts q.slot q.arrived) a (packet (length P)) (P ++ drop (length P) c.output) none
        finds (ap (λ (x : After). x.answer) is) (ap (λ (x : After). x.state.output) is)
        (holding_none n k K parts (left a) (formed_at (left a) w') (subst (λ (x : After). Lacks n x.state.rec.slots K) (sym is) lacks))
        ∙ sym (ap (λ (t : Bool). expected_by t (complete (length parts) (add number q.arrived)) q.arrived q.slot c.output number) new
        ∙ ap (λ (t : Bool). expected_by false t q.arrived q.slot c.output number) full)

  -- ---- at each call of a run within the window
  record At (q : History) (rest : List Event) : Type 0 where
    kept : Kept n k q.store
    phase : PhaseAt q
    proper : Each Proper rest
    fair : EachWith n k K (length parts) (Fair n k K P parts InTime) q rest

  module _ (good : well_formed k P ≡ true) (cut : Cut K P parts) (two : 2 ≤ length parts) where
    reached : (u rest : List Event) (q : History) → At q (u ++ rest) → At (follow n k K q u) rest
    reached [] rest q h = h
    reached (e ∷ u) rest q h =
        let p = h.proper [] e (u ++ rest) refl in
        reached u rest (history_by n k K q e) (record {
          kept = sound_next n pos k K P parts good cut two q h.kept e p;
          phase = (one_event n pos k K P parts good cut two q h.kept e (u ++ rest) p h.phase h.fair).1;
          proper = λ v d z f. h.proper (e ∷ v) d z (ap (λ (l : List Event). e ∷ l) f);
          fair = λ v d z f. h.fair (e ∷ v) d z (ap (λ (l : List Event). e ∷ l) f);
        })

  -- ---- two runs from one store
  module _ (cells : List ℕ) (earlier : List Event) where
    -- what was seen before the first part, and behind some events since
    abbrev start : History
    start = begin n k cells earlier

    abbrev behind : List Event → History
    behind u = follow n k K start u

    behind_is : (u : List Event) (c : Call) → view_behind n k K cells (earlier ++ u) c ≡ view_of n K (behind u).store c
    behind_is u c = ap (λ (st : Store). view_of n K st c) (run_more n earlier u (fresh n k cells) ∙ sym (store_run n k K u start))

    shows_at : (u : List Event) (c : Call) (v : List Event) → Start n k K P parts InTime cells earlier (u ++ takes c ∷ v) → ((behind u).arrived ≡ [] → ⊥)
        → (total number begins : ℕ) → read k c.input ≡ reading.gives (part K total number begins) → complete (length parts) (behind u).arrived ≡ false
        → view_of n K (behind u).store c ≡ expected (behind u).arrived (behind u).slot c.output number
    shows_at u c v st begun total number begins reads missing =
        let h = reached st.formed st.cut st.two u (takes c ∷ v) start (record {
          kept = kept_fresh n pos k (admits k) cells st.size earlier st.before;
          phase = before refl st.lacks;
          proper = st.proper;
          fair = st.fair;
        }) in
        let p = h.proper [] (takes c) v refl in
        let next = one_event n pos k K P parts st.formed st.cut st.two (behind u) h.kept (takes c) v p h.phase h.fair in
        shows (behind u) h.kept c (kept_proper n pos k (admits k) (behind u).store h.kept c p) total number begins reads missing begun
        (h.fair [] c v refl total number begins reads missing) h.phase next.1 (next.0 total number begins reads missing)

    module _ (opening : Call) (own_first : with_key k K opening ≡ true) where
      -- the slot of the first answer
      abbrev seat : ℕ
      seat = (behind (takes opening ∷ [])).slot

      begun : (e : Event) (u : List Event) → takes opening ≡ e → Begun k K n seat (behind (e ∷ u))
      begun e u is =
          subst (λ (x : Event). Begun k K n seat (behind (x ∷ u))) is
          (begun_all k K n seat u (behind (takes opening ∷ [])) (begun_first k K n start opening (own_call k K opening own_first)))

      -- before the first part no call with the key has come
      some_call : (e : Event) (u : List Event) → takes opening ≡ e → calls_with k K (e ∷ u) ≡ [] → ⊥
      some_call e u is z =
          nil≢cons (sym z ∙ sym (ap (λ (x : Event). calls_with k K (x ∷ u)) is) ∙ ap (λ (b : Bool). cond b (opening ∷ calls_with k K u) (calls_with k K u)) own_first)

      module _ (c : Call) (total number begins : ℕ) (reads : read k c.input ≡ reading.gives (part K total number begins)) where
        -- what the call shows, from the calls with the key before it
        one_run : (calls u v : List Event) → Start n k K P parts InTime cells earlier (takes opening ∷ calls) → OfSeries n k K P parts cells earlier opening calls u c v
            → Begun k K n seat (behind u) → view_behind n k K cells (earlier ++ u) c ≡ expected (arrived_by k K [] (calls_with k K u)) seat c.output number
        one_run calls u v st l b =
            behind_is u c
            ∙ shows_at u c v (subst (Start n k K P parts InTime cells earlier) l.split st) b.some_came total number begins reads l.missing
            ∙ ap (λ (i : ℕ). expected (behind u).arrived i c.output number) b.in_slot
            ∙ ap (λ (got : List ℕ). expected got seat c.output number) (arrived_by_lem k K n u start)

        two_runs : (calls calls' u v u' v' : List Event) → Start n k K P parts InTime cells earlier (takes opening ∷ calls) → Start n k K P parts InTime cells earlier (takes opening ∷ calls')
            → OfSeries n k K P parts cells earlier opening calls u c v → OfSeries n k K P parts cells earlier opening calls' u' c v'
            → calls_with k K u ≡ calls_with k K u' → view_behind n k K cells (earlier ++ u) c ≡ view_behind n k K cells (earlier ++ u') c
        two_runs calls calls' [] v [] v' st st' l l' agree = refl
        two_runs calls calls' [] v (e ∷ u') v' st st' l l' agree = absurd (some_call e u' (head-eq_of_cons-eq l'.split) (sym agree))
        two_runs calls calls' (e ∷ u) v [] v' st st' l l' agree = absurd (some_call e u (head-eq_of_cons-eq l.split) agree)
        two_runs calls calls' (e ∷ u) v (e' ∷ u') v' st st' l l' agree =
            one_run calls (e ∷ u) v st l (begun e u (head-eq_of_cons-eq l.split))
            ∙ ap (λ (cs : List Call). expected (arrived_by k K [] cs) seat c.output number) agree
            ∙ sym (one_run calls' (e' ∷ u') v' st' l' (begun e' u' (head-eq_of_cons-eq l'.split)))

  isolated : Isolated n k K P parts InTime
  isolated cells earlier opening calls calls' st st' c u v u' v' l l' agree = go (own_call k K c l.own)
    where
      go : Own k K c → view_behind n k K cells (earlier ++ u) c ≡ view_behind n k K cells (earlier ++ u') c
      go (own total number begins reads) = two_runs cells earlier opening l.first c total number begins reads calls calls' u v u' v' st st' l l' agree

  -- in the words of 02
  isolated_least : Isolated n k K P parts FewerThanLeast
  isolated_least cells earlier opening calls calls' st st' =
      isolated cells earlier opening calls calls' (sharper n pos k K P parts cells earlier (takes opening ∷ calls) st) (sharper n pos k K P parts cells earlier (takes opening ∷ calls') st')

  -- ---- the run without the others is one of those with the same calls with the key
  module _ (Timely : List ℕ → Type 0) (alone : Isolated n k K P parts Timely) where
    others_unseen : OthersUnseen n k K P parts Timely
    others_unseen cells earlier opening calls st u c v l =
        record {
          there = there;
          same = alone cells earlier opening calls (without_others k K calls) st
              (subst (Start n k K P parts Timely cells earlier) (without_own k K opening calls l.first) (within_too n k K P parts Timely pos.some cells earlier (takes opening ∷ calls) st))
              c u v (without_others k K u) (without_others k K v) l
              (record { first = l.first; split = sym (without_own k K opening calls l.first) ∙ there; own = l.own; missing = ap (complete (length parts)) arrived_alike ∙ l.missing })
              (sym (calls_stay k K u));
        }
      where
        there : without_others k K (takes opening ∷ calls) ≡ without_others k K u ++ takes c ∷ without_others k K v
        there = ap (without_others k K) l.split ∙ without_more k K u (takes c ∷ v) ∙ ap (λ (x : List Event). without_others k K u ++ x) (without_own k K c v l.own)

        arrived_alike : (behind cells earlier (without_others k K u)).arrived ≡ (behind cells earlier u).arrived
        arrived_alike = arrived_by_lem k K n (without_others k K u) (start cells earlier) ∙ ap (arrived_by k K []) (calls_stay k K u) ∙ sym (arrived_by_lem k K n u (start cells earlier))

    -- with fewer than n others the call is within the window, and shows the same
    only_by_many : OnlyByMany n k K P parts Timely
    only_by_many cells earlier opening calls own_first st c total number begins proper reads missing fair differs = go (ltb (length (behind cells earlier (takes opening ∷ calls)).others_since) n) refl
      where
        go : (b : Bool) → ltb (length (behind cells earlier (takes opening ∷ calls)).others_since) n ≡ b → n ≤ length (behind cells earlier (takes opening ∷ calls)).others_since
        go false e = ltb-false (length (behind cells earlier (takes opening ∷ calls)).others_since) n e
        go true e =
            absurd (differs (others_unseen cells earlier opening (calls ++ takes c ∷ []) longer (takes opening ∷ calls) c []
            (record { first = own_first; split = refl; own = ap (bears_own K) reads ∙ key_same K K refl; missing = missing })).same)
          where
            here : Here n k K (length parts) (Fair n k K P parts Timely) (behind cells earlier (takes opening ∷ calls)) c
            here t m s reads' missing' =
                let (x, y, z) = same_numbers (sym reads ∙ reads') in
                rw (← x, ← y, ← z) (fair (ltb-true (length (behind cells earlier (takes opening ∷ calls)).others_since) n e))

            longer : Start n k K P parts Timely cells earlier (takes opening ∷ calls ++ takes c ∷ [])
            longer = record {
              formed = st.formed;
              cut = st.cut;
              two = st.two;
              size = st.size;
              before = st.before;
              proper = each Proper (takes opening ∷ calls ++ takes c ∷ []) (all_more Proper (takes opening ∷ calls) (takes c) (all_of_lem Proper (takes opening ∷ calls) st.proper) proper);
              lacks = st.lacks;
              fair = each_with n k K (length parts) (Fair n k K P parts Timely) (takes opening ∷ calls ++ takes c ∷ []) (start cells earlier)
                  (along_more n k K (length parts) (Fair n k K P parts Timely) (takes opening ∷ calls) (start cells earlier) c
                  (along_of n k K (length parts) (Fair n k K P parts Timely) (takes opening ∷ calls) (start cells earlier) st.fair) here);
            }

-- ---- the theorems, in both wordings
module _ (n : ℕ) (pos : Slots n) where
  all_unseen : (Timely : List ℕ → Type 0) → ((k : Kind) (K : Key) (P : List ℕ) (parts : List (List ℕ)) → Isolated n k K P parts Timely) → OthersDoNotShow n Timely
  all_unseen Timely alone = record {
    others_unseen = λ k K P parts. others_unseen n pos k K P parts Timely (alone k K P parts);
    within_too = λ k K P parts. within_too n k K P parts Timely pos.some;
    isolated = alone;
    only_by_many = λ k K P parts. only_by_many n pos k K P parts Timely (alone k K P parts);
  }

  pub others_do_not_show : OthersDoNotShow n FewerThanLeast
  others_do_not_show = all_unseen FewerThanLeast (isolated_least n pos)

  pub others_do_not_show_sharp : OthersDoNotShow n InTime
  others_do_not_show_sharp = all_unseen InTime (isolated n pos)

-- ---- the number is the right one, and the premises can be met
module _ (n : ℕ) (good : Slots n) (b : ℕ) where
  none_left : (m sender : ℕ) → 2 ≤ sender → without_others Command key (strangers b sender m) ≡ []
  none_left zero sender l = refl
  none_left (suc m) sender l =
      ap (λ (r : reading.Outcome Brought). cond (bears_other key r) (without_others Command key (strangers b (suc sender) m)) (takes (stranger b sender) ∷ without_others Command key (strangers b (suc sender) m))) (reads_other n good b sender)
      ∙ rw (ne_eqb sender 1 (λ e. omega arith)) (none_left m (suc sender) (omega arith))

  own_first : with_key Command key (first b) ≡ true
  own_first = ap (bears_own key) (reads_first n good b)

  left_first : (m : ℕ) → without_others Command key (crowd b m) ≡ takes (first b) ∷ []
  left_first m = without_own Command key (first b) (strangers b 2 m) own_first ∙ ap (λ (l : List Event). takes (first b) ∷ l) (none_left m 2 (omega arith))

  -- one part of two has come
  one_of_two : (m : ℕ) → complete 2 (follow n Command key (begin n Command (cells n b) []) (crowd b m)).arrived ≡ false
  unfolding all_below
  one_of_two m =
      ap (complete 2) (arrived_by_lem Command key n (crowd b m) (begin n Command (cells n b) []) ∙ ap (arrived_by Command key []) (sym (calls_stay Command key (crowd b m)) ∙ ap (calls_with Command key) (left_first m) ∙ ap (λ (t : Bool). cond t (first b ∷ []) []) own_first)
      ∙ ap (λ (r : reading.Outcome Brought). numbered Command key r []) (reads_first n good b))

  same_alone : view_behind n Command key (cells n b) (crowd b (n - 1)) (second b) ≡ view_behind n Command key (cells n b) (takes (first b) ∷ []) (second b)
  same_alone =
      ((others_do_not_show_sharp n good).others_unseen Command key M halves (cells n b) [] (first b) (strangers b 2 (n - 1) ++ takes (second b) ∷ []) (met n good b).start
      (crowd b (n - 1)) (second b) []
      (record { first = own_first; split = refl; own = ap (bears_own key) (reads_second n good b); missing = one_of_two (n - 1) })).same
      ∙ ap (λ (l : List Event). view_behind n Command key (cells n b) l (second b)) (left_first (n - 1))

  pub others_show : OthersShow n b
  others_show =
      let m = missed n good b in record {
        others_left_out = left_first n;
        slot = m.slot;
        with_others = m.kept_anew;
        without = ap (λ (x : View). x.answer) (sym same_alone) ∙ (met n good b).comes;
      }

three : Slots 3
three = record { some = omega arith; most = omega arith }

module _ (b : ℕ) where
  second_alone : view_behind 3 Command key (cells 3 b) (takes (first b) ∷ []) (second b) ≡ second_view b
  unfolding placed joined elements_after summary judged read_message key_formed length_fits all_below any_below count_below find aged closed to_front freed all_zero used_formed slot_formed keys_differ ranked counts_follow slots_formed cell_part joined_octets packet_in step take_part take_message
  second_alone = refl

  pub two_others : TwoOthers b
  unfolding elements_after summary judged read_message
  two_others = record {
    start = (met 3 three b).start;
    others_left_out = refl;
    with_others = same_alone 3 three b ∙ second_alone;
    without = second_alone;
  }
