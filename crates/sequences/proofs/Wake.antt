-- The wake window: the invariant holds from call to call, so each call with the key is served.
use Prim.Native.Nat.{ℕ, suc, ◌+◌, ◌-◌, ◌≤◌, ◌<◌}
use mathlib.Core.Path.{◌≡◌, refl, sym, ap, ◌∙◌, subst}
use mathlib.Core.Bool.{Bool, true, false, cond, ◌||◌, or-true}
use mathlib.Core.List.{List, [], ◌∷◌, ◌++◌}
use mathlib.Core.Option.{Option, none, some}
use native.Mathlib.Omega.{arith}
use lib.ListN.{length, get_or, drop}
use lib.Dec.{eqb}
use borrow.Author.Tests.{eq-eqb}
use Rattle.octets.specs.Octets.{Octets}
use Rattle.octets.specs.Tests.{clash, Same, same, other, same?}
use Rattle.types.specs.declared.Kind.{Kind}
use Rattle.types.specs.Refusals as reading
use Rattle.packet.specs.Packets.{well_formed}
use Rattle.types.specs.declared.Key.{Key}
use Rattle.arrival.specs.Arrivals.{Brought, single, part}
use Rattle.arrival.specs.Laws.{Admitted}
use Rattle.joined.specs.Fronts.{packet_in}
use Rattle.slots.specs.BelowLaws.{all_at, all_hold}
use Rattle.series.specs.Taking.{State, After, state, hand_out, step, take_part, taken}
use Rattle.beats.specs.Beats.{AfterBeat, beat}
use Rattle.series.specs.Calls.{read, octets_of}
use Rattle.series.specs.CaseLaws.{Case, case_of}
use Rattle.slots.specs.FrontLaws.{key_same}
use Rattle.formed.specs.Laws.{Formed}
use Rattle.types.specs.declared.Record.{Record}
use Rattle.series.specs.CallLaws as input
use Rattle.sequences.specs.Lists.{elem, add, complete}
use Rattle.sequences.specs.Runs.{Slots, Call, Event, takes, beats, Store, outcome, left, ProperCall, Proper, Each}
use Rattle.sequences.specs.Timely.{limits_of, FewerThanLeastOfAll, FewerThanLeast, InTime}
use Rattle.sequences.specs.Wake.{Cut, History, Start, begin, history_after, history_by, follow, EachWith, Fair, Served, again, waits, wakes, WakeWindow}
use Rattle.sequences.specs.Coming.{Comes, comes, PacketComes}
use Rattle.sequences.proofs.Lists.{Alike, alike, unlike, alike?, elem_still, add_old}
use Rattle.sequences.proofs.Calls.{is_page, taking, Kept, Admits, Beat, no_beat, is_beat, beat?, beat_is, kept_proper, kept_beat, kept_fresh}
use Rattle.sequences.proofs.Along.{Here, HereBy, Along, each_with}
use Rattle.sequences.proofs.Window.{Phase, before, during, done, beat_phase, other_part, Serves, fine_known, fine_first}

-- reading admits what a record can hold
pub admits : (k : Kind) (c : Call) → Octets (octets_of c.input) → Admits k c
admits k c = input.admits k c.input

complete_more : (t m : ℕ) (got : List ℕ) → complete t got ≡ true → complete t (add m got) ≡ true
complete_more t m got e = all_hold t (λ i. elem (i + 1) (add m got)) (λ i l. elem_still m (i + 1) got (all_at t (λ i. elem (i + 1) got) e i l))

module _ (n : ℕ) (pos : Slots n) (k : Kind) (K : Key) (P : List ℕ) (parts : List (List ℕ)) (good : well_formed k P ≡ true) (cut : Cut K P parts) (two : 2 ≤ length parts) where
  abbrev PhaseOf : History → Type 0
  PhaseOf w = Phase n K parts w.store.rec.slots w.store.cells w.arrived w.slot w.others_since w.beats_since

  -- ---- one call
  module _ (q : History) (w : Kept n k q.store) (c : Call) (p : ProperCall c) where
    abbrev s : State
    s = state q.store.rec q.store.cells c.output

    abbrev o : List ℕ
    o = octets_of c.input

    comes_to_lem : outcome n q.store c ≡ taken n s (is_page c.input) o (read k c.input)
    comes_to_lem = taking n s w.sound p.output c.input ∙ ap (λ (x : Kind). taken n s (is_page c.input) o (read x c.input)) w.kind

    module _ (ph : PhaseOf q) (fair : Here n k K (length parts) (Fair n k K P parts InTime) q c) where
      formed_here : Formed n k q.store.rec.slots
      formed_here = subst (λ (x : Kind). Formed n x q.store.rec.slots) w.kind w.sound.formed

      case_here : (X : Key) (total number start : ℕ) → Case n s X total number (drop start o) (step n s X total number (drop start o))
      case_here X total number start = case_of n s X total number (drop start o) w.sound.formed

      -- a call with the key, while parts are missing
      own_part : (total number start : ℕ) → read k c.input ≡ reading.gives (part K total number start) → complete (length parts) q.arrived ≡ false
          → Serves n k K P parts q c total number start (take_part n s K total number (drop start o))
      unfolding take_part
      own_part total number start e unfinished =
          let f = fair total number start e unfinished in
          let adm = admits k c p.octets K total number start e in
          subst (λ (t : ℕ). Serves n k K P parts q c t number start (take_part n s K t number (drop start o))) (sym f.counted)
          (go ph (subst (λ (t : ℕ). Admitted k K t number (drop start o)) f.counted adm) f.brought f.few_others f.in_time)
        where
          go : PhaseOf q → Admitted k K (length parts) number (drop start o) → drop start o ≡ get_or parts (number - 1) [] → ((q.arrived ≡ [] → ⊥) → length q.others_since < n) → ((q.arrived ≡ [] → ⊥) → InTime q.beats_since)
              → Serves n k K P parts q c (length parts) number start (take_part n s K (length parts) number (drop start o))
          go (before z lacks) adm brought few soon =
              fine_first n k K P parts good cut two q c w.kind formed_here w.sound.size number start (drop start o) adm brought z lacks
              (step n s K (length parts) number (drop start o)) (case_here K (length parts) number start)
          go (during ne track) adm brought few soon =
              fine_known n k K P parts good cut two q c w.kind formed_here w.sound.size number start (drop start o) adm brought ne q.others_since q.beats_since (track (few ne) (soon ne))
              (step n s K (length parts) number (drop start o)) (case_here K (length parts) number start)
          go (done d) adm brought few soon = absurd (clash (complete (length parts) q.arrived) d unfinished)

      -- any call
      handed : (r : Record) (x : Option (List ℕ)) → Phase n K parts r.slots q.store.cells q.arrived q.slot q.others_since q.beats_since
          → Phase n K parts (hand_out s r x).state.rec.slots (hand_out s r x).state.cells q.arrived q.slot q.others_since q.beats_since
      handed r none h = h
      handed r (some x) h = h

      own_phase : (total number start : ℕ) → read k c.input ≡ reading.gives (part K total number start) → (b : Bool) → complete (length parts) q.arrived ≡ b
          → PhaseOf (history_after n k K q (take_part n s K total number (drop start o)) (reading.gives (part K total number start)))
      own_phase total number start e true d = rw (key_same K K refl) (done (complete_more (length parts) number q.arrived d))
      own_phase total number start e false d = rw (key_same K K refl) (own_part total number start e d).phase

      by_key : (X : Key) (total number start : ℕ) → Alike X K → read k c.input ≡ reading.gives (part X total number start)
          → PhaseOf (history_after n k K q (take_part n s X total number (drop start o)) (reading.gives (part X total number start)))
      unfolding take_part
      by_key X total number start (alike f x) e =
          subst (λ (Y : Key). PhaseOf (history_after n k K q (take_part n s Y total number (drop start o)) (reading.gives (part Y total number start)))) (sym x)
          (own_phase total number start (e ∙ ap (λ (Y : Key). reading.gives (part Y total number start)) x) (complete (length parts) q.arrived) refl)
      by_key X total number start (unlike f ne) e =
          rw f (other_part n K parts k s formed_here w.sound.size X ne total number (drop start o)
          (admits k c p.octets X total number start e) q.arrived q.slot q.others_since q.beats_since (step n s X total number (drop start o)) (case_here X total number start) ph)

      phase_after : (r : reading.Outcome Brought) → read k c.input ≡ r → PhaseOf (history_after n k K q (taken n s (is_page c.input) o r) r)
      phase_after (reading.refused m) e = ph
      phase_after (reading.gives (single start)) e = handed q.store.rec (packet_in q.store.rec.kind (is_page c.input) 1 (drop start o)) ph
      phase_after (reading.gives (part X total number start)) e = by_key X total number start (alike? X K) e

      one_call : Here n k K (length parts) (Served n k K P parts) q c × PhaseOf (history_by n k K q (takes c))
      one_call = (
        (λ total number start e open'. (own_part total number start e open').served (comes_to_lem ∙ ap (taken n s (is_page c.input) o) e)),
        subst (λ (a : After). PhaseOf (history_after n k K q a (read k c.input))) (sym comes_to_lem) (phase_after (read k c.input) refl),
      )

  -- ---- one beat
  one_beat : (q : History) → Kept n k q.store → (limit : ℕ) → PhaseOf q → PhaseOf (history_by n k K q (beats limit))
  one_beat q w limit ph = go (same? limit 0)
    where
      -- with limit 0 it is refused, and leaves the record
      refused_there : (a : AfterBeat) → Beat n pos k q.store.rec limit a → limit ≡ 0 → Phase n K parts a.rec.slots q.store.cells q.arrived q.slot q.others_since q.beats_since
      refused_there a (no_beat m) z = ph
      refused_there a (is_beat low) z = absurd (omega arith)

      go : Same limit 0 → PhaseOf (history_by n k K q (beats limit))
      go (same e z) = rw e (refused_there (beat n q.store.rec limit) (beat? n pos k q.store.rec limit) z)
      go (other e z) =
          rw e (subst (λ (st : Store). Phase n K parts st.rec.slots st.cells q.arrived q.slot q.others_since (limit ∷ q.beats_since)) (sym (beat_is n pos k q.store w limit z))
          (beat_phase n K parts limit q.store.rec.slots q.store.cells q.arrived q.slot q.others_since q.beats_since ph))

  -- ---- any list of events
  sound_call : (q : History) → Kept n k q.store → (c : Call) → ProperCall c → Kept n k (history_by n k K q (takes c)).store
  sound_call q w c p = go (read k c.input)
    where
      next : Kept n k (left (outcome n q.store c))
      next = kept_proper n pos k (admits k) q.store w c p

      by_key : (X : Key) (total number start : ℕ) → Alike X K → Kept n k (history_after n k K q (outcome n q.store c) (reading.gives (part X total number start))).store
      by_key X total number start (alike f x) = rw f next
      by_key X total number start (unlike f ne) = rw f next

      go : (r : reading.Outcome Brought) → Kept n k (history_after n k K q (outcome n q.store c) r).store
      go (reading.refused m) = next
      go (reading.gives (single start)) = next
      go (reading.gives (part X total number start)) = by_key X total number start (alike? X K)

  pub sound_next : (q : History) → Kept n k q.store → (c : Event) → Proper c → Kept n k (history_by n k K q c).store
  sound_next q w (takes c) p = sound_call q w c p
  sound_next q w (beats limit) p = kept_beat n pos k (admits k) q.store w limit p

  abbrev All : History → List Event → Type 0
  All q calls = EachWith n k K (length parts) (Fair n k K P parts InTime) q calls

  rest : (q : History) (c : Event) (cs : List Event) → All q (c ∷ cs) → All (history_by n k K q c) cs
  rest q c cs f u d v e = f (c ∷ u) d v (ap (λ (l : List Event). c ∷ l) e)

  pub one_event : (q : History) → Kept n k q.store → (c : Event) (cs : List Event) → Proper c → PhaseOf q → All q (c ∷ cs)
      → HereBy n k K (length parts) (Served n k K P parts) q c × PhaseOf (history_by n k K q c)
  one_event q w (takes c) cs p ph f = one_call q w c p ph (f [] c cs refl)
  one_event q w (beats limit) cs p ph f = (tt, one_beat q w limit ph)

  served : (calls : List Event) (q : History) → Kept n k q.store → PhaseOf q → Each Proper calls → All q calls → Along n k K (length parts) (Served n k K P parts) q calls
  served [] q w ph ps f = tt
  served (c ∷ cs) q w ph ps f =
      let p = ps [] c cs refl in
      let r = one_event q w c cs p ph f in
      (r.0, served cs (history_by n k K q c) (sound_next q w c p) r.1 (λ u d v e. ps (c ∷ u) d v (ap (λ (l : List Event). c ∷ l) e)) (rest q c cs f))

  -- ---- the call that brings the last missing part
  -- a call after which no part is missing, where one was before it, brings the last of them
  last_call : (q : History) (c : Call) (cs : List Event) (r : reading.Outcome Brought) → read k c.input ≡ r
      → Here n k K (length parts) (Fair n k K P parts InTime) q c → Here n k K (length parts) (Served n k K P parts) q c
      → complete (length parts) q.arrived ≡ false → complete (length parts) (history_after n k K q (outcome n q.store c) r).arrived ≡ true → Comes n k K P parts q (takes c ∷ cs)
  last_call q c cs (reading.refused m) b f s o g = absurd (clash (complete (length parts) q.arrived) g o)
  last_call q c cs (reading.gives (single start)) b f s o g = absurd (clash (complete (length parts) q.arrived) g o)
  last_call q c cs (reading.gives (part X total number start)) b f s o g = go (alike? X K)
    where
      go : Alike X K → Comes n k K P parts q (takes c ∷ cs)
      go (unlike e ne) = absurd (clash (complete (length parts) q.arrived) (rw e at g) o)
      go (alike e x) =
          let b' : read k c.input ≡ reading.gives (part K total number start) = b ∙ ap (λ (Y : Key). reading.gives (part Y total number start)) x in
          let full : complete (length parts) (add number q.arrived) ≡ true = rw e at g in
          by_answer full (b' ∙ ap (λ (t : ℕ). reading.gives (part K t number start)) (f total number start b' o).counted) (s total number start b' o)
        where
          by_answer : complete (length parts) (add number q.arrived) ≡ true → read k c.input ≡ reading.gives (part K (length parts) number start)
              → Served n k K P parts q c total number start → Comes n k K P parts q (takes c ∷ cs)
          by_answer full b' (again r old bears is) = absurd (clash (complete (length parts) q.arrived) (rw (add_old number q.arrived old) at full) o)
          by_answer full b' (waits r i d new open' is place bears) = absurd (clash (complete (length parts) (add number q.arrived)) full open')
          by_answer full b' (wakes r new all gone is) = comes [] c cs number start r refl b' new all gone is

  handed_out : (calls : List Event) (q : History) → All q calls → Along n k K (length parts) (Served n k K P parts) q calls → complete (length parts) q.arrived ≡ false
      → complete (length parts) (follow n k K q calls).arrived ≡ true → Comes n k K P parts q calls
  handed_out [] q f s o g = absurd (clash (complete (length parts) q.arrived) g o)
  handed_out (c ∷ cs) q f s o g =
      go (complete (length parts) (history_by n k K q c).arrived) refl (λ o'. handed_out cs (history_by n k K q c) (rest q c cs f) s.1 o' g)
    where
      later : Comes n k K P parts (history_by n k K q c) cs → Comes n k K P parts q (c ∷ cs)
      later (comes u d v number start r at reads new all gone is) = comes (c ∷ u) d v number start r (ap (λ (l : List Event). c ∷ l) at) reads new all gone is

      -- no beat brings a part
      now : (d : Event) → All q (d ∷ cs) → HereBy n k K (length parts) (Served n k K P parts) q d → complete (length parts) (history_by n k K q d).arrived ≡ true → Comes n k K P parts q (d ∷ cs)
      now (takes d) f s e = last_call q d cs (read k d.input) refl (f [] d cs refl) s o e
      now (beats limit) f s e = absurd (clash (complete (length parts) q.arrived) e o)

      go : (b : Bool) → complete (length parts) (history_by n k K q c).arrived ≡ b
          → (complete (length parts) (history_by n k K q c).arrived ≡ false → Comes n k K P parts (history_by n k K q c) cs) → Comes n k K P parts q (c ∷ cs)
      go true e ih = now c f s.0 e
      go false e ih = later (ih e)

-- ---- the theorems
module _ (n : ℕ) (pos : Slots n) (k : Kind) (K : Key) (P : List ℕ) (parts : List (List ℕ)) where
  all_served : (cells : List ℕ) (earlier calls : List Event) → Start n k K P parts InTime cells earlier calls
      → Along n k K (length parts) (Served n k K P parts) (begin n k cells earlier) calls
  all_served cells earlier calls st =
      served n pos k K P parts st.formed st.cut st.two calls (begin n k cells earlier)
      (kept_fresh n pos k (admits k) cells st.size earlier st.before) (before refl st.lacks) st.proper st.fair

  pub wake_window : WakeWindow n k K P parts (λ events. InTime)
  wake_window cells earlier calls st = each_with n k K (length parts) (Served n k K P parts) calls (begin n k cells earlier) (all_served cells earlier calls st)

  pub packet_comes : PacketComes n k K P parts (λ events. InTime)
  packet_comes cells earlier calls st =
      handed_out n pos k K P parts st.formed st.cut st.two calls (begin n k cells earlier) st.fair (all_served cells earlier calls st)
      (none_complete_lem (length parts) st.two)
    where
      none_complete_lem : (t : ℕ) → 2 ≤ t → complete t [] ≡ false
      none_complete_lem t two = go (complete t []) refl
        where
          go : (b : Bool) → complete t [] ≡ b → b ≡ false
          go false e = refl
          go true e = absurd (clash false (all_at t (λ i. elem (i + 1) []) e 0 (omega arith)) refl)

-- ---- in the words of 02
-- fewer beats than the least limit are in time: the i-th has i − 1 before it, and there are fewer than its limit in all
fewer_in_time : (limits : List ℕ) → FewerThanLeast limits → InTime limits
fewer_in_time limits few = go limits 0 (λ limit e. omega (arith, few limit e))
  where
    -- with m beats more behind these
    go : (limits : List ℕ) (m : ℕ) → ((limit : ℕ) → elem limit limits ≡ true → length limits + m < limit) → InTime limits
    go [] m few = tt
    go (limit ∷ earlier) m few =
        (omega (arith, few limit (rw (eq-eqb limit limit refl))), go earlier (suc m) (λ l e. omega (arith, few l (either l (same? l limit) e))))
      where
        either : (l : ℕ) → Same l limit → elem l earlier ≡ true → eqb l limit || elem l earlier ≡ true
        either l (same p q) e = rw p
        either l (other p q) e = rw p e

-- the limits of the beats since the last call with the key are among those that the sequence uses
abbrev Among : List ℕ → List ℕ → Type 0
Among used limits = (limit : ℕ) → elem limit limits ≡ true → elem limit used ≡ true

elem_either : (l : ℕ) (xs ys : List ℕ) → elem l (xs ++ ys) ≡ elem l xs || elem l ys
elem_either l [] ys = refl
elem_either l (x ∷ xs) ys = go (eqb l x) (elem_either l xs ys)
  where
    go : (b : Bool) → elem l (xs ++ ys) ≡ elem l xs || elem l ys → b || elem l (xs ++ ys) ≡ (b || elem l xs) || elem l ys
    go true e = refl
    go false e = e

limits_both : (es fs : List Event) → limits_of (es ++ fs) ≡ limits_of es ++ limits_of fs
limits_both [] fs = refl
limits_both (takes c ∷ es) fs = limits_both es fs
limits_both (beats limit ∷ es) fs = go (eqb limit 0) (limits_both es fs)
  where
    go : (b : Bool) → limits_of (es ++ fs) ≡ limits_of es ++ limits_of fs
        → cond b (limits_of (es ++ fs)) (limit ∷ limits_of (es ++ fs)) ≡ cond b (limits_of es) (limit ∷ limits_of es) ++ limits_of fs
    go true e = e
    go false e = ap (λ (l : List ℕ). limit ∷ l) e

-- a call leaves of them all or none, and a beat that is not refused adds its own, which the sequence uses
module _ (n : ℕ) (k : Kind) (K : Key) (used : List ℕ) where
  since_call : (w : History) (a : After) (r : reading.Outcome Brought) → Among used w.beats_since → Among used (history_after n k K w a r).beats_since
  since_call w a (reading.refused m) old = old
  since_call w a (reading.gives (single start)) old = old
  since_call w a (reading.gives (part X total number start)) old = go (alike? X K)
    where
      go : Alike X K → Among used (history_after n k K w a (reading.gives (part X total number start))).beats_since
      go (alike e p) = rw e (λ limit z. absurd (clash false z refl))
      go (unlike e p) = rw e old

  since_among : (es : List Event) (w : History) → Among used (limits_of es) → Among used w.beats_since → Among used (follow n k K w es).beats_since
  since_among [] w all old = old
  since_among (takes c ∷ es) w all old =
      since_among es (history_by n k K w (takes c)) all (since_call w (outcome n w.store c) (read k c.input) old)
  since_among (beats limit ∷ es) w all old =
      since_among es (history_by n k K w (beats limit)) (rest (eqb limit 0) all) (more (eqb limit 0) all old)
    where
      rest : (b : Bool) → Among used (cond b (limits_of es) (limit ∷ limits_of es)) → Among used (limits_of es)
      rest true all = all
      rest false all = λ l e. all l (ap (λ (b : Bool). eqb l limit || b) e ∙ or-true (eqb l limit))

      more : (b : Bool) → Among used (cond b (limits_of es) (limit ∷ limits_of es)) → Among used w.beats_since
          → Among used (cond b w.beats_since (limit ∷ w.beats_since))
      more true all old = old
      more false all old = λ l e. go l (same? l limit) e
        where
          go : (l : ℕ) → Same l limit → eqb l limit || elem l w.beats_since ≡ true → elem l used ≡ true
          go l (same p x) e = all l (rw p)
          go l (other p x) e = old l (simp p at e)

module _ (n : ℕ) (pos : Slots n) (k : Kind) (K : Key) (P : List ℕ) (parts : List (List ℕ)) where
  -- a premise on beats that implies another, at each call, may stand for it
  refit : (Timely Other : List ℕ → Type 0) (cells : List ℕ) (earlier calls : List Event)
      → ((u : List Event) (c : Call) (v : List Event) → calls ≡ u ++ takes c ∷ v
      → Timely (follow n k K (begin n k cells earlier) u).beats_since → Other (follow n k K (begin n k cells earlier) u).beats_since)
      → Start n k K P parts Timely cells earlier calls → Start n k K P parts Other cells earlier calls
  refit Timely Other cells earlier calls implied st = record {
    formed = st.formed;
    cut = st.cut;
    two = st.two;
    size = st.size;
    before = st.before;
    proper = st.proper;
    lacks = st.lacks;
    fair = λ u c v e total number start reads open'.
        let f = st.fair u c v e total number start reads open' in
        record { counted = f.counted; brought = f.brought; few_others = f.few_others; in_time = λ begun. implied u c v e (f.in_time begun) };
  }

  pub sharper : (cells : List ℕ) (earlier calls : List Event) → Start n k K P parts FewerThanLeast cells earlier calls → Start n k K P parts InTime cells earlier calls
  sharper cells earlier calls = refit FewerThanLeast InTime cells earlier calls (λ u c v e. fewer_in_time (follow n k K (begin n k cells earlier) u).beats_since)

  pub wake_window_least : WakeWindow n k K P parts (λ events. FewerThanLeast)
  wake_window_least cells earlier calls st = wake_window n pos k K P parts cells earlier calls (sharper cells earlier calls st)

  pub packet_comes_least : PacketComes n k K P parts (λ events. FewerThanLeast)
  packet_comes_least cells earlier calls st = packet_comes n pos k K P parts cells earlier calls (sharper cells earlier calls st)

  -- the least over all of the sequence is at most the least over the beats between two calls
  pub between : (cells : List ℕ) (earlier calls : List Event) → Start n k K P parts (FewerThanLeastOfAll (earlier ++ calls)) cells earlier calls
      → Start n k K P parts FewerThanLeast cells earlier calls
  between cells earlier calls = refit (FewerThanLeastOfAll (earlier ++ calls)) FewerThanLeast cells earlier calls
      (λ u c v e few limit l. few limit (since_among n k K (limits_of (earlier ++ calls)) u (begin n k cells earlier) (of_all u c v e) (λ m z. absurd (clash false z refl)) limit l))
    where
      of_all : (u : List Event) (c : Call) (v : List Event) → calls ≡ u ++ takes c ∷ v → Among (limits_of (earlier ++ calls)) (limits_of u)
      of_all u c v e limit l = ap (λ (es : List Event). elem limit (limits_of (earlier ++ es))) e
          ∙ ap (elem limit) (limits_both earlier (u ++ takes c ∷ v) ∙ ap (λ (o : List ℕ). limits_of earlier ++ o) (limits_both u (takes c ∷ v)))
          ∙ elem_either limit (limits_of earlier) (limits_of u ++ limits_of (takes c ∷ v))
          ∙ ap (λ (b : Bool). elem limit (limits_of earlier) || b) (elem_either limit (limits_of u) (limits_of v) ∙ ap (λ (b : Bool). b || elem limit (limits_of v)) l)
          ∙ or-true (elem limit (limits_of earlier))

  pub wake_window_of_all : WakeWindow n k K P parts FewerThanLeastOfAll
  wake_window_of_all cells earlier calls st = wake_window_least cells earlier calls (between cells earlier calls st)

  pub packet_comes_of_all : PacketComes n k K P parts FewerThanLeastOfAll
  packet_comes_of_all cells earlier calls st = packet_comes_least cells earlier calls (between cells earlier calls st)
