-- What every call and every beat leaves: a record that is well formed and of the same kind, and cells of the same length.
use Prim.Native.Nat.{ℕ, ◌<◌}
use mathlib.Core.Path.{◌≡◌, refl, sym, ap, ◌∙◌, subst}
use mathlib.Core.Bool.{Bool, true, false, cond, not, ◌||◌}
use mathlib.Core.List.{List, [], ◌∷◌}
use native.Mathlib.Omega.{arith}
use lib.ListN.{length, drop}
use borrow.Author.Tests.{eq-eqb, ne_eqb, eqb-true, eqb-false, not-false}
use lib.Dec.{eqb}
use Rattle.octets.specs.Octets.{Octets}
use Rattle.octets.specs.Tests.{neither}
use Rattle.types.specs.declared.Kind.{Kind}
use Rattle.types.specs.Refusals as reading
use Rattle.types.specs.Refusals.{refuse◌when◌otherwise◌}
use Rattle.packet.specs.Packets.{most_octets}
use Rattle.types.specs.declared.Key.{Key}
use Rattle.arrival.specs.Arrivals.{part}
use Rattle.arrival.specs.Laws.{Admitted}
use Rattle.types.specs.declared.Slot.{Slot}
use Rattle.types.specs.declared.Record.{Record}
use Rattle.slots.specs.Slots.{slot_at, with_slots, fresh_record}
use Rattle.formed.specs.Formed.{record_formed}
use Rattle.formed.specs.Laws.{Formed, formed_told, fresh_slot, fresh_formed}
use Rattle.cells.specs.Cells.{cells_size}
use Rattle.series.specs.Taking.{State, After, state, refuse, unfit, taken}
use Rattle.beats.specs.Beats.{AfterBeat, beaten, slots_after_beat, dropped_by, leaves_beat, beat}
use Rattle.beats.proofs.BeatenLaws.{beat_formed}
use Rattle.series.specs.KeepLaws.{Sound}
use Rattle.series.proofs.KeepsFormed.{taken_sound, taken_kind}
use Rattle.series.specs.Calls.{Input, octets_of, read, take_input}
pub use Rattle.series.specs.CallLaws.{is_page, taking_any}
use Rattle.sequences.specs.Always.{BringsOctets, AlwaysFormed, NoKeyTwice}
use Rattle.sequences.specs.Runs.{Slots, Call, Event, takes, beats, Store, fresh, outcome, left, left_by, run, ProperCall, Proper, Each}

-- with a buffer or a record that is not as 01 asks
pub unfit_taken : (n : ℕ) (s : State) (i : Input) → unfit n s ≡ true → take_input n s i ≡ (refuse) 1 s
unfit_taken n s i e = taking_any n s i ∙ rw e

-- ---- with buffers of 01's lengths it is not refused 1
module _ (n : ℕ) (s : State) (w : Sound n s.rec s.cells) (size : length s.output ≡ most_octets) where
  fit : unfit n s ≡ false
  fit = rw (eq-eqb (length s.cells) (cells_size n) w.size, eq-eqb (length s.output) most_octets size, eq-eqb s.rec.count n w.number, formed_told n s.rec.kind s.rec.slots w.formed)

  pub taking : (i : Input) → take_input n s i ≡ taken n s (is_page i) (octets_of i) (read s.rec.kind i)
  taking i = taking_any n s i ∙ rw fit

-- ---- a fresh record holds no series
pub fresh_free : (n : ℕ) (k : Kind) → Slots n → (j : ℕ) → j < n → 0 < (slot_at (fresh_record n k).slots j).rank → ⊥
fresh_free n k some j l u = omega (arith, ap (λ (x : Slot). x.rank) (fresh_slot n k j (omega (arith, some.most))))

-- ---- what holds of every store that calls lead to
pub record Kept (n : ℕ) (k : Kind) (st : Store) : Type 0 where
  pub kind : st.rec.kind ≡ k
  pub sound : Sound n st.rec st.cells

-- reading admits what a record can hold
abbrev pub Admits : Kind → Call → Type 0
Admits k c =
    (key : Key) (total number start : ℕ) → read k c.input ≡ reading.gives (part key total number start)
    → Admitted k key total number (drop start (octets_of c.input))

module _ (n : ℕ) (pos : Slots n) (k : Kind) where
  -- one call
  pub kept_call : (st : Store) → Kept n k st → (c : Call) → length c.output ≡ most_octets → Admits k c → Kept n k (left (outcome n st c))
  kept_call st w c size adm =
      let s : State = state st.rec st.cells c.output in
      let e = taking n s w.sound size c.input in record {
        kind = rw e (taken_kind n s (is_page c.input) (octets_of c.input) (read st.rec.kind c.input) ∙ w.kind);
        sound = rw e (taken_sound n s w.sound (is_page c.input) (octets_of c.input) (read st.rec.kind c.input) (rw w.kind adm));
      }

  fresh_kept : (cells : List ℕ) → length cells ≡ cells_size n → Kept n k (fresh n k cells)
  fresh_kept cells size = record { kind = refl; sound = record { number = refl; formed = fresh_formed n k pos.some pos.most; size = size } }

  pub each_rest : (P : Event → Type 0) (c : Event) (cs : List Event) → Each P (c ∷ cs) → Each P cs
  each_rest P c cs all u d v e = all (c ∷ u) d v (ap (λ (l : List Event). c ∷ l) e)

  -- ---- one beat: it is refused, or the record is one beat older
  pub data Beat (r : Record) (limit : ℕ) : AfterBeat → Type 0 where
    no_beat : (m : ℕ) → Beat r limit (beaten (reading.refused m) r)
    is_beat : 0 < limit → Beat r limit (beaten (reading.gives (dropped_by limit r.slots)) (with_slots r (slots_after_beat limit r.slots)))

  pub beat? : (r : Record) (limit : ℕ) → Beat r limit (beat n r limit)
  unfolding beat
  beat? r limit = go (record_formed n r) (eqb limit 0) refl
    where
      go : (f z : Bool) → eqb limit 0 ≡ z → Beat r limit (leaves_beat r limit (refuse 1 when not f otherwise refuse 18 when z otherwise reading.gives (dropped_by limit r.slots)))
      go true true e = no_beat 18
      go true false e = let ne = eqb-false limit 0 e in is_beat (omega arith)
      go false z e = no_beat 1

  -- of a record that calls lead to, it is one unless its limit is 0
  pub beat_is : (st : Store) → Kept n k st → (limit : ℕ) → (limit ≡ 0 → ⊥) → left_by n st (beats limit) ≡ record { rec = with_slots st.rec (slots_after_beat limit st.rec.slots); cells = st.cells }
  unfolding beat
  beat_is st w limit ne =
      rw (eq-eqb st.rec.count n w.sound.number, formed_told n st.rec.kind st.rec.slots w.sound.formed, ne_eqb limit 0 ne)

  module _ (admits : (c : Call) → Octets (octets_of c.input) → Admits k c) where
    pub kept_proper : (st : Store) → Kept n k st → (c : Call) → ProperCall c → Kept n k (left (outcome n st c))
    kept_proper st w c p = kept_call st w c p.output (admits c p.octets)

    pub kept_beat : (st : Store) → Kept n k st → (limit : ℕ) → limit < 256 → Kept n k (left_by n st (beats limit))
    kept_beat st w limit high = go (beat n st.rec limit) (beat? st.rec limit)
      where
        go : (a : AfterBeat) → Beat st.rec limit a → Kept n k (record { rec = a.rec; cells = st.cells })
        go a (no_beat m) = record { kind = w.kind; sound = w.sound }
        go a (is_beat low) = record {
          kind = w.kind;
          sound = record { number = w.sound.number; formed = beat_formed n st.rec.kind st.rec.slots w.sound.formed limit low (omega arith); size = w.sound.size };
        }

    pub kept_by : (st : Store) → Kept n k st → (c : Event) → Proper c → Kept n k (left_by n st c)
    kept_by st w (takes c) p = kept_proper st w c p
    kept_by st w (beats limit) p = kept_beat st w limit p

    kept_run : (calls : List Event) (st : Store) → Kept n k st → Each Proper calls → Kept n k (run n st calls)
    kept_run [] st w all = w
    kept_run (c ∷ cs) st w all = kept_run cs (left_by n st c) (kept_by st w c (all [] c cs refl)) (each_rest Proper c cs all)

    -- any list of calls, from a fresh record
    pub kept_fresh : (cells : List ℕ) → length cells ≡ cells_size n → (calls : List Event) → Each Proper calls → Kept n k (run n (fresh n k cells) calls)
    kept_fresh cells size calls all = kept_run calls (fresh n k cells) (fresh_kept cells size) all

    -- and whatever lengths the buffers have: with others a call is refused 1, and leaves what it was given
    abbrev pub Formed' : Store → Type 0
    Formed' st = (st.rec.kind ≡ k) × (st.rec.count ≡ n) × Formed n k st.rec.slots

    pub formed_call : (st : Store) → Formed' st → (c : Call) → Octets (octets_of c.input) → Formed' (left (outcome n st c))
    formed_call st (e, number, w) c bytes =
        subst (λ (a : After). Formed' (left a)) (sym (taking_any n s c.input)) (go (unfit n s) refl)
      where
        s : State
        s = state st.rec st.cells c.output

        go : (b : Bool) → unfit n (state st.rec st.cells c.output) ≡ b
            → Formed' (left (cond b ((refuse) 1 (state st.rec st.cells c.output)) (taken n (state st.rec st.cells c.output) (is_page c.input) (octets_of c.input) (read st.rec.kind c.input))))
        go true u = (e, number, w)
        go false u =
            let (a, f) = neither (not (eqb (length st.cells) (cells_size n)) || not (eqb (length c.output) most_octets)) (not (record_formed n st.rec)) u in
            let (cs, os) = neither (not (eqb (length st.cells) (cells_size n))) (not (eqb (length c.output) most_octets)) a in
            let sound : Sound n st.rec st.cells = record {
              number = number;
              formed = subst (λ (x : Kind). Formed n x st.rec.slots) (sym e) w;
              size = eqb-true (length st.cells) (cells_size n) (not-false (eqb (length st.cells) (cells_size n)) cs);
            } in
            let same_kind = taken_kind n (state st.rec st.cells c.output) (is_page c.input) (octets_of c.input) (read st.rec.kind c.input) ∙ e in
            let after = taken_sound n (state st.rec st.cells c.output) sound (is_page c.input) (octets_of c.input) (read st.rec.kind c.input) (rw e (admits c bytes)) in
            (same_kind, after.number, subst (λ (x : Kind). Formed n x (taken n (state st.rec st.cells c.output) (is_page c.input) (octets_of c.input) (read st.rec.kind c.input)).state.rec.slots) same_kind after.formed)

    formed_beat : (st : Store) → Formed' st → (limit : ℕ) → limit < 256 → Formed' (left_by n st (beats limit))
    formed_beat st (e, number, w) limit high = go (beat n st.rec limit) (beat? st.rec limit)
      where
        go : (a : AfterBeat) → Beat st.rec limit a → Formed' (record { rec = a.rec; cells = st.cells })
        go a (no_beat m) = (e, number, w)
        go a (is_beat low) = (e, number, beat_formed n k st.rec.slots w limit low (omega arith))

    pub formed_by_lem : (st : Store) → Formed' st → (c : Event) → BringsOctets c → Formed' (left_by n st c)
    formed_by_lem st w (takes c) bytes = formed_call st w c bytes
    formed_by_lem st w (beats limit) high = formed_beat st w limit high

    formed_run : (calls : List Event) (st : Store) → Formed' st → Each BringsOctets calls → Formed' (run n st calls)
    formed_run [] st w all = w
    formed_run (c ∷ cs) st w all = formed_run cs (left_by n st c) (formed_by_lem st w c (all [] c cs refl)) (each_rest BringsOctets c cs all)

    pub fresh_all : (cells : List ℕ) → Formed' (fresh n k cells)
    fresh_all cells = (refl, refl, fresh_formed n k pos.some pos.most)

    formed_fresh : (cells : List ℕ) (calls : List Event) → Each BringsOctets calls → Formed' (run n (fresh n k cells) calls)
    formed_fresh cells calls all = formed_run calls (fresh n k cells) (fresh_all cells) all

    pub always_formed : AlwaysFormed n k
    always_formed cells calls all =
        let (e, number, w) = formed_fresh cells calls all in
        rw (e, eq-eqb (run n (fresh n k cells) calls).rec.count n number) (formed_told n k (run n (fresh n k cells) calls).rec.slots w)

    pub no_key_twice : NoKeyTwice n k
    no_key_twice cells calls all = (formed_fresh cells calls all).2.keys
