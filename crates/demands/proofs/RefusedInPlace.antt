-- A refused call on a state leaves what it leaves of the record, and octets that are a state are those of their record. A refused call on a log goes by the
-- cases of its rule.
use Prim.Native.Nat.{ℕ}
use mathlib.Core.Path.{◌≡◌, refl, sym, ap, ◌∙◌, subst}
use mathlib.Core.Bool.{Bool, true, false, not, cond, or-true}
use mathlib.Core.List.{List, [], ◌∷◌, ◌++◌}
use mathlib.Core.Option.{Option, none, some}
use native.Mathlib.Omega.{arith}
use lib.ListN.{length, drop}
use lib.Dec.{eqb}
use borrow.Author.Tests.{eqb-true, ne_eqb}
use Rattle.octets.specs.Octets.{Octets, same_octets}
use Rattle.types.specs.Refusals as outcome
use Rattle.types.specs.declared.Kind.{Kind}
use Rattle.types.specs.declared.Key.{Key}
use Rattle.packet.specs.Packets.{most_octets}
use Rattle.arrival.specs.Arrivals.{Brought, single, part}
use Rattle.arrival.specs.Keys.{of_pages}
use Rattle.joined.specs.Fronts.{packet_in}
use Rattle.slots.specs.Slots.{is_slot_number, fresh_record}
use Rattle.beats.specs.Beats.{beaten, beat}
use Rattle.series.specs.Taking.{State, Answer, state, kept, held_already, refused_by, refuse}
use Rattle.series.specs.Calls.{Input, message, page, octets_of, read, take_input}
use Rattle.layout.specs.Layout.{state_size, state_record, known, state_octets, OnState, on_state}
use Rattle.layout.specs.OctetLaws.{state_back}
use Rattle.sound.specs.Card.{beat_octets, beat_in}
use Rattle.card.specs.Card.{taken_state, taken_octets, take_in}
use Rattle.plain.specs.Entries.{Entry, LogState}
use Rattle.plain.specs.Log.{result_of, first_entry, has_key, is_part, without, touch, close, free_from, of_rank, new_entry, log_complete, whole, log_hand_out, in_part, displaces, new_series, for_series, log_take_part}
use Rattle.plain.specs.Engine.{state_formed, AfterLog, after_log, with_log, leaves, log_taken, log_unfit, log_take_message, log_take_page, log_take_input, log_beating, leaves_log_beat, log_beat}
use Rattle.demands.specs.Refusing.{Leaves, unaltered, dropped}
use Rattle.demands.specs.RefusedInPlace.{LeftState, state_unaltered, state_without, StateRefused, CompletesLog, LeftLog, log_unaltered, log_without, LogRefused}
use Rattle.demands.proofs.Refusing.{not_kept, not_held, not_handed, taking_refused, beat_refused_lem, unfit_refused}

-- ---- taking on a state
module _ (s cells output : List ℕ) (i : Input) (o : Octets s) where
  carried : (number : ℕ) → known s ≡ true → (x : State) → Leaves (state_record s).count (state (state_record s) cells output) i number x
      → LeftState s cells output i number (taken_state (refused_by number) (state_octets x.rec) x.cells x.output)
  carried number k x (unaltered f) =
      subst (λ (t : List ℕ). LeftState s cells output i number (taken_state (refused_by number) t cells output)) (sym (state_back s k o)) (state_unaltered f)
  carried number k x (dropped nine slot c) = state_without nine slot c

  by_one_lem : (number : ℕ) → refused_by 1 ≡ refused_by number → LeftState s cells output i number (taken_state (refused_by 1) s cells output)
  by_one_lem number e =
      subst (λ (a : Answer). LeftState s cells output i number (taken_state a s cells output)) (sym e)
      (state_unaltered (λ nine slot c. let z : ◌≡◌ {A = ℕ} 1 9 = cc in omega arith))

  state_taking : (number : ℕ) → (take_in s cells output i).answer ≡ refused_by number → LeftState s cells output i number (take_in s cells output i)
  unfolding take_in
  state_taking number = go (known s) refl
    where
      go : (b : Bool) → known s ≡ b
          → (cond b (taken_octets (take_input (state_record s).count (state (state_record s) cells output) i)) (taken_state (refused_by 1) s cells output)).answer ≡ refused_by number
          → LeftState s cells output i number (cond b (taken_octets (take_input (state_record s).count (state (state_record s) cells output) i)) (taken_state (refused_by 1) s cells output))
      go true k e =
          subst (λ (a : Answer). LeftState s cells output i number (taken_state a (state_octets (take_input (state_record s).count (state (state_record s) cells output) i).state.rec) (take_input (state_record s).count (state (state_record s) cells output) i).state.cells (take_input (state_record s).count (state (state_record s) cells output) i).state.output))
          (sym e) (carried number k (take_input (state_record s).count (state (state_record s) cells output) i).state (taking_refused (state_record s).count (state (state_record s) cells output) i number e))
      go false k e = by_one_lem number e

  -- what refuses a record refuses the state that holds it
  refused_one : take_input (state_record s).count (state (state_record s) cells output) i ≡ refuse 1 (state (state_record s) cells output)
      → take_in s cells output i ≡ taken_state (refused_by 1) s cells output
  unfolding take_in
  refused_one e = go (known s) refl
    where
      go : (b : Bool) → known s ≡ b
          → cond b (taken_octets (take_input (state_record s).count (state (state_record s) cells output) i)) (taken_state (refused_by 1) s cells output) ≡ taken_state (refused_by 1) s cells output
      go true k = ap taken_octets e ∙ ap (λ (t : List ℕ). taken_state (refused_by 1) t cells output) (state_back s k o)
      go false k = refl

-- ---- a beat on a state, and a fresh one
state_beat : (s : List ℕ) (limit number : ℕ) → Octets s → (beat_in s limit).answer ≡ outcome.refused number → (beat_in s limit).octets ≡ s
unfolding beat_in
state_beat s limit number o = go (known s) refl
  where
    go : (b : Bool) → known s ≡ b
        → (cond b (beat_octets (beat (state_record s).count (state_record s) limit)) (on_state (outcome.refused 1) s)).answer ≡ outcome.refused number
        → (cond b (beat_octets (beat (state_record s).count (state_record s) limit)) (on_state (outcome.refused 1) s)).octets ≡ s
    go true k e = ap state_octets (beat_refused_lem (state_record s).count (state_record s) limit number e) ∙ state_back s k o
    go false k e = refl

-- making one, by the tests of its length and of the number of slots
abbrev made_by : List ℕ → ℕ → Kind → Bool → Bool → OnState (outcome.Outcome Unit)
made_by s n k right fits =
    cond right (cond fits (on_state (outcome.gives tt) (state_octets (fresh_record n k))) (on_state (outcome.refused 25) s)) (on_state (outcome.refused 1) s)

state_making : (s : List ℕ) (n : ℕ) (k : Kind) (number : ℕ) (right fits : Bool) → (made_by s n k right fits).answer ≡ outcome.refused number
    → (made_by s n k right fits).octets ≡ s
state_making s n k number true true e = let z : ◌≡◌ {A = ℕ} 0 1 = cc in absurd (omega arith)
state_making s n k number true false e = refl
state_making s n k number false fits e = refl

-- what refuses a record refuses the state that holds it
refused_beat : (s : List ℕ) (limit : ℕ) → Octets s → beat (state_record s).count (state_record s) limit ≡ beaten (outcome.refused 1) (state_record s)
    → beat_in s limit ≡ on_state (outcome.refused 1) s
unfolding beat_in
refused_beat s limit o e = go (known s) refl
  where
    go : (b : Bool) → known s ≡ b
        → cond b (beat_octets (beat (state_record s).count (state_record s) limit)) (on_state (outcome.refused 1) s) ≡ on_state (outcome.refused 1) s
    go true k = ap beat_octets e ∙ ap (λ (t : List ℕ). on_state (outcome.refused 1) t) (state_back s k o)
    go false k = refl

pub state_refused : StateRefused
unfolding take_in beat_in
state_refused = record {
  taking = λ s cells output i number o. state_taking s cells output i o number;
  beat = state_beat;
  making = λ s n k number. state_making s n k number (eqb (length s) state_size) (is_slot_number n);
  no_state = λ s cells output i e. rw e;
  not_formed = λ s cells output i o e. refused_one s cells output i o ((unfit_refused (state_record s).count).taking_record (state (state_record s) cells output) i e);
  other_cells = λ s cells output i o ne. refused_one s cells output i o ((unfit_refused (state_record s).count).taking_cells (state (state_record s) cells output) i ne);
  other_output = λ s cells output i o ne. refused_one s cells output i o ((unfit_refused (state_record s).count).taking_output (state (state_record s) cells output) i ne);
  no_state_beaten = λ s limit e. rw e;
  none_formed_beaten = λ s limit o e. refused_beat s limit o ((unfit_refused (state_record s).count).beating (state_record s) limit e);
}

-- ---- taking on a log
module _ (s : LogState) (output : List ℕ) (i : Input) (number : ℕ) where
  -- an outcome that is refused leaves what it may
  abbrev LeftBy : AfterLog → Type 0
  LeftBy a = a.answer ≡ refused_by number → LeftLog s output i number a

  -- refused by a number, with all as it was: by another than 9, or not read as a part
  stays_so : {m : ℕ} → (number ≡ 9 → (x : Entry) → CompletesLog s output i x → ⊥) → refused_by m ≡ refused_by number
      → LeftLog s output i number (after_log (refused_by m) s output)
  stays_so f e = subst (λ (a : Answer). LeftLog s output i number (after_log a s output)) (sym e) (log_unaltered f)

  by_other_lem : {m : ℕ} → (m ≡ 9 → ⊥) → refused_by m ≡ refused_by number → LeftLog s output i number (after_log (refused_by m) s output)
  by_other_lem ne e = stays_so (λ nine x c. ne (cc)) e

  no_part : {r : outcome.Outcome Brought} {m : ℕ} → read s.kind i ≡ r
      → ((key : Key) (total which start : ℕ) → r ≡ outcome.gives (part key total which start) → ⊥)
      → refused_by m ≡ refused_by number → LeftLog s output i number (after_log (refused_by m) s output)
  no_part r never e = stays_so (λ nine x c. never c.key c.total c.which c.start (sym r ∙ c.brings)) e

  alone_left : (start : ℕ) → read s.kind i ≡ outcome.gives (single start) → (p : Option (List ℕ)) → LeftBy (leaves s (log_hand_out s.log output p))
  alone_left start r none e = no_part r (λ key total which start f. let z : ◌≡◌ {A = ℕ} 0 1 = cc in omega arith) e
  alone_left start r (some p) e = not_handed e

-- a part, whose own octets are o
module _ (s : LogState) (output : List ℕ) (i : Input) (number : ℕ) (key : Key) (total which start : ℕ)
    (r : read s.kind i ≡ outcome.gives (part key total which start)) where
  last_left : (x : Entry) → first_entry (has_key key) s.log ≡ some x → x.total ≡ total → first_entry (is_part x.slot which) s.log ≡ none
      → log_complete s.slots s.kind s.log output key total which (drop start (octets_of i)) x.slot ≡ true
      → (p : Option (List ℕ)) → LeftBy s output i number (leaves s (log_hand_out (close x.rank (without x.slot s.log)) output p))
  last_left x f t n c none e =
      subst (λ (a : Answer). LeftLog s output i number (after_log a (with_log s (close x.rank (without x.slot s.log))) output)) (sym e)
      (log_without (cc) x (record { key = key; total = total; which = which; start = start; brings = r; bears = f; counted = t; new = n; last = c }))
  last_left x f t n c (some p) e = not_handed e

  held_left : (x p : Entry) (b : Bool)
      → LeftBy s output i number (leaves s (cond b (result_of (held_already x.slot) (touch x.slot x.rank s.log) output) (result_of (refused_by 8) s.log output)))
  held_left x p true e = not_held e
  held_left x p false e = by_other_lem s output i number (λ z. omega arith) e

  new_left : (x : Entry) → first_entry (has_key key) s.log ≡ some x → x.total ≡ total → first_entry (is_part x.slot which) s.log ≡ none
      → (b : Bool) → log_complete s.slots s.kind s.log output key total which (drop start (octets_of i)) x.slot ≡ b
      → LeftBy s output i number (leaves s (cond b (log_hand_out (close x.rank (without x.slot s.log)) output (packet_in s.kind (of_pages key) total (whole s.slots s.kind s.log output key total which (drop start (octets_of i)) x.slot)))
      (result_of (kept x.slot false) (touch x.slot x.rank s.log ++ new_entry s.slots s.kind s.log output key total which (drop start (octets_of i)) x.slot ∷ []) output)))
  new_left x f t n true c e = last_left x f t n c (packet_in s.kind (of_pages key) total (whole s.slots s.kind s.log output key total which (drop start (octets_of i)) x.slot)) e
  new_left x f t n false c e = not_kept e

  found_left : (x : Entry) → first_entry (has_key key) s.log ≡ some x → x.total ≡ total → (p : Option Entry) → first_entry (is_part x.slot which) s.log ≡ p
      → LeftBy s output i number (leaves s (in_part s.slots s.kind s.log output key total which (drop start (octets_of i)) x p))
  found_left x f t (some p) n = held_left x p (same_octets p.octets (drop start (octets_of i)))
  found_left x f t none n = new_left x f t n (log_complete s.slots s.kind s.log output key total which (drop start (octets_of i)) x.slot) refl

  counted_left : (x : Entry) → first_entry (has_key key) s.log ≡ some x → (b : Bool) → eqb x.total total ≡ b
      → LeftBy s output i number (leaves s (cond (not b) (result_of (refused_by 7) s.log output)
      (in_part s.slots s.kind s.log output key total which (drop start (octets_of i)) x (first_entry (is_part x.slot which) s.log))))
  counted_left x f true t e = found_left x f (eqb-true x.total total t) (first_entry (is_part x.slot which) s.log) refl e
  counted_left x f false t e = by_other_lem s output i number (λ z. omega arith) e

  opened_left : (x : Option Entry) → LeftBy s output i number (leaves s (displaces s.slots s.kind s.log output key total which (drop start (octets_of i)) x))
  opened_left none e = not_kept e
  opened_left (some x) e = not_kept e

  series_left : (x : Option Entry) → first_entry (has_key key) s.log ≡ x
      → LeftBy s output i number (leaves s (for_series s.slots s.kind s.log output key total which (drop start (octets_of i)) x))
  series_left (some x) f e = counted_left x f (eqb x.total total) refl e
  series_left none f e = go (free_from s.log 0 s.slots) e
    where
      go : (j : Option ℕ) → LeftBy s output i number (leaves s (new_series s.slots s.kind s.log output key total which (drop start (octets_of i)) j))
      go (some j) e = not_kept e
      go none e = opened_left (first_entry (of_rank s.slots) s.log) e

-- what reading brings, of a message or a page
read_left : (s : LogState) (output : List ℕ) (i : Input) (number : ℕ) (paged : Bool) (r : outcome.Outcome Brought) → read s.kind i ≡ r
    → LeftBy s output i number (leaves s (log_taken s.slots s.kind s.log output paged (octets_of i) r))
unfolding log_take_part
read_left s output i number paged (outcome.refused m) r e = no_part s output i number r (λ key total which start f. let z : ◌≡◌ {A = ℕ} 0 1 = cc in omega arith) e
read_left s output i number paged (outcome.gives (single start)) r e = alone_left s output i number start r (packet_in s.kind paged 1 (drop start (octets_of i))) e
read_left s output i number paged (outcome.gives (part key total which start)) r e =
    series_left s output i number key total which start r (first_entry (has_key key) s.log) refl e

log_taking : (s : LogState) (output : List ℕ) (i : Input) (number : ℕ) (paged : Bool) (b : Bool)
    → LeftBy s output i number (cond b (after_log (refused_by 1) s output) (leaves s (log_taken s.slots s.kind s.log output paged (octets_of i) (read s.kind i))))
log_taking s output i number paged true e = by_other_lem s output i number (λ z. omega arith) e
log_taking s output i number paged false e = read_left s output i number paged (read s.kind i) refl e

log_call : (s : LogState) (output : List ℕ) (i : Input) (number : ℕ) → LeftBy s output i number (log_take_input s output i)
unfolding log_take_message log_take_page
log_call s output (message sender ud) number = log_taking s output (message sender ud) number false (log_unfit s output)
log_call s output (page o) number = log_taking s output (page o) number true (log_unfit s output)

-- ---- a beat on a log, and what is unfit
log_beaten : (s : LogState) (limit number : ℕ) (a : outcome.Outcome ℕ) → (leaves_log_beat s limit a).answer ≡ outcome.refused number → (leaves_log_beat s limit a).state ≡ s
log_beaten s limit number (outcome.refused m) e = refl
log_beaten s limit number (outcome.gives m) e = let z : ◌≡◌ {A = ℕ} 0 1 = cc in absurd (omega arith)

log_unfit_lem : (s : LogState) (output : List ℕ) (i : Input) → log_unfit s output ≡ true → log_take_input s output i ≡ after_log (refused_by 1) s output
unfolding log_take_message log_take_page
log_unfit_lem s output (message sender ud) u = rw u
log_unfit_lem s output (page o) u = rw u

pub log_refused : LogRefused
unfolding log_beat
log_refused = record {
  taking = log_call;
  beat = λ s limit number. log_beaten s limit number (log_beating s limit);
  not_formed = λ s output i f. log_unfit_lem s output i (rw f);
  other_output = λ s output i ne. log_unfit_lem s output i (rw (ne_eqb (length output) most_octets ne, or-true (not (state_formed s))));
  none_formed_beaten = λ s limit f. rw f;
}
