-- Keys stay within their types: a message's key has the sender of its call, a page's a serial number of two octets, and coming to the front,
-- freeing and a beat bring no other key.
use Prim.Native.Nat.{ℕ, ◌<◌}
use mathlib.Core.Path.{◌≡◌, refl, sym, ap, subst}
use mathlib.Core.Bool.{Bool, true, false, cond}
use mathlib.Core.List.{List, [], ◌∷◌}
use mathlib.Core.Option.{Option, none, some}
use native.Mathlib.Omega.{arith}
use lib.ListN.{length, get_or, drop}
use Rattle.octets.specs.Octets.{Octets}
use Rattle.octets.specs.Laws.{number_fits}
use Rattle.octets.specs.Tests.{Same, same, other, same?}
use Rattle.types.specs.Refusals as reading
use Rattle.types.specs.declared.Kind.{Kind}
use Rattle.types.specs.declared.Key.{Key}
use Rattle.types.specs.declared.Slot.{Slot}
use Rattle.types.specs.declared.Record.{Record}
use Rattle.arrival.specs.Arrivals.{Brought, single, part}
use Rattle.arrival.specs.Bounds.{message_read, page_given_as}
use Rattle.arrival.proofs.MessageLaws.{given_as}
use Rattle.joined.specs.Fronts.{packet_in}
use Rattle.arrival.specs.Keys.{of_pages}
use Rattle.slots.specs.Slots.{most_slots, no_key, slot_at, opened, with_part, to_front, freed, with_slots, fresh_record}
use Rattle.slots.specs.FrontLaws.{front_here, front_there, freed_here, freed_there}
use Rattle.formed.specs.Laws.{Formed, fresh_slot, array_holds}
use Rattle.beats.specs.Beats.{AfterBeat, slots_after_beat, after_beat, beat}
use Rattle.beats.specs.Laws.{Beaten, was_free, is_dropped, is_older, beat_at}
use Rattle.beats.proofs.BeatenLaws.{beaten?}
use Rattle.cells.specs.Cells.{joined_octets}
use Rattle.series.specs.Taking.{State, After, state, refuse, hand_out, Step, acted, step, take_part, taken, unfit}
use Rattle.series.specs.CaseLaws.{Case, other_total, other_octets, held_so, last, more, takes_free, displaces, case_of}
use Rattle.series.specs.Calls.{Input, message, page, octets_of, read}
use Rattle.sequences.specs.Always.{BringsOctets}
use Rattle.sequences.specs.Runs.{Slots, Call, Event, takes, beats, Store, fresh, outcome, left, left_by, run, Each}
use Rattle.sequences.specs.Reachable.{KeyFits, SenderFits, Possible}
use Rattle.sequences.proofs.Calls.{is_page, taking_any, Formed', formed_by_lem, fresh_all, Beat, no_beat, is_beat, beat?, each_rest}
use Rattle.sequences.proofs.Wake.{admits}

abbrev pub Fit : List Slot → Type 0
Fit xs = (j : ℕ) → j < most_slots → KeyFits (slot_at xs j).key

-- ---- the key that a call brings
abbrev OfPart : Brought → Type 0
OfPart (single start) = Unit {0}
OfPart (part key total number start) = KeyFits key

brought_fits : (k : Kind) (i : Input) → Octets (octets_of i) → SenderFits i → (b : Brought) → read k i ≡ reading.gives b → OfPart b
brought_fits k (message sender ud) o s b e =
    given_as k sender ud b (message_read k sender ud b e) OfPart (λ room. tt) (λ c r. record { sender = s; serial = omega arith })
brought_fits k (page octets) o s b e =
    page_given_as k octets b OfPart (λ r. tt) (λ r several. record { sender = omega arith; serial = omega (arith, number_fits (get_or octets 0 0) (get_or octets 1 0) (o 0) (o 1)) }) e

-- ---- slots
free_fits : KeyFits no_key
free_fits = record { sender = omega arith; serial = omega arith }

-- slot i is another, and the others keep their keys
pub fit_else : (xs ys : List Slot) (i : ℕ) → ((j : ℕ) → (j ≡ i → ⊥) → (slot_at ys j).key ≡ (slot_at xs j).key) → KeyFits (slot_at ys i).key → Fit xs → Fit ys
fit_else xs ys i there here fit j m = go (same? j i)
  where
    go : Same j i → KeyFits (slot_at ys j).key
    go (same e q) = subst (λ (o : ℕ). KeyFits (slot_at ys o).key) (sym q) here
    go (other e ne) = subst KeyFits (sym (there j ne)) (fit j m)

pub fit_front : (xs : List Slot) (i : ℕ) (x : Slot) → i < length xs → Fit xs → KeyFits x.key → Fit (to_front xs i x)
fit_front xs i x l fit f =
    fit_else xs (to_front xs i x) i (λ j ne. ap (λ (y : Slot). y.key) (front_there xs i x j ne)) (subst (λ (y : Slot). KeyFits y.key) (sym (front_here xs i x l)) f) fit

pub fit_freed : (xs : List Slot) (i : ℕ) → i < length xs → Fit xs → Fit (freed xs i)
fit_freed xs i l fit =
    fit_else xs (freed xs i) i (λ j ne. ap (λ (y : Slot). y.key) (freed_there xs i j ne)) (subst (λ (y : Slot). KeyFits y.key) (sym (freed_here xs i l)) free_fits) fit

fit_beat : (limit : ℕ) (xs : List Slot) → Fit xs → Fit (slots_after_beat limit xs)
fit_beat limit xs fit j m = subst (λ (y : Slot). KeyFits y.key) (sym (beat_at limit xs j)) (go (beaten? limit (slot_at xs j)))
  where
    go : Beaten limit (slot_at xs j) → KeyFits (after_beat limit (slot_at xs j)).key
    go (was_free z r e) = subst (λ (y : Slot). KeyFits y.key) (sym e) (fit j m)
    go (is_dropped u l r e) = subst (λ (y : Slot). KeyFits y.key) (sym e) free_fits
    go (is_older u l r e) = subst (λ (y : Slot). KeyFits y.key) (sym e) (fit j m)

pub fit_fresh : (n : ℕ) (k : Kind) → Fit (fresh_record n k).slots
fit_fresh n k j m = subst (λ (y : Slot). KeyFits y.key) (sym (fresh_slot n k j m)) free_fits

-- ---- a part
-- handing out leaves the record that it is given
pub handed_record : (s : State) (r : Record) (o : Option (List ℕ)) → (hand_out s r o).state.rec ≡ r
handed_record s r none = refl
handed_record s r (some p) = refl

module _ (n : ℕ) (s : State) (w : Formed n s.rec.kind s.rec.slots) (fit : Fit s.rec.slots) where
  abbrev xs : List Slot
  xs = s.rec.slots

  module _ (key : Key) (total number : ℕ) (octets : List ℕ) (f : KeyFits key) where
    abbrev part_in : Slot → Slot
    part_in x = with_part x number (length octets)

    inside : (i : ℕ) → i < n → i < length xs
    inside i l = omega (arith, array_holds n s.rec.kind xs w)

    own : (i : ℕ) → i < n → KeyFits (slot_at xs i).key
    own i l = fit i (omega (arith, w.high))

    by_case : (z : Step) → Case n s key total number octets z → Fit (acted n s key total number octets z).state.rec.slots
    by_case z (other_total i b t) = fit
    by_case z (other_octets i b t h c) = fit
    by_case z (held_so i b t h c) = fit_front xs i (slot_at xs i) (inside i b.inside) fit (own i b.inside)
    by_case z (last i b t h c) =
        subst (λ (r : Record). Fit r.slots)
        (sym (handed_record s (with_slots s.rec (freed xs i)) (packet_in s.rec.kind (of_pages key) total (joined_octets s.cells (slot_at xs i) i number octets))))
        (fit_freed xs i (inside i b.inside) fit)
    by_case z (more i b t h c) = fit_front xs i (part_in (slot_at xs i)) (inside i b.inside) fit (own i b.inside)
    by_case z (takes_free i lacks l e lower) = fit_front xs i (part_in (opened key total)) (inside i l) fit f
    by_case z (displaces i lacks l e all) = fit_front xs i (part_in (opened key total)) (inside i l) fit f

  taken_fit : (paged : Bool) (o : List ℕ) (b : reading.Outcome Brought) → ((x : Brought) → b ≡ reading.gives x → OfPart x) → Fit (taken n s paged o b).state.rec.slots
  unfolding take_part
  taken_fit paged o (reading.refused m) f = fit
  taken_fit paged o (reading.gives (single start)) f =
      subst (λ (r : Record). Fit r.slots) (sym (handed_record s s.rec (packet_in s.rec.kind paged 1 (drop start o)))) fit
  taken_fit paged o (reading.gives (part key total number start)) f =
      by_case key total number (drop start o) (f (part key total number start) refl) (step n s key total number (drop start o)) (case_of n s key total number (drop start o) w)

-- ---- any calls and beats, from a fresh record
module _ (n : ℕ) (good : Slots n) (k : Kind) where
  abbrev Well : Store → Type 0
  Well st = Formed' n good k (admits k) st

  fit_call : (st : Store) → Well st → Fit st.rec.slots → (c : Call) → Octets (octets_of c.input) → SenderFits c.input → Fit (left (outcome n st c)).rec.slots
  fit_call st (e, number, w) fit c o f =
      subst (λ (a : After). Fit a.state.rec.slots) (sym (taking_any n s c.input)) (go (unfit n s))
    where
      s : State
      s = state st.rec st.cells c.output

      go : (b : Bool)
          → Fit (cond b ((refuse) 1 (state st.rec st.cells c.output)) (taken n (state st.rec st.cells c.output) (is_page c.input) (octets_of c.input) (read st.rec.kind c.input))).state.rec.slots
      go true = fit
      go false =
          taken_fit n (state st.rec st.cells c.output) (subst (λ (x : Kind). Formed n x st.rec.slots) (sym e) w) fit (is_page c.input) (octets_of c.input)
          (read st.rec.kind c.input) (brought_fits st.rec.kind c.input o f)

  fit_by : (st : Store) → Well st → Fit st.rec.slots → (e : Event) → Possible e → Fit (left_by n st e).rec.slots
  fit_by st w fit (takes c) p = fit_call st w fit c p.proper.octets p.sender
  fit_by st w fit (beats limit) p = go (beat n st.rec limit) (beat? n good k st.rec limit)
    where
      go : (a : AfterBeat) → Beat n good k st.rec limit a → Fit a.rec.slots
      go a (no_beat m) = fit
      go a (is_beat low) = fit_beat limit st.rec.slots fit

  pub brings : (e : Event) → Possible e → BringsOctets e
  brings (takes c) p = p.proper.octets
  brings (beats limit) p = p.proper

  fit_run : (events : List Event) (st : Store) → Well st → Fit st.rec.slots → Each Possible events → Fit (run n st events).rec.slots
  fit_run [] st w fit all = fit
  fit_run (e ∷ es) st w fit all =
      let p = all [] e es refl in
      fit_run es (left_by n st e) (formed_by_lem n good k (admits k) st w e (brings e p)) (fit_by st w fit e p) (each_rest n good k Possible e es all)

  pub made_fit : (cells : List ℕ) (events : List Event) → Each Possible events → Fit (run n (fresh n k cells) events).rec.slots
  made_fit cells events all = fit_run events (fresh n k cells) (fresh_all n good k (admits k) cells) (fit_fresh n k) all
