-- The card's engine goes through the same records as the rules do: event by event, since each call's contract is the rule's outcome with the octets of
-- the record, which hold that record again; and no call changes the number of slots.
use Prim.Native.Nat.{ℕ}
use mathlib.Core.Path.{◌≡◌, refl, ap, ◌∙◌}
use mathlib.Core.Bool.{true}
use mathlib.Core.List.{List, [], ◌∷◌}
use Rattle.types.specs.declared.Record.{Record}
use Rattle.slots.specs.Slots.{fresh_record}
use Rattle.layout.specs.Layout.{state_record, known, state_octets}
use Rattle.layout.specs.Shapes.{fresh_shaped}
use Rattle.layout.specs.OctetLaws.{read_back, known_octets}
use Rattle.beats.specs.Beats.{AfterBeat}
use Rattle.sound.specs.BeatLaws.{beat_carries, beat_still, beat_number}
use Rattle.card.specs.Carries.{call_carries, call_still, number_carries}
use Rattle.sequences.specs.Runs.{Event, takes, beats, Store, left, left_by, run}
use Rattle.engines.specs.CardRuns.{Leads, leads_taking, leads_beating, leads_none, leads_next, store_in, CardRuns, CardRunsFresh}

module _ (n : ℕ) (s cells : List ℕ) (ok : known s ≡ true) (number : (state_record s).count ≡ n) where
  one : (e : Event) (t cells' : List ℕ) → Leads s cells e t cells' → (store_in t cells' ≡ left_by n (store_in s cells) e) × (known t ≡ true) × ((state_record t).count ≡ n)
  one (takes c) t cells' (leads_taking _ _ _ output a is) = (
    ap left (call_carries n s t ok number cells c.output c.input a cells' output is),
    call_still n s t ok number cells c.output c.input a cells' output is,
    number_carries n s t ok number cells c.output c.input a cells' output is,
  )
  one (beats limit) t cells' (leads_beating _ _ a is) = (
    ap (λ (x : AfterBeat). record { rec = x.rec; cells = cells }) (beat_carries n s t ok number limit a is),
    beat_still n s t ok number limit a is,
    beat_number n s t ok number limit a is,
  )

pub card_runs : CardRuns
card_runs n s cells u cells' [] ok number (leads_none _ _) = (refl, ok)
card_runs n s cells u cells' (e ∷ es) ok number (leads_next _ _ t c _ _ _ _ leads on) =
    let (same, known', number') = one n s cells ok number e t c leads in
    let (rest, still) = card_runs n t c u cells' es known' number' on in (rest ∙ ap (λ (st : Store). run n st es) same, still)

-- a fresh state holds a fresh record
pub card_runs_fresh : CardRunsFresh
card_runs_fresh n k cells u cells' es on =
    let r : Record = fresh_record n k in
    let held : state_record (state_octets r) ≡ r = read_back r (fresh_shaped n k) in
    let (is, still) = card_runs n (state_octets r) cells u cells' es (known_octets r (fresh_shaped n k)) (ap (λ (x : Record). x.count) held) on in
    is ∙ ap (λ (x : Record). run n (record { rec = x; cells = cells }) es) held
