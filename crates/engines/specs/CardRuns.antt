-- Sequences on the card's engine, which keeps the record in the octets of a state: each of them is, read by `state_record`, a sequence by the rules
-- (`Runs.antt`). So what is stated of sequences holds of the card's engine too.
use Rattle.std.specs.Prelude.{ℕ, ◌≡◌, true, List, [], ◌∷◌}
use Rattle.types.specs.Refusals.{Outcome}
use Rattle.types.specs.declared.Kind.{Kind}
use Rattle.slots.specs.Slots.{fresh_record}
use Rattle.layout.specs.Layout.{state_record, known, state_octets, on_state}
use Rattle.series.specs.Taking.{Answer}
use Rattle.sound.specs.Card.{beat_in}
use Rattle.card.specs.Card.{taken_state, take_in}
use Rattle.sequences.specs.Runs.{Call, Event, takes, beats, Store, fresh, run}

-- One event: what the contracts of `card::take_message`, `card::take_page` and `sound::beat::beat` promise of the octets and the cells behind it, t and
-- cells', if they are s and cells before it.
pub data Leads (s cells : List ℕ) : Event → List ℕ → List ℕ → Type 0 where
  leads_taking : (c : Call) (t cells' output : List ℕ) (a : Answer) → taken_state a t cells' output ≡ take_in s cells c.output c.input
      → Leads s cells (takes c) t cells'
  leads_beating : (limit : ℕ) (t : List ℕ) (a : Outcome ℕ) → on_state a t ≡ beat_in s limit → Leads s cells (beats limit) t cells

-- one after the other
pub data LeadsOn : List ℕ → List ℕ → List Event → List ℕ → List ℕ → Type 0 where
  leads_none : (s cells : List ℕ) → LeadsOn s cells [] s cells
  leads_next : (s cells t cells' u cells'' : List ℕ) (e : Event) (es : List Event) → Leads s cells e t cells' → LeadsOn t cells' es u cells''
      → LeadsOn s cells (e ∷ es) u cells''

-- the record in octets and the cells, as what is passed back from call to call
abbrev pub store_in : List ℕ → List ℕ → Store
store_in s cells = record { rec = state_record s; cells = cells }

-- from octets that hold a record of n slots, octets are led to that hold what the rules lead to
abbrev pub CardRuns : Type 0
CardRuns =
    (n : ℕ) (s cells u cells' : List ℕ) (es : List Event) → known s ≡ true → (state_record s).count ≡ n → LeadsOn s cells es u cells'
    → (store_in u cells' ≡ run n (store_in s cells) es) × (known u ≡ true)

-- from a fresh state, whatever the cells hold
abbrev pub CardRunsFresh : Type 0
CardRunsFresh =
    (n : ℕ) (k : Kind) (cells u cells' : List ℕ) (es : List Event) → LeadsOn (state_octets (fresh_record n k)) cells es u cells'
    → store_in u cells' ≡ run n (fresh n k cells) es
