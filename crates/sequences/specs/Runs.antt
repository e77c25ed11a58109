-- Sequences: "from a fresh record, buffers of 01's lengths, record and cells passed back as left" (demand 3). They are lists of events: an event is
-- a call that takes a message or a page, or a beat (02 [6]).
use Rattle.std.specs.Prelude.{ℕ, ◌≤◌, ◌<◌, ◌≡◌, List, [], ◌∷◌, ◌++◌, length}
use Rattle.octets.specs.Octets.{Octets}
use Rattle.types.specs.declared.Kind.{Kind}
use Rattle.packet.specs.Packets.{most_octets}
use Rattle.types.specs.declared.Record.{Record}
use Rattle.slots.specs.Slots.{most_slots, fresh_record}
use Rattle.series.specs.Taking.{After, state}
use Rattle.series.specs.Calls.{Input, octets_of, take_input}
use Rattle.beats.specs.Beats.{beat}

-- a call that takes: what the network brings, and the output that the caller lends for it
pub record Call : Type 0 where
  pub input : Input
  pub output : List ℕ

-- what comes one after the other: such a call, or a beat with its limit
pub data Event : Type 0 where
  takes : Call → Event
  beats : (limit : ℕ) → Event

-- what is passed back from call to call: the record and the cells
pub record Store : Type 0 where
  pub rec : Record
  pub cells : List ℕ

-- "for n slots" (02 [5]): a record has 1 to 5
pub record Slots (n : ℕ) : Type 0 where
  pub some : 1 ≤ n
  pub most : n ≤ most_slots

-- a fresh record of a kind, with cells that hold anything
abbrev pub fresh : ℕ → Kind → List ℕ → Store
fresh n k cells = record { rec = fresh_record n k; cells = cells }

-- what a call comes to, and what it leaves
abbrev pub outcome : ℕ → Store → Call → After
outcome n st c = take_input n (state st.rec st.cells c.output) c.input

abbrev pub left : After → Store
left a = record { rec = a.state.rec; cells = a.state.cells }

-- a beat touches no cells
abbrev pub left_by : ℕ → Store → Event → Store
left_by n st (takes c) = left (outcome n st c)
left_by n st (beats limit) = record { rec = (beat n st.rec limit).rec; cells = st.cells }

abbrev pub run : ℕ → Store → List Event → Store
run n st [] = st
run n st (e ∷ es) = run n (left_by n st e) es

-- a call lends an output of 01's length, and brings octets; the limit of a beat is an octet
pub record ProperCall (c : Call) : Type 0 where
  pub output : length c.output ≡ most_octets
  pub octets : Octets (octets_of c.input)

abbrev pub Proper : Event → Type 0
Proper (takes c) = ProperCall c
Proper (beats limit) = limit < 256

-- a claim holds of each event of a list, whatever comes before and behind it
abbrev pub Each : (Event → Type 0) → List Event → Type 0
Each Claim events = (u : List Event) (e : Event) (v : List Event) → events ≡ u ++ e ∷ v → Claim e
