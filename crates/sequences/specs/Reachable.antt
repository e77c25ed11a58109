-- Demand 1's "a record that the library could not have made": a record is accepted exactly if calls and beats can make it.
use Rattle.std.specs.Prelude.{ℕ, ◌<◌, ◌≡◌, true, false, List, length}
use Rattle.types.specs.Refusals as refusal
use Rattle.types.specs.declared.Key.{Key}
use Rattle.types.specs.declared.Record.{Record}
use Rattle.packet.specs.Packets.{most_octets}
use Rattle.slots.specs.Slots.{most_slots, slot_at}
use Rattle.formed.specs.Formed.{record_formed}
use Rattle.beats.specs.Beats.{beat}
use Rattle.cells.specs.Cells.{cells_size}
use Rattle.series.specs.Taking.{State, refused_by}
use Rattle.series.specs.Calls.{Input, message, page, take_input}
use Rattle.sequences.specs.Runs.{Event, takes, beats, Slots, fresh, run, Proper, Each}

-- ---- what the types say
-- A sender has 32 bits and a serial number 16. Every other number of a record is within its type if the record is well formed.
abbrev pub senders : ℕ
senders = 4294967296

abbrev pub serials : ℕ
serials = 65536

pub record KeyFits (key : Key) : Type 0 where
  pub sender : key.sender < senders
  pub serial : key.serial.0 < serials

abbrev pub KeysFit : Record → Type 0
KeysFit r = (i : ℕ) → i < most_slots → KeyFits (slot_at r.slots i).key

-- The sender of a message is a number of 32 bits too; a page and a beat have none.
abbrev pub SenderFits : Input → Type 0
SenderFits (message sender ud) = sender < senders
SenderFits (page octets) = Unit {0}

abbrev pub SenderIn : Event → Type 0
SenderIn (takes c) = SenderFits c.input
SenderIn (beats limit) = Unit {0}

-- a call or a beat as a caller can make it, the output that it lends having 01's length
pub record Possible (e : Event) : Type 0 where
  pub proper : Proper e
  pub sender : SenderIn e

-- ---- making a record
-- calls and beats that lead from a fresh record of n slots, with these cells, to this record
pub record MadeIn (n : ℕ) (cells : List ℕ) (r : Record) : Type 0 where
  pub events : List Event
  pub possible : Each Possible events
  pub lead : (run n (fresh n r.kind cells) events).rec ≡ r

-- "a record that the library could not have made": no calls and beats lead to it, whatever fresh record and whatever cells they begin with
abbrev pub NeverMade : Record → Type 0
NeverMade r = (n : ℕ) → Slots n → (cells : List ℕ) → MadeIn n cells r → ⊥

-- ---- a record is well formed exactly if it can be made
-- A well-formed record can be made in any cells of 01's length, whatever they hold; and what was made, in whatever cells, is well formed, its
-- keys within their types.
pub record Acceptance (n : ℕ) : Type 0 where
  pub formed_is_made : (r : Record) → KeysFit r → record_formed n r ≡ true → (cells : List ℕ) → length cells ≡ cells_size n → MadeIn n cells r
  pub made_is_formed : (r : Record) (cells : List ℕ) → MadeIn n cells r → record_formed n r ≡ true
  pub made_fits : (r : Record) (cells : List ℕ) → MadeIn n cells r → KeysFit r

-- ---- so a record is refused 1 exactly if it could not have been made
abbrev pub Exactly : Type 0 → Type 0 → Type 0
Exactly This That = (This → That) × (That → This)

-- What each call that is given a record says of it, whatever number of slots the record names; what is lent has 01's lengths. The public test
-- says no, taking and the beat refuse it by 1. What a refusal leaves is said in `Refusing.antt`.
pub record RefusedIfNeverMade : Type 0 where
  pub tested : (r : Record) → KeysFit r → Exactly (record_formed r.count r ≡ false) (NeverMade r)
  pub taking : (s : State) (i : Input) → KeysFit s.rec → length s.cells ≡ cells_size s.rec.count → length s.output ≡ most_octets
      → Exactly ((take_input s.rec.count s i).answer ≡ refused_by 1) (NeverMade s.rec)
  pub beating : (r : Record) (limit : ℕ) → KeysFit r → Exactly ((beat r.count r limit).answer ≡ refusal.refused 1) (NeverMade r)
