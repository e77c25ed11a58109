-- What the functions that take a part cite of one another: the step that is due, and what acting may rely on.
use Rattle.std.specs.declared.result.Result.{Result}
use Rattle.std.specs.declared.result.Result.TheVariants.{Ok, Err}
use Rattle.types.specs.declared.Refusal.{Refusal}
use Rattle.std.specs.Prelude.{ℕ, ◌+◌, ◌≤◌, ◌<◌, Bool, true, false, not, cond, ◌||◌, List, [], ◌≡◌, length, get_or, drop, eqb, ltb}
use Rattle.std.proofs.Math.Option.{Option, none, some}
use Rattle.types.specs.declared.Kind.{Kind}
use Rattle.types.specs.declared.Kind.TheVariants.{Command}
use Rattle.types.specs.Refusals.{Outcome, refusal_number}
use Rattle.packet.specs.Packets.{most_octets}
use Rattle.types.specs.declared.Key.{Key}
use Rattle.types.specs.declared.Arrival as arrival
use Rattle.arrival.specs.Arrivals.{Brought}
use Rattle.arrival.specs.Message.{most_parts}
use Rattle.arrival.specs.Laws.{Admitted}
use Rattle.types.specs.declared.Slot.{Slot}
use Rattle.types.specs.declared.Answer as response
use Rattle.types.specs.declared.Record.{Record}
use Rattle.series.specs.declared.take.Step as declared
use Rattle.series.specs.declared.take.Change.{Change}
use Rattle.series.specs.declared.take.Step.TheVariants.{Repeats, Keeps, Finishes}
use Rattle.slots.specs.declared.find.Seat.{Seat}
use Rattle.slots.specs.Below.{all_below}
use Rattle.slots.specs.Slots.{slot_at, at_front, no_key, free_slot, slots_in, fresh_record}
use Rattle.slots.specs.Found.{seat_of}
use Rattle.slots.specs.Order.{replaced}
use Rattle.cells.specs.Cells.{cell_octets, joined_octets}
use Rattle.cells.specs.Handing.{Place, Reaches}
use Rattle.series.specs.Taking.{State, After, Answer, told_answer, refused_by, packet, state, after, refuse, taken, unfit, Step, refuses, repeats, keeps, finishes, step_in}

-- ---- the step
-- of `completes`: each part up to the total is marked, or has the number; and the same of one place of sixteen
abbrev pub all_with : List Bool → ℕ → ℕ → Bool
all_with held total number = all_below total (λ i. eqb (i + 1) number || get_or held i false)

abbrev pub has_with : List Bool → ℕ → ℕ → ℕ → Bool
has_with held total number i = not (ltb i total) || (eqb (i + 1) number || get_or held i false)

-- what the enum of a decision says, of slot i, which is x
abbrev pub told_step : ℕ → Slot → Result declared.Step Refusal → Step
told_step i x (Err r) = refuses (refusal_number r)
told_step i x (Ok Repeats) = repeats i
told_step i x (Ok Keeps) = keeps i false x
told_step i x (Ok Finishes) = finishes i

-- of `step_in`: it looks at the cells and at x, and at nothing else of the state
abbrev pub step_at : List ℕ → ℕ → ℕ → List ℕ → ℕ → Slot → Step
step_at cells total number octets = step_in 0 (state (fresh_record 0 Command) cells []) no_key total number octets

-- Acting looks at one thing of a key, whether it is of pages: a key that is, and one that is not.
abbrev pub any_key_of : Bool → Key
any_key_of true = no_key
any_key_of false = record { sender = 0; width = 8; reference = 0; serial = record { 0 = 0 }; identifier = record { 0 = 0 } }

-- ---- acting
-- the answer to a packet of that length, and to none
abbrev pub answer_of : Option ℕ → Answer
answer_of none = refused_by 9
answer_of (some n) = packet n

-- what writing part `number` to slot i relies on
pub record Room (i number : ℕ) (octets cells : List ℕ) : Type 0 where
  pub place : Place i number
  pub short : length octets ≤ cell_octets
  pub size : Reaches i cells

-- what joining the parts of slot i, which is x, relies on
pub record Whole (x : Slot) (i number : ℕ) (octets cells output : List ℕ) : Type 0 where
  pub lengths : length x.lengths ≡ most_parts
  pub some : 0 < x.total
  pub most : x.total ≤ most_parts
  pub joined : length (joined_octets cells x i number octets) ≤ length output

-- ---- the change
-- slot i comes to the front, as x; slot i is freed
abbrev pub fronted : Result response.Answer Refusal → ℕ → Slot → Change
fronted a i x = record { answer = a; moves = true; front = true; slot = i; entry = at_front x }

abbrev pub emptied : Result response.Answer Refusal → ℕ → Change
emptied a i = record { answer = a; moves = true; front = false; slot = i; entry = free_slot }

-- what a change makes of a record
abbrev pub changed : Record → Change → Record
changed r c = cond c.moves (replaced c.front r c.slot c.entry) r

-- a record of that kind with x in slot i, with ranks that can be counted on, and with no series past its slots
pub record Holds (r : Record) (k : Kind) (i : ℕ) (x : Slot) : Type 0 where
  pub kind : r.kind ≡ k
  pub inside : i < slots_in r
  pub rest : (j : ℕ) → slots_in r ≤ j → (slot_at r.slots j).rank ≡ 0
  pub entry : slot_at r.slots i ≡ x
  pub ranks : (j : ℕ) → (slot_at r.slots j).rank < 255

-- one in which besides o is where the series with that key is or goes
pub record Seated (r : Record) (k : Kind) (key : Key) (o : Seat) (x : Slot) : Type 0 where
  pub seat : o ≡ seat_of (slots_in r) r.slots key
  pub holds : Holds r k o.slot x

-- with these cells and this output, the change comes to what is due of every such record
abbrev pub Makes : (Record → Type 0) → Change → List ℕ → List ℕ → (Record → After) → Type 0
Makes Such c cells output due = (r : Record) → Such r → after (told_answer c.answer) (changed r c) cells output ≡ due r

-- ---- an arrival
-- what taking relies on of an arrival that reading these octets gave
abbrev pub Fitting : Kind → List ℕ → Result arrival.Arrival Refusal → Type 0
Fitting k o (Ok (arrival.TheVariants.Single start)) = length (drop start o) ≤ most_octets
Fitting k o (Ok (arrival.TheVariants.Part key total number start)) = Admitted k key total number (drop start o)
Fitting k o (Err r) = Unit

-- of `take_message` and `take_page`: what follows on reading, with the test of 1 before it
abbrev pub taken_where_fit : ℕ → State → Bool → List ℕ → Outcome Brought → After
taken_where_fit n s paged o b = cond (unfit n s) (refuse 1 s) (taken n s paged o b)
