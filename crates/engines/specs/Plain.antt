-- The plain engine (02 [9]): "Answers, slots named, packets and beats equal the first engine's for every sequence of calls from a fresh record, each lent
-- buffers of its right lengths." And what follows by this for the plain engine: demand 3, isolation, order and repetition.
use Rattle.std.specs.Prelude.{ℕ, ◌≤◌, ◌≡◌, Bool, true, false, List, [], ◌∷◌, ◌++◌, map, length, drop}
use Rattle.octets.specs.Octets.{Octets}
use Rattle.types.specs.declared.Kind.{Kind}
use Rattle.types.specs.Refusals as reading
use Rattle.packet.specs.Packets.{most_octets}
use Rattle.types.specs.declared.Key.{Key}
use Rattle.types.specs.declared.Record.{Record}
use Rattle.types.specs.declared.Slot.{Slot}
use Rattle.arrival.specs.Arrivals.{part}
use Rattle.formed.specs.Laws.{Formed}
use Rattle.beats.specs.Beats as first
use Rattle.cells.specs.Cells.{cells_size}
use Rattle.series.specs.Taking.{Answer, kept, held_already, packet, refused_by}
use Rattle.series.specs.Calls.{Input, read}
use Rattle.types.specs.declared.Log.{Log}
use Rattle.plain.specs.Entries.{Entry, most_entries, log_octets, LogState, state_in}
use Rattle.plain.specs.Engine.{AfterLog, fresh_log, log_formed, state_formed, log_take_input, log_beat}
use Rattle.plain.specs.Same.{All, SameLog}
use Rattle.plain.specs.ReadOff.{record_of}
use Rattle.sequences.specs.Lists.{elem, add, complete}
use Rattle.sequences.specs.Runs.{Slots, Call, Event, takes, beats, Store, fresh, outcome, left_by, run, Proper, Each}
use Rattle.sequences.specs.Reachable.{KeyFits, Possible, Exactly}
use Rattle.sequences.specs.Wake.{History, begin, follow, Start}
use Rattle.shuffles.specs.Others.{without_others, calls_with, OfSeries}
use Rattle.shuffles.specs.Shuffled.{BringsPart, BringInOrder, none_complete, all_answered, AllName}

-- ---- the same events through both engines
-- what a caller hears: of a call the answer and every octet of the output, of a beat its answer
pub data Heard : Type 0 where
  heard : Answer → (output : List ℕ) → Heard
  heard_of_beat : reading.Outcome ℕ → Heard

abbrev pub heard_by : ℕ → Store → Event → Heard
heard_by n st (takes c) = heard (outcome n st c).answer (outcome n st c).state.output
heard_by n st (beats limit) = heard_of_beat (first.beat n st.rec limit).answer

abbrev pub heard_over : ℕ → Store → List Event → List Heard
heard_over n st [] = []
heard_over n st (e ∷ es) = heard_by n st e ∷ heard_over n (left_by n st e) es

-- the plain engine's: what a call comes to, what an event leaves, and what the caller hears
abbrev pub plain_outcome : LogState → Call → AfterLog
plain_outcome s c = log_take_input s c.output c.input

abbrev pub plain_by : LogState → Event → LogState
plain_by s (takes c) = (plain_outcome s c).state
plain_by s (beats limit) = (log_beat s limit).state

abbrev pub plain_run : LogState → List Event → LogState
plain_run s [] = s
plain_run s (e ∷ es) = plain_run (plain_by s e) es

abbrev pub plain_heard_by : LogState → Event → Heard
plain_heard_by s (takes c) = heard (plain_outcome s c).answer (plain_outcome s c).output
plain_heard_by s (beats limit) = heard_of_beat (log_beat s limit).answer

abbrev pub plain_heard_over : LogState → List Event → List Heard
plain_heard_over s [] = []
plain_heard_over s (e ∷ es) = plain_heard_by s e ∷ plain_heard_over (plain_by s e) es

module _ (n : ℕ) (k : Kind) where
  -- a fresh log, in octets that hold anything, and what events lead to from it
  abbrev pub plain_fresh : List ℕ → LogState
  plain_fresh lent = state_in (fresh_log n k) lent

  abbrev pub plain_after : List ℕ → List Event → LogState
  plain_after lent events = plain_run (plain_fresh lent) events

  -- buffers of their right lengths
  pub record LentBoth (cells lent : List ℕ) : Type 0 where
    pub for_cells : length cells ≡ cells_size n
    pub for_log : length lent ≡ log_octets

  -- THE ENGINES ARE EQUAL
  abbrev pub EnginesEqual : Type 0
  EnginesEqual = (cells lent : List ℕ) → LentBoth cells lent → (events : List Event) → Each Proper events → plain_heard_over (plain_fresh lent) events ≡ heard_over n (fresh n k cells) events

  -- Behind any events the log is one that the test accepts, of 75 entries at most, and the record that is read off it is the first engine's.
  pub record InStep (s : LogState) (r : Record) : Type 0 where
    pub accepted : state_formed s ≡ true
    pub few : length s.log ≤ 75
    pub read_off : record_of s.slots s.kind s.log ≡ r

  abbrev pub AlwaysInStep : Type 0
  AlwaysInStep = (cells lent : List ℕ) → LentBoth cells lent → (events : List Event) → Each Proper events → InStep (plain_after lent events) (run n (fresh n k cells) events).rec

  -- ---- demand 3, by equality
  module _ (K : Key) (P : List ℕ) (parts : List (List ℕ)) where
    -- The number had come before, parts are still missing, or it was the last missing part: then exactly the packet is handed out.
    pub data ServedPlainly (w : History) (c : Call) (number : ℕ) (p : AfterLog) : Type 0 where
      again : elem number w.arrived ≡ true → p.answer ≡ held_already w.slot → p.output ≡ c.output → ServedPlainly w c number p
      waits : (i : ℕ) (d : Bool) → elem number w.arrived ≡ false → complete (length parts) (add number w.arrived) ≡ false
          → p.answer ≡ kept i d → p.output ≡ c.output → ServedPlainly w c number p
      wakes : elem number w.arrived ≡ false → complete (length parts) (add number w.arrived) ≡ true
          → p.answer ≡ packet (length P) → p.output ≡ P ++ drop (length P) c.output → ServedPlainly w c number p

    abbrev pub PlainWakeWindow : (Timely : List ℕ → Type 0) → Type 0
    PlainWakeWindow Timely = (cells lent : List ℕ) → LentBoth cells lent → (earlier calls : List Event) → Start n k K P parts Timely cells earlier calls
        → (u : List Event) (c : Call) (v : List Event) → calls ≡ u ++ takes c ∷ v → (total number start : ℕ)
        → read k c.input ≡ reading.gives (part K total number start) → complete (length parts) (follow n k K (begin n k cells earlier) u).arrived ≡ false
        → ServedPlainly (follow n k K (begin n k cells earlier) u) c number (plain_outcome (plain_after lent (earlier ++ u)) c)

    -- ---- others do not show
    abbrev pub PlainOthersUnseen : (Timely : List ℕ → Type 0) → Type 0
    PlainOthersUnseen Timely = (cells lent : List ℕ) → LentBoth cells lent → (earlier : List Event) (opening : Call) (calls : List Event)
        → Start n k K P parts Timely cells earlier (takes opening ∷ calls) → (u : List Event) (c : Call) (v : List Event) → OfSeries n k K P parts cells earlier opening calls u c v
        → plain_heard_by (plain_after lent (earlier ++ u)) (takes c) ≡ plain_heard_by (plain_after lent (earlier ++ without_others k K u)) (takes c)

    -- isolation: two runs, both within the window, with the same calls with the key in the same order; all else may differ
    abbrev pub PlainIsolated : (Timely : List ℕ → Type 0) → Type 0
    PlainIsolated Timely = (cells lent : List ℕ) → LentBoth cells lent → (earlier : List Event) (opening : Call) (calls calls' : List Event)
        → Start n k K P parts Timely cells earlier (takes opening ∷ calls) → Start n k K P parts Timely cells earlier (takes opening ∷ calls')
        → (c : Call) (u v u' v' : List Event) → OfSeries n k K P parts cells earlier opening calls u c v → OfSeries n k K P parts cells earlier opening calls' u' c v'
        → calls_with k K u ≡ calls_with k K u'
        → plain_heard_by (plain_after lent (earlier ++ u)) (takes c) ≡ plain_heard_by (plain_after lent (earlier ++ u')) (takes c)

  -- ---- order and repetition, behind any events
  -- A part answered "kept", brought again at once, is "held already" in the same slot, and the same record is read off.
  abbrev pub read_of : LogState → Record
  read_of s = record_of s.slots s.kind s.log

  abbrev pub PlainKeptThenHeld : Type 0
  PlainKeptThenHeld = (lent : List ℕ) → length lent ≡ log_octets → (events : List Event) → Each Proper events → (K : Key) (total number : ℕ) (own : List ℕ) (c d : Call)
      → BringsPart k K total number own c → BringsPart k K total number own d → (slot : ℕ) (mark : Bool) → (plain_outcome (plain_after lent events) c).answer ≡ kept slot mark
      → (plain_heard_by (plain_outcome (plain_after lent events) c).state (takes d) ≡ heard (held_already slot) d.output)
      × (read_of (plain_outcome (plain_outcome (plain_after lent events) c).state d).state ≡ read_of (plain_outcome (plain_after lent events) c).state)

  -- Two parts of one key with different numbers, both "kept" in a row, are both "kept" in the other order, in the same slot, and the same record is read off.
  -- The mark of displacement is at the first answer or at none.
  pub record PlainExchanged (s : LogState) (c d : Call) (slot : ℕ) (mark : Bool) (slot' : ℕ) (mark' : Bool) : Type 0 where
    pub same_slot : slot' ≡ slot
    pub no_second_mark : mark' ≡ false
    pub first_answer : (plain_outcome s d).answer ≡ kept slot mark
    pub second_answer : (plain_outcome (plain_outcome s d).state c).answer ≡ kept slot false
    pub equal : read_of (plain_outcome (plain_outcome s d).state c).state ≡ read_of (plain_outcome (plain_outcome s c).state d).state

  abbrev pub PlainEitherOrder : Type 0
  PlainEitherOrder = (lent : List ℕ) → length lent ≡ log_octets → (events : List Event) → Each Proper events → (K : Key) (total total' number number' : ℕ) (own own' : List ℕ) (c d : Call)
      → BringsPart k K total number own c → BringsPart k K total' number' own' d → (number ≡ number' → ⊥)
      → (slot : ℕ) (mark : Bool) → (plain_outcome (plain_after lent events) c).answer ≡ kept slot mark
      → (slot' : ℕ) (mark' : Bool) → (plain_outcome (plain_outcome (plain_after lent events) c).state d).answer ≡ kept slot' mark'
      → PlainExchanged (plain_after lent events) c d slot mark slot' mark'

  -- Any two orders of the same parts of one key, repeats allowed, of which one completes no series: neither does the other, the same record is read off,
  -- each answer is told from the one that its part would get first of all, and all name one slot.
  abbrev pub plain_answers_of : LogState → List Call → List Answer
  plain_answers_of s [] = []
  plain_answers_of s (c ∷ cs) = (plain_outcome s c).answer ∷ plain_answers_of (plain_outcome s c).state cs

  pub record PlainShuffled (s : LogState) (cs ds : List Call) (l : List ℕ) : Type 0 where
    pub none_complete_lem : none_complete (plain_answers_of s ds) ≡ true
    pub equal : read_of (plain_run s (map takes ds)) ≡ read_of (plain_run s (map takes cs))
    pub answered : plain_answers_of s ds ≡ all_answered (λ c. (plain_outcome s c).answer) [] ds l
    pub slot : ℕ
    pub one_slot : AllName slot (plain_answers_of s cs)
    pub same_slot : AllName slot (plain_answers_of s ds)

  abbrev pub PlainAnyOrder : Type 0
  PlainAnyOrder = (lent : List ℕ) → length lent ≡ log_octets → (events : List Event) → Each Proper events → (K : Key) (total : ℕ) (own : ℕ → List ℕ) (cs ds : List Call) (l m : List ℕ)
      → BringInOrder k K total own cs l → BringInOrder k K total own ds m → ((number : ℕ) → elem number l ≡ elem number m)
      → none_complete (plain_answers_of (plain_after lent events) cs) ≡ true → PlainShuffled (plain_after lent events) cs ds m

-- ---- which logs can be made
-- What octets say of an entry: its key and its part are within their types, and the part has as many octets as are noted.
pub record EntryInType (e : Entry) : Type 0 where
  pub key : KeyFits e.key
  pub octets : Octets e.octets
  pub size : e.size ≡ length e.octets

-- calls and beats that lead from a fresh log, in these octets, to a log with these entries in this order
pub record LogMadeIn (n : ℕ) (k : Kind) (lent : List ℕ) (log : List Entry) : Type 0 where
  pub events : List Event
  pub possible : Each Possible events
  pub lead : (plain_after n k lent events).log ≡ log

-- "a log it could not have made": no calls and beats lead to it from a fresh one
abbrev pub LogNeverMade : Log → List ℕ → Type 0
LogNeverMade l lent = Slots l.slots → LogMadeIn l.slots l.kind lent (state_in l lent).log → ⊥

-- A log is accepted exactly if it can be made: whatever the order of its entries, since none is judged. So there is a well-formed record, with cells, that it
-- is the same as. And a log in lent octets is refused 1 exactly if it could not have been made.
pub record LogAcceptance : Type 0 where
  pub formed_is_made : (n : ℕ) (k : Kind) (log : List Entry) → log_formed n k log ≡ true → length log ≤ most_entries → All EntryInType log
      → (lent : List ℕ) → length lent ≡ log_octets → LogMadeIn n k lent log
  pub made_is_formed : (n : ℕ) (k : Kind) (log : List Entry) → Slots n → (lent : List ℕ) → length lent ≡ log_octets → LogMadeIn n k lent log → (log_formed n k log ≡ true) × (length log ≤ 75)
  pub formed_is_same : (n : ℕ) (k : Kind) (log : List Entry) → log_formed n k log ≡ true → length log ≤ most_entries → All EntryInType log
      → (xs : List Slot) × (cells : List ℕ) × Formed n k xs × SameLog n xs cells log
  -- what is said of a log in lent octets of the right length: by the test, by a call that takes, by a beat
  pub tested : (l : Log) (lent : List ℕ) → Octets lent → length lent ≡ log_octets → Exactly (state_formed (state_in l lent) ≡ false) (LogNeverMade l lent)
  pub taking : (l : Log) (lent : List ℕ) → Octets lent → length lent ≡ log_octets → (output : List ℕ) → length output ≡ most_octets → (i : Input)
      → Exactly ((log_take_input (state_in l lent) output i).answer ≡ refused_by 1) (LogNeverMade l lent)
  pub beating : (l : Log) (lent : List ℕ) → Octets lent → length lent ≡ log_octets → (limit : ℕ)
      → Exactly ((log_beat (state_in l lent) limit).answer ≡ reading.refused 1) (LogNeverMade l lent)

-- all of it
pub record PlainEngine (n : ℕ) (k : Kind) (Timely : List ℕ → Type 0) : Type 0 where
  pub engines_equal : EnginesEqual n k
  pub always_in_step : AlwaysInStep n k
  pub wake_window : (K : Key) (P : List ℕ) (parts : List (List ℕ)) → PlainWakeWindow n k K P parts Timely
  pub others_unseen : (K : Key) (P : List ℕ) (parts : List (List ℕ)) → PlainOthersUnseen n k K P parts Timely
  pub isolated : (K : Key) (P : List ℕ) (parts : List (List ℕ)) → PlainIsolated n k K P parts Timely
  pub kept_then_held : PlainKeptThenHeld n k
  pub either_order : PlainEitherOrder n k
  pub any_order : PlainAnyOrder n k
