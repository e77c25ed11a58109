-- Outstanding commands (02, [13]): each refusal on its condition, what a call leaves, and what is so over any history from an empty table.
use Rattle.std.specs.Prelude.{ℕ, ◌+◌, ◌≤◌, ◌<◌, ◌≡◌, Bool, true, false, not, ◌&&◌, ◌||◌, List, [], ◌∷◌, ◌++◌, ◌⊎◌, length, get_or, take, drop}
use Rattle.octets.specs.Octets.{Octets}
use Rattle.types.specs.declared.Kind.TheVariants.{Response}
use Rattle.types.specs.declared.Tar.{Tar}
use Rattle.types.specs.declared.PlainResponse.{PlainResponse}
use Rattle.types.specs.declared.ResponseBody.TheVariants as response
use Rattle.types.specs.declared.SentCommand.{SentCommand}
use Rattle.types.specs.declared.Outstanding.{Outstanding}
use Rattle.types.specs.Refusals.{Outcome, refused, gives}
use Rattle.packet.specs.Packets.{parsing}
use Rattle.packet.specs.Told.{response_fields}
use Rattle.arrival.specs.Keys.{reference_fits}
use Rattle.series.specs.Calls.{message}
use Rattle.split.specs.Splitting as split
use Rattle.gateway.specs.Gateway.{sent_command, same_command, awaited, zero_command, no_commands, among, with_command, without_command, answered_by, Fate, fate_closed, fate_waiting, Settled, settled, command_sent, response_came}
use Rattle.sequences.specs.Runs.{Slots}
use Rattle.sequences.specs.SplitTaken.{key_under}
use Rattle.sequences.specs.Delivery.{Delivered}

-- ---- the table
abbrev pub command_at : Outstanding → ℕ → SentCommand
command_at t i = get_or t.entries i zero_command

-- a table that is not refused: its eight entries are there, no more are in use, and no two of those in use are equal
pub record FitCommands (t : Outstanding) : Type 0 where
  pub there : length t.entries ≡ 8
  pub few : t.count ≤ 8
  pub differ : (i j : ℕ) → i < j → j < t.count → command_at t i ≡ command_at t j → ⊥

-- a command waits: one of the entries in use is it
pub record Waits (c : SentCommand) (t : Outstanding) : Type 0 where
  pub place : ℕ
  pub used : place < t.count
  pub is : command_at t place ≡ c

-- ---- each refusal on its condition, in its order
-- 1 "over 8 entries or a triple twice", whatever else is wrong
pub record UnfitCommands (Result : Type 0) (call : Outstanding → Settled Result) : Type 0 where
  pub many : (t : Outstanding) → 8 < t.count → call t ≡ settled (refused 1) t
  pub twice : (t : Outstanding) (i j : ℕ) → i < j → j < t.count → j < length t.entries → command_at t i ≡ command_at t j
      → call t ≡ settled (refused 1) t

-- "sending tests 1 .., 22, 21": a repeat in a full table is 22
pub record SendsOrRefuses (c : SentCommand) : Type 0 where
  pub one : UnfitCommands Unit (λ t. command_sent t c)
  pub twenty_two : (t : Outstanding) → FitCommands t → Waits c t → command_sent t c ≡ settled (refused 22) t
  pub twenty_one : (t : Outstanding) → FitCommands t → (Waits c t → ⊥) → t.count ≡ 8 → command_sent t c ≡ settled (refused 21) t
  pub sent : (t : Outstanding) → FitCommands t → (Waits c t → ⊥) → t.count < 8 → command_sent t c ≡ settled (gives tt) (with_command t c)

-- "a response 1, 9, 12, 23": 9 and 12 are parsing's. What parsing tells of the response decides the rest: its TAR and CNTR which command it
-- answers, its status whether that is closed or waits.
pub record ClosesOrRefuses (sender : ℕ) (p : List ℕ) : Type 0 where
  pub one : UnfitCommands Fate (λ t. response_came t sender p)
  pub nine_twelve : (t : Outstanding) → FitCommands t → (n : ℕ) → parsing Response false p ≡ refused n → response_came t sender p ≡ settled (refused n) t
  pub unmatched : (t : Outstanding) → FitCommands t → (tar : Tar) (b : PlainResponse)
      → parsing Response false p ≡ gives (response_fields tar (response.Plain b)) → (Waits (sent_command sender tar b.cntr) t → ⊥)
      → response_came t sender p ≡ settled (refused 23) t
  pub waits : (t : Outstanding) → FitCommands t → (tar : Tar) (b : PlainResponse)
      → parsing Response false p ≡ gives (response_fields tar (response.Plain b)) → Waits (sent_command sender tar b.cntr) t
      → (b.status ≡ 0x0B) ⊎ (b.status ≡ 0x08) → response_came t sender p ≡ settled (gives fate_waiting) t
  pub closes : (t : Outstanding) → FitCommands t → (tar : Tar) (b : PlainResponse)
      → parsing Response false p ≡ gives (response_fields tar (response.Plain b)) → Waits (sent_command sender tar b.cntr) t
      → (b.status ≡ 0x0B → ⊥) → (b.status ≡ 0x08 → ⊥)
      → response_came t sender p ≡ settled (gives fate_closed) (without_command t (sent_command sender tar b.cntr))

-- ---- the table afterwards
-- A new command stands behind those in use. Of a table whose entries in use are u, then the command, then v, those of u and v are left, in their
-- order; behind them stands a zero entry, and then what stood past the count, as it was.
pub record TableLeft (t : Outstanding) (c : SentCommand) : Type 0 where
  pub put : FitCommands t → t.count < 8 → awaited (with_command t c) ≡ awaited t ++ (c ∷ [])
  pub past : FitCommands t → t.count < 8 → drop (t.count + 1) (with_command t c).entries ≡ drop (t.count + 1) t.entries
  pub taken_out_lem : FitCommands t → (u v : List SentCommand) → awaited t ≡ u ++ (c ∷ v)
      → without_command t c ≡ record { count = length u + length v; entries = (u ++ v) ++ (zero_command ∷ drop t.count t.entries) }

-- Entries past the count are neither judged nor read: two tables that agree in the count and in the entries in use get the same answer, and agree
-- in them afterwards.
pub record Agree (t s : Outstanding) : Type 0 where
  pub count : t.count ≡ s.count
  pub used : awaited t ≡ awaited s

pub record PastCount (t s : Outstanding) : Type 0 where
  pub sending : (c : SentCommand) → ((command_sent t c).0 ≡ (command_sent s c).0) × Agree (command_sent t c).1 (command_sent s c).1
  pub response : (sender : ℕ) (p : List ℕ)
      → ((response_came t sender p).0 ≡ (response_came s sender p).0) × Agree (response_came t sender p).1 (response_came s sender p).1

-- ---- histories
-- a call: a command is sent, or a response comes from a sender
pub data TableCall : Type 0 where
  send : SentCommand → TableCall
  respond : (sender : ℕ) (octets : List ℕ) → TableCall

-- what it is answered, and which command an accepted call is about
pub data Reply : Type 0 where
  is_sent : SentCommand → Reply
  is_closed : SentCommand → Reply
  is_waiting : SentCommand → Reply
  is_refused : ℕ → Reply

abbrev pub sent_reply : SentCommand → Outcome Unit → Reply
sent_reply c (gives x) = is_sent c
sent_reply c (refused n) = is_refused n

abbrev pub came_reply : SentCommand → Outcome Fate → Reply
came_reply c (gives fate_closed) = is_closed c
came_reply c (gives fate_waiting) = is_waiting c
came_reply c (refused n) = is_refused n

abbrev pub reply_to : Outstanding → TableCall → Reply
reply_to t (send c) = sent_reply c (command_sent t c).0
reply_to t (respond sender p) = came_reply (answered_by sender p) (response_came t sender p).0

abbrev pub table_left : Outstanding → TableCall → Outstanding
table_left t (send c) = (command_sent t c).1
table_left t (respond sender p) = (response_came t sender p).1

-- each call gets the table that the one before it left
abbrev pub table_after : Outstanding → List TableCall → Outstanding
table_after t [] = t
table_after t (e ∷ es) = table_after (table_left t e) es

abbrev pub replies : Outstanding → List TableCall → List Reply
replies t [] = []
replies t (e ∷ es) = reply_to t e ∷ replies (table_left t e) es

-- "sent and closed counted from the accepted calls"
abbrev pub sent_in : List Reply → ℕ
sent_in [] = 0
sent_in (is_sent c ∷ rs) = 1 + sent_in rs
sent_in (is_closed c ∷ rs) = sent_in rs
sent_in (is_waiting c ∷ rs) = sent_in rs
sent_in (is_refused n ∷ rs) = sent_in rs

abbrev pub closed_in : List Reply → ℕ
closed_in [] = 0
closed_in (is_sent c ∷ rs) = closed_in rs
closed_in (is_closed c ∷ rs) = 1 + closed_in rs
closed_in (is_waiting c ∷ rs) = closed_in rs
closed_in (is_refused n ∷ rs) = closed_in rs

-- "Over any history from an empty table, commands sent equal commands closed plus those waiting"
abbrev pub Balanced : Type 0
Balanced = (es : List TableCall) → sent_in (replies no_commands es) ≡ closed_in (replies no_commands es) + length (awaited (table_after no_commands es))

-- whether a reply says that this command was sent, and that it was closed
abbrev pub sends : SentCommand → Reply → Bool
sends c (is_sent d) = same_command d c
sends c (is_closed d) = false
sends c (is_waiting d) = false
sends c (is_refused n) = false

abbrev pub closes_it : SentCommand → Reply → Bool
closes_it c (is_sent d) = false
closes_it c (is_closed d) = same_command d c
closes_it c (is_waiting d) = false
closes_it c (is_refused n) = false

abbrev pub closed_since : SentCommand → List Reply → Bool
closed_since c [] = false
closed_since c (r ∷ rs) = closes_it c r || closed_since c rs

-- it was sent, and not closed since
abbrev pub sent_and_open : SentCommand → List Reply → Bool
sent_and_open c [] = false
sent_and_open c (r ∷ rs) = (sends c r && not (closed_since c rs)) || sent_and_open c rs

-- the table holds exactly the triples sent and not yet closed; it has each of them once, since it is never one that is refused 1
abbrev pub HoldsExactly : Type 0
HoldsExactly = (es : List TableCall) (c : SentCommand) → among c (awaited (table_after no_commands es)) ≡ sent_and_open c (replies no_commands es)

abbrev pub AlwaysFit : Type 0
AlwaysFit = (es : List TableCall) → FitCommands (table_after no_commands es)

-- ---- from parts over the air to the closed command
-- A response that parses to this TAR and body is split into messages, of either width. Taken with a record of responses, in any order, they hand it
-- out; and whatever was lent as output, the octets at its start, as many as the answer says, close the command that waits for this sender.
pub record ClosedFromAir (n : ℕ) (t : Outstanding) (sender : ℕ) (p : List ℕ) (tar : Tar) (b : PlainResponse) : Type 0 where
  pub handed_out : (width reference : ℕ) → reference_fits width reference ≡ true → length p ≤ split.most_split width
      → Delivered n Response (key_under sender width reference) p (split.parts width (length p)) (split.part_octets width p)
      (λ number. message sender (split.user_data Response width reference p number))
  pub closed_by : (output : List ℕ)
      → response_came t sender (take (length p) (p ++ drop (length p) output)) ≡ settled (gives fate_closed) (without_command t (sent_command sender tar b.cntr))

abbrev pub FromAir : ℕ → Type 0
FromAir n =
    (t : Outstanding) → FitCommands t → (sender : ℕ) (p : List ℕ) → Octets p → (tar : Tar) (b : PlainResponse)
    → parsing Response false p ≡ gives (response_fields tar (response.Plain b)) → (b.status ≡ 0x0B → ⊥) → (b.status ≡ 0x08 → ⊥)
    → Waits (sent_command sender tar b.cntr) t → ClosedFromAir n t sender p tar b

-- ---- an example: a table fills, and an entry that was freed is used again
abbrev command : ℕ → ℕ → SentCommand
command sender low = sent_command sender (0xB0, 0x00, 0x10) (0, 0, 0, 0, low)

-- a response of thirteen octets, without check field and data
abbrev answer : ℕ → ℕ → List ℕ
answer low status = 0x00 ∷ 0x0B ∷ 0x0A ∷ 0xB0 ∷ 0x00 ∷ 0x10 ∷ 0 ∷ 0 ∷ 0 ∷ 0 ∷ low ∷ 0x00 ∷ status ∷ []

abbrev pub example_events : List TableCall
example_events =
    send (command 7 1) ∷ send (command 7 1) ∷ send (command 8 1) ∷ send (command 7 2) ∷ send (command 7 3) ∷ send (command 7 4)
    ∷ send (command 7 5) ∷ send (command 7 6) ∷ send (command 7 7)
    -- full: a repeat is still 22
    ∷ send (command 7 8) ∷ send (command 7 7)
    -- the status decides; another sender's command, and an unknown counter, are untouched
    ∷ respond 7 (answer 2 0x0B) ∷ respond 7 (answer 2 0x08) ∷ respond 7 (answer 2 0x00) ∷ respond 7 (answer 2 0x00) ∷ respond 9 (answer 1 0x00)
    ∷ respond 7 (0x00 ∷ []) ∷ respond 8 (answer 1 0x01)
    -- freed entries are used again
    ∷ send (command 7 2) ∷ send (command 7 8) ∷ send (command 7 9) ∷ []

abbrev pub example_replies : List Reply
example_replies =
    is_sent (command 7 1) ∷ is_refused 22 ∷ is_sent (command 8 1) ∷ is_sent (command 7 2) ∷ is_sent (command 7 3) ∷ is_sent (command 7 4)
    ∷ is_sent (command 7 5) ∷ is_sent (command 7 6) ∷ is_sent (command 7 7)
    ∷ is_refused 21 ∷ is_refused 22
    ∷ is_waiting (command 7 2) ∷ is_waiting (command 7 2) ∷ is_closed (command 7 2) ∷ is_refused 23 ∷ is_refused 23
    ∷ is_refused 9 ∷ is_closed (command 8 1)
    ∷ is_sent (command 7 2) ∷ is_sent (command 7 8) ∷ is_refused 21 ∷ []

pub record ExampleHistory : Type 0 where
  pub answers : replies no_commands example_events ≡ example_replies
  pub table : table_after no_commands example_events
      ≡ record { count = 8; entries = command 7 1 ∷ command 7 3 ∷ command 7 4 ∷ command 7 5 ∷ command 7 6 ∷ command 7 7 ∷ command 7 2 ∷ command 7 8 ∷ [] }
  pub counts : (sent_in example_replies ≡ 10) × (closed_in example_replies ≡ 2)
  -- two of the eight closed, and none sent since: behind the six in use two zero entries
  pub freed : table_after no_commands (take 18 example_events)
      ≡ record { count = 6; entries = command 7 1 ∷ command 7 3 ∷ command 7 4 ∷ command 7 5 ∷ command 7 6 ∷ command 7 7 ∷ zero_command ∷ zero_command ∷ [] }

-- ---- all of it
pub record OutstandingCommands : Type 0 where
  pub sends_or_refuses : (c : SentCommand) → SendsOrRefuses c
  pub closes_or_refuses : (sender : ℕ) (p : List ℕ) → ClosesOrRefuses sender p
  pub table_left_lem : (t : Outstanding) (c : SentCommand) → TableLeft t c
  pub past_count : (t s : Outstanding) → length t.entries ≡ 8 → length s.entries ≡ 8 → Agree t s → PastCount t s
  pub balanced : Balanced
  pub holds_exactly : HoldsExactly
  pub always_fit : AlwaysFit
  pub from_air : (n : ℕ) → Slots n → FromAir n
  pub example : ExampleHistory
