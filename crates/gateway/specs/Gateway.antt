-- Outstanding commands, server side (02, [13]): "up to 8 commands sent and unanswered, each by sender, TAR and CNTR".
use Rattle.std.specs.declared.result.Result.{Result}
use Rattle.std.specs.declared.result.Result.TheVariants.{Ok, Err}
use Rattle.types.specs.declared.Refusal.{Refusal}
use Rattle.std.specs.Prelude.{ℕ, ◌+◌, ◌-◌, Bool, false, not, cond, ◌&&◌, ◌||◌, List, [], ◌∷◌, ◌++◌, get_or, take, drop, replicate, eqb, ltb, leb}
use Rattle.types.specs.declared.Kind.TheVariants.{Response}
use Rattle.types.specs.declared.Tar.{Tar}
use Rattle.types.specs.declared.Cntr.{Cntr}
use Rattle.types.specs.declared.SentCommand.{SentCommand}
use Rattle.types.specs.declared.Outstanding.{Outstanding}
use Rattle.types.specs.declared.Closing as closing
use Rattle.types.specs.Refusals.{Outcome, refused, gives, refuse◌when◌otherwise◌, refusal_number}
use Rattle.packet.specs.Packets.{readable}
use Rattle.report.specs.Reporting.{status_of, announces_another}

-- ---- a command
-- "each by sender, TAR and CNTR"
abbrev pub sent_command : ℕ → Tar → Cntr → SentCommand
sent_command sender tar cntr = record { sender = sender; tar = tar; cntr = cntr }

-- "equals it in all three"
abbrev pub same_command : SentCommand → SentCommand → Bool
same_command a b =
    eqb a.sender b.sender
    && (eqb a.tar.0 b.tar.0 && eqb a.tar.1 b.tar.1 && eqb a.tar.2 b.tar.2)
    && (eqb a.cntr.0 b.cntr.0 && eqb a.cntr.1 b.cntr.1 && eqb a.cntr.2 b.cntr.2 && eqb a.cntr.3 b.cntr.3 && eqb a.cntr.4 b.cntr.4)

-- ---- the table
-- "holds up to 8 commands": the first entries are in use, as many as the count says
abbrev pub most_commands : ℕ
most_commands = 8

abbrev pub awaited : Outstanding → List SentCommand
awaited t = take t.count t.entries

abbrev pub zero_command : SentCommand
zero_command = sent_command 0 (0, 0, 0) (0, 0, 0, 0, 0)

-- an empty table, all zero
abbrev pub no_commands : Outstanding
no_commands = record { count = 0; entries = replicate most_commands zero_command }

-- one of the entries equals the command
unfoldable pub among : SentCommand → List SentCommand → Bool
among c [] = false
among c (e ∷ es) = same_command e c || among c es

-- "a triple twice": one that an entry has, and another behind it
unfoldable pub twice_among : List SentCommand → Bool
twice_among [] = false
twice_among (e ∷ es) = among e es || twice_among es

-- 1: "over 8 entries or a triple twice"
abbrev pub unfit_table : Outstanding → Bool
unfit_table t = ltb most_commands t.count || twice_among (awaited t)

-- the entries without the one that equals the command; the others keep their order
unfoldable pub all_but : SentCommand → List SentCommand → List SentCommand
all_but c [] = []
all_but c (e ∷ es) = cond (same_command e c) es (e ∷ all_but c es)

-- a command more: it stands behind those in use
abbrev pub with_command : Outstanding → SentCommand → Outstanding
with_command t c = record { count = t.count + 1; entries = awaited t ++ (c ∷ drop (t.count + 1) t.entries) }

-- a command less: those behind it move up by one, and the entry that is freed at the end is zero
abbrev pub without_command : Outstanding → SentCommand → Outstanding
without_command t c = record { count = t.count - 1; entries = all_but c (awaited t) ++ (zero_command ∷ drop t.count t.entries) }

-- ---- the response
-- the command that a plain response from a sender answers: TAR and CNTR, where they stand in a response (packet/specs/Packets.antt)
abbrev pub response_tar : List ℕ → Tar
response_tar p = (get_or p 3 0, get_or p 4 0, get_or p 5 0)

abbrev pub response_cntr : List ℕ → Cntr
response_cntr p = (get_or p 6 0, get_or p 7 0, get_or p 8 0, get_or p 9 0, get_or p 10 0)

abbrev pub answered_by : ℕ → List ℕ → SentCommand
answered_by sender p = sent_command sender (response_tar p) (response_cntr p)

-- what a response does to its command
pub data Fate : Type 0 where
  fate_closed : Fate
  fate_waiting : Fate

-- "A plain response closes the one that equals it in all three; status 0B or 08 leaves it waiting for the complete response": whether its status
-- is one of these is [12]'s definition
abbrev pub fate_by : Bool → Outstanding → SentCommand → Fate × Outstanding
fate_by announces t c = cond announces (fate_waiting, t) (fate_closed, without_command t c)

-- ---- the calls
-- the answer, and the table as it is afterwards
abbrev pub Settled : Type 0 → Type 0
Settled A = Outcome A × Outstanding

abbrev pub settled : {A : Type 0} → Outcome A → Outstanding → Settled A
settled answer t = (answer, t)

-- "No refusal changes the table."
abbrev pub or_stays : {A : Type 0} → Outstanding → Outcome (A × Outstanding) → Settled A
or_stays t (refused n) = settled (refused n) t
or_stays t (gives (answer, after)) = settled (gives answer) after

-- "sending tests 1 (over 8 entries or a triple twice), 22, 21": "21 full, 22 repeated"
unfoldable pub command_sent : Outstanding → SentCommand → Settled Unit
command_sent t c =
    or_stays t
    (refuse 1 when unfit_table t otherwise
    refuse 22 when among c (awaited t) otherwise
    refuse 21 when leb most_commands t.count otherwise
    gives (tt, with_command t c))

-- "a response 1, 9, 12, 23": "23 unmatched"
unfoldable pub response_came : Outstanding → ℕ → List ℕ → Settled Fate
response_came t sender p =
    or_stays t
    (refuse 1 when unfit_table t otherwise
    readable Response false p
    (refuse 23 when not (among (answered_by sender p) (awaited t)) otherwise
    gives (fate_by (announces_another (status_of p)) t (answered_by sender p))))

-- what the enums of the answers say
abbrev pub told_sending : Result Unit Refusal → Outcome Unit
told_sending (Ok tt) = gives tt
told_sending (Err r) = refused (refusal_number r)

abbrev pub told_closing : Result closing.Closing Refusal → Outcome Fate
told_closing (Ok closing.TheVariants.Closed) = gives fate_closed
told_closing (Ok closing.TheVariants.Waiting) = gives fate_waiting
told_closing (Err r) = refused (refusal_number r)
