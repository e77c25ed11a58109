-- What a line leaves of the tables of counters and of outstanding commands, by its row: after a call of the library they are those of its rule.
use Rattle.std.specs.Prelude.{ℕ, ◌%◌, cond, List, eqb, drop, set}
use Rattle.types.specs.declared.CounterEntry.{CounterEntry}
use Rattle.types.specs.declared.Counters.{Counters}
use Rattle.types.specs.declared.SentCommand.{SentCommand}
use Rattle.types.specs.declared.Outstanding.{Outstanding}
use Rattle.skelmarix.specs.Rules.{judge_counter, sent_command, command_sent, response_came}
use Rattle.values.specs.Fields.{sender_of, tar_of, cntr_of}

-- ---- counters
-- the table with an entry as the line has it, and with another count in use
abbrev pub entry_of : List ℕ → CounterEntry
entry_of octets = record { tar = tar_of octets; cntr = cntr_of (drop 3 octets) }

abbrev pub with_entry : Counters → ℕ → CounterEntry → Counters
with_entry c i e = record { count = c.count; entries = set c.entries i e }

abbrev pub with_in_use : Counters → ℕ → Counters
with_in_use c n = record { count = n; entries = c.entries }

-- row 53 `counter I TAR CNTR`, row 54 `counters N` or `counters`, row 55 `judge PACKET`
abbrev pub counters_by : ℕ → ℕ → ℕ → List ℕ → Counters → Counters
counters_by row count n octets c =
    cond (eqb row 53) (with_entry c (n % 16) (entry_of octets))
    (cond (eqb row 54) (cond (eqb count 0) c (with_in_use c (n % 256)))
    (judge_counter c octets).counters)

-- ---- outstanding commands
-- the command of a line: SENDER, TAR and CNTR are its octets
abbrev pub command_of : List ℕ → SentCommand
command_of o = sent_command (sender_of o) (tar_of (drop 4 o)) (cntr_of (drop 7 o))

-- with another count in use, or with an entry as it stands, by how many words the line has
abbrev pub table_written : ℕ → ℕ → SentCommand → Outstanding → Outstanding
table_written count n e t =
    cond (eqb count 0) t
    (cond (eqb count 1) (record { count = n % 256; entries = t.entries })
    (record { count = t.count; entries = set t.entries (n % 8) e }))

-- row 57 `sent SENDER TAR CNTR`, row 58 `answered SENDER PACKET`, row 59 `outstanding`, `outstanding N` and `outstanding I SENDER TAR CNTR`
abbrev pub commands_after : ℕ → ℕ → ℕ → List ℕ → Outstanding → Outstanding
commands_after row count n octets t =
    cond (eqb row 57) (command_sent t (command_of octets)).1
    (cond (eqb row 58) (response_came t (sender_of octets) (drop 4 octets)).1
    (table_written count n (command_of octets) t))
