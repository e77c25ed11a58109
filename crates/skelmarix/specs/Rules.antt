-- The rules that a user's contract cites, under one name, and nothing of its own: a number of two octets, the sizes of buffers, a record, a fresh
-- one, what making one comes to, which records are well formed, what taking and a beat come to, the octets of a state and what the same calls come to
-- on it, a log and what they come to on that, what reporting comes to, an empty table of counters, what judging a counter comes to, an empty table of
-- outstanding commands, what its two calls come to, and what salvaging comes to.
pub use Rattle.octets.specs.Octets.{number_of}
pub use Rattle.packet.specs.Packets.{most_octets}
pub use Rattle.cells.specs.Cells.{cells_size}
pub use Rattle.slots.specs.Slots.{most_slots, default_slots, is_slot_number, slot_at, fresh_record, with_slots, Beside, beside, told_making, making}
pub use Rattle.series.specs.Taking.{State, state, Answer, After, after, told_answer}
unfoldable pub use Rattle.series.specs.Taking.{take_message, take_page}
pub use Rattle.beats.specs.Beats.{AfterBeat, beaten, told_beating}
unfoldable pub use Rattle.beats.specs.Beats.{beat}
pub use Rattle.formed.specs.Formed.{record_formed}
pub use Rattle.series.specs.Calls.{Input, message, page, take_input}
pub use Rattle.layout.specs.Layout.{state_size, OnState, on_state, making_state}
unfoldable pub use Rattle.layout.specs.Layout.{state_record, known, state_octets}
pub use Rattle.sound.specs.Card.{beat_octets}
unfoldable pub use Rattle.sound.specs.Card.{beat_in}
pub use Rattle.card.specs.Card.{TakenState, taken_state, taken_octets}
unfoldable pub use Rattle.card.specs.Card.{take_in}
pub use Rattle.plain.specs.Entries.{entry_octets, most_entries, log_octets, Entry, LogState, state_in}
unfoldable pub use Rattle.plain.specs.Entries.{log_entry_at, entries_from}
pub use Rattle.plain.specs.Engine.{fresh_log, BesideLog, beside_log, making_log, AfterLog, after_log, AfterLogBeat, beaten_log}
unfoldable pub use Rattle.plain.specs.Engine.{state_formed, log_take_message, log_take_page, log_beat}
pub use Rattle.plain.specs.ReadOff.{record_of}
pub use Rattle.report.specs.Reporting.{Going, nothing_goes, in_report, announced, submitted, Reported, reported, told_outgoing, announces_another, told_announcing}
unfoldable pub use Rattle.report.specs.Reporting.{write_report, response_announces}
pub use Rattle.counters.specs.Counters.{no_counters, Assessed, assessed, told_judgement}
unfoldable pub use Rattle.counters.specs.Counters.{judge_counter}
pub use Rattle.gateway.specs.Gateway.{sent_command, no_commands, Fate, fate_closed, fate_waiting, Settled, settled, told_sending, told_closing}
unfoldable pub use Rattle.gateway.specs.Gateway.{command_sent, response_came}
pub use Rattle.capture.specs.Captures.{most_capture, record_head}
unfoldable pub use Rattle.capture.specs.Captures.{salvaging, next_run, record_in}
