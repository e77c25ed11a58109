-- "Two outcomes allowed by one promise are shown equal" (01, "How tight the promises are"). A promise has the form: what the paper says of an
-- outcome is what the rule says. It is tight where no two outcomes are told alike.
use Rattle.types.specs.declared.Command as parsed_command
use Rattle.types.specs.declared.Response as parsed_response
use Rattle.std.specs.declared.result.Result.{Result}
use Rattle.std.specs.declared.option.Option as option
use Rattle.std.specs.Prelude.{ℕ, ◌≡◌, Bool, ◌&&◌, List}
use Rattle.std.proofs.Math.Option.{Option}
use Rattle.std.proofs.Math.ListN as list
use Rattle.types.specs.declared.Refusal.{Refusal}
use Rattle.types.specs.declared.Kind.{Kind}
use Rattle.types.specs.declared.Kind.TheVariants.{Command, Response}
use Rattle.types.specs.declared.Pair.{Pair}
use Rattle.types.specs.declared.Tar.{Tar}
use Rattle.types.specs.declared.Cntr.{Cntr}
use Rattle.types.specs.declared.Clear.{Clear}
use Rattle.types.specs.declared.Arrival.{Arrival}
use Rattle.types.specs.declared.SerialNumber.{SerialNumber}
use Rattle.types.specs.declared.MessageIdentifier.{MessageIdentifier}
use Rattle.types.specs.declared.Record.{Record}
use Rattle.types.specs.declared.Answer.{Answer}
use Rattle.types.specs.Refusals.{Outcome, Lent, lent, refusal_number, told_written}
use Rattle.octets.specs.Octets as octets
use Rattle.octets.specs.Given as given
use Rattle.packet.specs.Packets.{plain, ciphered, well_formed, ciphered_command, parsing, shown_data, shown_check, shown_opaque, built, checksummed}
use Rattle.packet.specs.Told.{tar_octets, clear_octets, command_fixed, response_fixed, told_command, told_response}
use Rattle.packet.specs.Judging.{told_judged}
use Rattle.header.specs.Reading.{told_walked}
use Rattle.arrival.specs.Arrivals.{told_arrival}
use Rattle.arrival.specs.Message.{read_message}
use Rattle.arrival.specs.Page.{read_page}
use Rattle.joined.specs.Fronts.{told_size}
use Rattle.slots.specs.Slots.{default_slots, fresh_record, Beside, beside, told_making, making}
use Rattle.formed.specs.Formed.{record_formed}
use Rattle.types.specs.declared.Made.{Made}
use Rattle.types.specs.declared.Taken.{Taken}
use Rattle.types.specs.declared.Beaten.{Beaten}
use Rattle.beats.specs.Beats as beats
use Rattle.series.specs.Taking as taking
use Rattle.series.specs.Calls.{message, page}
use Rattle.layout.specs.Layout as layout
use Rattle.sound.specs.Card as sound
use Rattle.card.specs.Card as card
use Rattle.types.specs.declared.Log.{Log}
use Rattle.types.specs.declared.LogMade.{LogMade}
use Rattle.types.specs.declared.LogTaken.{LogTaken}
use Rattle.types.specs.declared.LogBeaten.{LogBeaten}
use Rattle.plain.specs.Entries.{entries_from, LogState, state_in}
use Rattle.plain.specs.Engine as log
use Rattle.plain.specs.ReadOff.{record_of}
use Rattle.types.specs.declared.WrittenPart.{WrittenPart}
use Rattle.split.specs.Splitting as split
use Rattle.types.specs.declared.Spi.{Spi}
use Rattle.types.specs.declared.Outgoing.{Outgoing}
use Rattle.report.specs.Reporting as report
use Rattle.types.specs.declared.Counters.{Counters}
use Rattle.types.specs.declared.JudgedCounter.{JudgedCounter}
use Rattle.counters.specs.Counters as counters
use Rattle.types.specs.declared.Outstanding.{Outstanding}
use Rattle.types.specs.declared.AfterSending.{AfterSending}
use Rattle.types.specs.declared.AfterResponse.{AfterResponse}
use Rattle.gateway.specs.Gateway as gateway
use Rattle.types.specs.declared.SkippedRun.{SkippedRun}
use Rattle.types.specs.declared.Captured.{Captured}
use Rattle.capture.specs.Captures as capture
use Rattle.ussd.specs.Ussd as ussd
use Rattle.build.specs.Within.{told_ruling}

-- whatever the rule says, two outcomes of which that is told are the same
abbrev pub Tight : {Outcome Paper : Type 0} → (Outcome → Paper) → Type 0
Tight {Outcome} {Paper} told = (rule : Paper) (r₁ r₂ : Outcome) → told r₁ ≡ rule → told r₂ ≡ rule → r₁ ≡ r₂

-- ---- what the calls leave, and what is told of it
-- an answer, and the lent buffer as it is afterwards
abbrev pub told_built : Result ℕ Refusal × List ℕ → Lent
told_built (r, buffer) = lent (told_written r) buffer

abbrev pub told_part : Result WrittenPart Refusal × List ℕ → split.Written
told_part (r, buffer) = split.written (split.told r) buffer

abbrev pub told_report : Result Outgoing Refusal × List ℕ → report.Reported
told_report (r, buffer) = report.reported (report.told_outgoing r) buffer

-- how long a single packet is, if there is one, and the output as it is afterwards
abbrev pub told_handed : option.Option ℕ × List ℕ → Option ℕ × List ℕ
told_handed (r, output) = (told_size r, output)

-- an answer with the record that stands beside it
abbrev pub told_made : Made → Beside
told_made r = beside (told_making r.answer) r.record

-- an answer with the record, and the lent cells and output as they are afterwards
abbrev pub told_taken : Taken × (List ℕ × List ℕ) → taking.After
told_taken (r, (cells, output)) = taking.after (taking.told_answer r.answer) r.record cells output

-- an answer of a beat with the record
abbrev pub told_beaten : Beaten → beats.AfterBeat
told_beaten r = beats.beaten (beats.told_beating r.answer) r.record

-- an answer of a call on a state, with its octets as they are afterwards, and with the lent cells and output
abbrev pub told_made_state : Result Unit Refusal × List ℕ → layout.OnState (Outcome Unit)
told_made_state (r, s) = layout.on_state (told_making r) s

abbrev pub told_taken_state : Result Answer Refusal × (List ℕ × (List ℕ × List ℕ)) → card.TakenState
told_taken_state (r, (s, (cells, output))) = card.taken_state (taking.told_answer r) s cells output

abbrev pub told_beaten_state : Result ℕ Refusal × List ℕ → layout.OnState (Outcome ℕ)
told_beaten_state (r, s) = layout.on_state (beats.told_beating r) s

-- the same of a log: beside the answer there is the log by value, and what its entries say in the lent octets
abbrev pub told_log_made : LogMade → log.BesideLog
told_log_made r = log.beside_log (told_making r.answer) r.log

abbrev pub told_log_taken : LogTaken × (List ℕ × List ℕ) → log.AfterLog
told_log_taken (r, (lent, output)) = log.after_log (taking.told_answer r.answer) (state_in r.log lent) output

abbrev pub told_log_beaten : LogBeaten × List ℕ → log.AfterLogBeat
told_log_beaten (r, lent) = log.beaten_log (beats.told_beating r.answer) (state_in r.log lent)

-- what a promise on a log fixes: all of it but the lent octets that say nothing
abbrev pub fixed_taken : LogTaken × (List ℕ × List ℕ) → LogTaken × (LogState × List ℕ)
fixed_taken (r, (lent, output)) = (r, (state_in r.log lent, output))

abbrev pub fixed_beaten : LogBeaten × List ℕ → LogBeaten × LogState
fixed_beaten (r, lent) = (r, state_in r.log lent)

-- an answer with the table of counters
abbrev pub told_assessed : JudgedCounter → counters.Assessed
told_assessed r = counters.assessed (counters.told_judgement r.answer) r.counters

-- an answer with the table of outstanding commands
abbrev pub told_sent : AfterSending → gateway.Settled Unit
told_sent r = gateway.settled (gateway.told_sending r.answer) r.outstanding

abbrev pub told_came : AfterResponse → gateway.Settled gateway.Fate
told_came r = gateway.settled (gateway.told_closing r.answer) r.outstanding

-- ---- no two outcomes are told alike
pub record Tellings : Type 0 where
  -- Refusal::number
  pub refusal_number_lem : Tight refusal_number
  -- parse_command, parse_response, read_ussd
  pub parse_command : Tight told_command
  pub parse_response : Tight told_response
  -- build_command, build_ciphered_command, build_response, build_ciphered_response, command_checksum, response_checksum, write_ussd,
  -- write_ciphered_ussd, ussd_checksum, salvage
  pub build_and_checksum : Tight told_built
  -- read_message, read_page
  pub read_message_and_page : Tight told_arrival
  -- fresh_record_with
  pub fresh_record_with : Tight told_made
  -- take_message, take_page
  pub take_message_and_page : Tight told_taken
  -- beat
  pub beat : Tight told_beaten
  -- fresh_state
  pub fresh_state : Tight told_made_state
  -- state_take_message, state_take_page
  pub state_take_message_and_page : Tight told_taken_state
  -- state_beat
  pub state_beat : Tight told_beaten_state
  -- write_message, write_page
  pub write_message_and_page : Tight told_part
  -- write_report
  pub write_report_lem : Tight told_report
  -- response_announces
  pub response_announces_lem : Tight report.told_announcing
  -- judge_counter
  pub judge_counter_lem : Tight told_assessed
  -- command_sent
  pub command_sent_lem : Tight told_sent
  -- response_came
  pub response_came_lem : Tight told_came
  -- and of the calls between crates: judge, rule, packet_size, hand_out; and of what walk answers, though its promise is the answer itself
  pub judge : Tight told_judged
  pub rule : Tight told_ruling
  pub walk : Tight told_walked
  pub packet_size : Tight told_size
  pub hand_out_lem : Tight told_handed

-- Where the promise is that the outcome itself is what the rule says, nothing else can be told of it. So it is of the other calls between
-- crates: wide, formed, before, least, cipher_bit, ciphered_command, header_of, behind_lengths, octet, past, ciphered, within, check_field,
-- against_check, outside, put_runs, data_of, check_of, opaque_of, element, nothing, plus, walk, in_range, is_pageless, reference_fits, room,
-- no_front, extended, front_of, opened, free_slot, with_part, same_key_lem, slots_in, seat_of, at_front, replaced.
abbrev pub PlainPromises : Type 1
PlainPromises = (Outcome : Type 0) → Tight {Outcome = Outcome} {Paper = Outcome} (λ r. r)

-- ---- the promises of the public calls
-- two outcomes that satisfy a promise are equal
abbrev pub One : {Outcome : Type 0} → (Outcome → Type 0) → Type 0
One {Outcome} Promise = (r₁ r₂ : Outcome) → Promise r₁ → Promise r₂ → r₁ ≡ r₂

-- the same of what a promise fixes of an outcome
abbrev pub OneIn : {Outcome Fixed : Type 0} → (Outcome → Fixed) → (Outcome → Type 0) → Type 0
OneIn {Outcome} {Fixed} fixed Promise = (r₁ r₂ : Outcome) → Promise r₁ → Promise r₂ → fixed r₁ ≡ fixed r₂

-- Each call that a user can name, by its name, with its promise: "No public call lacks such a statement". The outcome is the answer; with a
-- lent buffer, the answer and the buffer afterwards; of a part of a slice, its octets. Where the part stands is not told, nor what the octets of a log
-- that say nothing are (docs/PROMISES.md).
pub record Promises : Type 0 where
  pub refusal_number_lem : (x : Refusal) → One (λ (r : ℕ). r ≡ refusal_number x)
  -- octets
  pub number_of_lem : (high low : ℕ) → One (λ (r : ℕ). r ≡ octets.number_of high low)
  pub pair_of_lem : (n : ℕ) → One (λ (r : Pair). r ≡ octets.pair_of n)
  pub put_octets : (src dst : List ℕ) (at : ℕ) → One (λ (r : Bool × List ℕ). (r.0 ≡ octets.fits_at dst at src) × (r.1 ≡ octets.after_put dst at src))
  pub same_octets_lem : (a b : List ℕ) → One (λ (r : Bool). r ≡ octets.same_octets a b)
  pub first_octets : (src : List ℕ) (n : ℕ) → One (λ (r : List ℕ). r ≡ list.take n src)
  -- what an answer is about
  pub packet_in_lem : (x : Result Answer Refusal) (out : List ℕ) → One (λ (r : List ℕ). r ≡ list.take (given.packet_length x) out)
  pub written_in : (x : Result ℕ Refusal) (buffer : List ℕ) → One (λ (r : List ℕ). r ≡ list.take (given.written_length x) buffer)
  pub part_in : (x : Result WrittenPart Refusal) (buffer : List ℕ) → One (λ (r : List ℕ). r ≡ list.take (given.part_length x) buffer)
  -- packets
  pub build_command : (clear : Clear) (cntr : Cntr) (pcntr : ℕ) (check secured out : List ℕ)
      → One (λ (r : Result ℕ Refusal × List ℕ). told_built r ≡ built Command (plain (command_fixed clear cntr pcntr) check secured) out)
  pub build_ciphered_command : (clear : Clear) (header : ℕ) (opaque out : List ℕ)
      → One (λ (r : Result ℕ Refusal × List ℕ). told_built r ≡ built Command (ciphered (clear_octets clear) header opaque) out)
  pub build_response : (tar : Tar) (cntr : Cntr) (pcntr status : ℕ) (check secured out : List ℕ)
      → One (λ (r : Result ℕ Refusal × List ℕ). told_built r ≡ built Response (plain (response_fixed tar cntr pcntr status) check secured) out)
  pub build_ciphered_response : (tar : Tar) (header : ℕ) (opaque out : List ℕ)
      → One (λ (r : Result ℕ Refusal × List ℕ). told_built r ≡ built Response (ciphered (tar_octets tar) header opaque) out)
  pub command_checksum : (p out : List ℕ) → One (λ (r : Result ℕ Refusal × List ℕ). told_built r ≡ checksummed Command (ciphered_command p) p out)
  pub response_checksum : (p : List ℕ) (c : Bool) (out : List ℕ) → One (λ (r : Result ℕ Refusal × List ℕ). told_built r ≡ checksummed Response c p out)
  pub packet_formed : (k : Kind) (p : List ℕ) → One (λ (r : Bool). r ≡ well_formed k p)
  pub parse_command : (p : List ℕ) → One (λ (r : Result parsed_command.Command Refusal). told_command r ≡ parsing Command (ciphered_command p) p)
  pub parse_response : (p : List ℕ) (c : Bool) → One (λ (r : Result parsed_response.Response Refusal). told_response r ≡ parsing Response c p)
  pub command_check : (p : List ℕ) → One (λ (r : List ℕ). r ≡ shown_check Command (ciphered_command p) p)
  pub command_data : (p : List ℕ) → One (λ (r : List ℕ). r ≡ shown_data Command (ciphered_command p) p)
  pub command_opaque : (p : List ℕ) → One (λ (r : List ℕ). r ≡ shown_opaque Command (ciphered_command p) p)
  pub response_check : (p : List ℕ) (c : Bool) → One (λ (r : List ℕ). r ≡ shown_check Response c p)
  pub response_data : (p : List ℕ) (c : Bool) → One (λ (r : List ℕ). r ≡ shown_data Response c p)
  pub response_opaque : (p : List ℕ) (c : Bool) → One (λ (r : List ℕ). r ≡ shown_opaque Response c p)
  -- USSD strings
  pub read_ussd_lem : (pfi dcs : ℕ) (s : List ℕ) → One (λ (r : Result parsed_command.Command Refusal). told_command r ≡ ussd.read_ussd pfi dcs s)
  pub ussd_check : (pfi dcs : ℕ) (s : List ℕ) → One (λ (r : List ℕ). r ≡ ussd.shown_ussd_check pfi dcs s)
  pub ussd_data : (pfi dcs : ℕ) (s : List ℕ) → One (λ (r : List ℕ). r ≡ ussd.shown_ussd_data pfi dcs s)
  pub ussd_opaque : (pfi dcs : ℕ) (s : List ℕ) → One (λ (r : List ℕ). r ≡ ussd.shown_ussd_opaque pfi dcs s)
  pub write_ussd : (pfi : ℕ) (clear : Clear) (cntr : Cntr) (pcntr : ℕ) (check secured out : List ℕ)
      → One (λ (r : Result ℕ Refusal × List ℕ). told_built r ≡ ussd.written_ussd pfi (plain (command_fixed clear cntr pcntr) check secured) out)
  pub write_ciphered_ussd : (pfi : ℕ) (clear : Clear) (header : ℕ) (opaque out : List ℕ)
      → One (λ (r : Result ℕ Refusal × List ℕ). told_built r ≡ ussd.written_ussd pfi (ciphered (clear_octets clear) header opaque) out)
  pub ussd_checksum : (um out : List ℕ) → One (λ (r : Result ℕ Refusal × List ℕ). told_built r ≡ ussd.ussd_checksummed um out)
  -- arrivals
  pub read_message_lem : (k : Kind) (sender : ℕ) (ud : List ℕ) → One (λ (r : Result Arrival Refusal). told_arrival r ≡ read_message k sender ud)
  pub read_page_lem : (k : Kind) (page : List ℕ) → One (λ (r : Result Arrival Refusal). told_arrival r ≡ read_page k page)
  pub own_octets : (o : List ℕ) (start : ℕ) → One (λ (r : List ℕ). r ≡ list.drop start o)
  -- series
  pub fresh_record_lem : (k : Kind) → One (λ (r : Record). r ≡ fresh_record default_slots k)
  pub fresh_record_with : (k : Kind) (n : ℕ) → One (λ (r : Made). told_made r ≡ making n k)
  pub record_formed_lem : (x : Record) → One (λ (r : Bool). r ≡ record_formed x.count x)
  pub take_message_lem : (x : Record) (sender : ℕ) (ud cells out : List ℕ)
      → One (λ (r : Taken × (List ℕ × List ℕ)). told_taken r ≡ taking.take_message x.count (taking.state x cells out) sender ud)
  pub take_page_lem : (x : Record) (page cells out : List ℕ)
      → One (λ (r : Taken × (List ℕ × List ℕ)). told_taken r ≡ taking.take_page x.count (taking.state x cells out) page)
  pub beat : (x : Record) (limit : ℕ) → One (λ (r : Beaten). told_beaten r ≡ beats.beat x.count x limit)
  -- series on a state
  pub fresh_state : (s : List ℕ) (k : Kind) (n : ℕ) → One (λ (r : Result Unit Refusal × List ℕ). told_made_state r ≡ layout.making_state s n k)
  pub state_formed_lem : (s : List ℕ) → One (λ (r : Bool). r ≡ (layout.known s && record_formed (layout.state_record s).count (layout.state_record s)))
  pub state_take_message : (s : List ℕ) (sender : ℕ) (ud cells out : List ℕ)
      → One (λ (r : Result Answer Refusal × (List ℕ × (List ℕ × List ℕ))). told_taken_state r ≡ card.take_in s cells out (message sender ud))
  pub state_take_page : (s o cells out : List ℕ) → One (λ (r : Result Answer Refusal × (List ℕ × (List ℕ × List ℕ))). told_taken_state r ≡ card.take_in s cells out (page o))
  pub state_beat : (s : List ℕ) (limit : ℕ) → One (λ (r : Result ℕ Refusal × List ℕ). told_beaten_state r ≡ sound.beat_in s limit)
  pub state_record_lem : (s : List ℕ) → One (λ (r : Record). r ≡ layout.state_record s)
  pub state_put : (x : Record) → One (λ (r : List ℕ). r ≡ layout.state_octets x)
  -- the same on a log
  pub fresh_log_lem : (k : Kind) (n : ℕ) → One (λ (r : LogMade). told_log_made r ≡ log.making_log n k)
  pub log_formed_lem : (l : Log) (entries : List ℕ) → One (λ (r : Bool). r ≡ log.state_formed (state_in l entries))
  pub log_take_message_lem : (l : Log) (sender : ℕ) (ud entries out : List ℕ)
      → OneIn fixed_taken (λ (r : LogTaken × (List ℕ × List ℕ)). told_log_taken r ≡ log.log_take_message (state_in l entries) out sender ud)
  pub log_take_page_lem : (l : Log) (page entries out : List ℕ)
      → OneIn fixed_taken (λ (r : LogTaken × (List ℕ × List ℕ)). told_log_taken r ≡ log.log_take_page (state_in l entries) out page)
  pub log_beat_lem : (l : Log) (limit : ℕ) (entries : List ℕ) → OneIn fixed_beaten (λ (r : LogBeaten × List ℕ). told_log_beaten r ≡ log.log_beat (state_in l entries) limit)
  pub log_record : (l : Log) (entries : List ℕ) → One (λ (r : Record). r ≡ record_of l.slots l.kind (entries_from entries 0 l.count))
  -- splitting
  pub write_message_lem : (k : Kind) (width reference number : ℕ) (p out : List ℕ)
      → One (λ (r : Result WrittenPart Refusal × List ℕ). told_part r ≡ split.write_message k width reference p number out)
  pub write_page_lem : (serial : SerialNumber) (identifier : MessageIdentifier) (dcs number : ℕ) (p out : List ℕ)
      → One (λ (r : Result WrittenPart Refusal × List ℕ). told_part r ≡ split.write_page serial.0 identifier.0 dcs p number out)
  -- reporting
  pub write_report_lem : (spi : Spi) (capacity edition : ℕ) (p out : List ℕ)
      → One (λ (r : Result Outgoing Refusal × List ℕ). told_report r ≡ report.write_report edition spi.1 capacity p out)
  pub response_announces_lem : (p : List ℕ) → One (λ (r : Result Bool Refusal). report.told_announcing r ≡ report.response_announces p)
  -- counters
  pub no_counters_lem : One (λ (r : Counters). r ≡ counters.no_counters)
  pub judge_counter_lem : (c : Counters) (p : List ℕ) → One (λ (r : JudgedCounter). told_assessed r ≡ counters.judge_counter c p)
  -- outstanding commands
  pub no_commands_lem : One (λ (r : Outstanding). r ≡ gateway.no_commands)
  pub command_sent_lem : (t : Outstanding) (sender : ℕ) (tar : Tar) (cntr : Cntr)
      → One (λ (r : AfterSending). told_sent r ≡ gateway.command_sent t (gateway.sent_command sender tar cntr))
  pub response_came_lem : (t : Outstanding) (sender : ℕ) (p : List ℕ) → One (λ (r : AfterResponse). told_came r ≡ gateway.response_came t sender p)
  -- captures
  pub salvage : (file output : List ℕ) → One (λ (r : Result ℕ Refusal × List ℕ). told_built r ≡ capture.salvaging file output)
  pub next_skipped : (file : List ℕ) (from : ℕ) → One (λ (r : SkippedRun). r ≡ capture.next_run file from)
  pub read_captured : (o : List ℕ) → One (λ (r : option.Option Captured). r ≡ capture.record_in o)
