-- Each promise is tight: the outcome can be read back from what is told of it.
use Rattle.types.specs.declared.Command as parsed_command
use Rattle.types.specs.declared.Response as parsed_response
use Rattle.std.specs.declared.result.Result.{Result}
use Rattle.std.specs.declared.option.Option as option
use Rattle.std.specs.declared.result.Result.TheVariants.{Ok, Err}
use Rattle.std.specs.declared.option.Option.TheVariants.{Some, None}
use Prim.Native.Nat.{ℕ, ◌+◌}
use mathlib.Core.Path.{◌≡◌, refl, sym, ap, ◌∙◌}
use mathlib.Core.Bool.{Bool, true, false, cond, ◌&&◌}
use mathlib.Core.List.{List, [], ◌∷◌}
use mathlib.Core.Option.{Option, none, some}
use lib.ListN.{get_or}
use lib.Dec.{eqb}
use lib.ListN as list
use Rattle.octets.specs.Octets as octets
use Rattle.octets.specs.Given as goal
use Rattle.types.specs.declared.Kind.TheVariants.{Command, Response}
use Rattle.types.specs.declared.Refusal.{Refusal}
use Rattle.types.specs.declared.Refusal.TheVariants.{BufferOrRecord, InputLength, HeaderOverrun, HeaderElement, WrongIdentifier, TooManyParts, OtherTotal, OtherOctets, MalformedPacket, CipherMismatch, PacketHeader, PacketTooLong, ReferenceWidth, PartNumber, CheckMismatch, ReportCapacity, ReservedSpi, BeatLimit, CounterTable, UnknownEdition, TableFull, AlreadySent, Unmatched, CaptureTooLong, SlotNumber}
use Rattle.types.specs.declared.Tar.{Tar}
use Rattle.types.specs.declared.Cntr.{Cntr}
use Rattle.types.specs.declared.Clear.{Clear}
use Rattle.types.specs.declared.CommandBody.{CommandBody}
use Rattle.types.specs.declared.CommandBody.TheVariants as command
use Rattle.types.specs.declared.ResponseBody.{ResponseBody}
use Rattle.types.specs.declared.ResponseBody.TheVariants as response
use Rattle.types.specs.Refusals.{Outcome, refused, gives, Lent, refusal_number}
use Rattle.packet.specs.Packets.{Parsed, plain_parsed, ciphered_parsed, well_formed, ciphered_command, shown_data, shown_check, shown_opaque}
use Rattle.packet.specs.Told.{told_command, told_response}
use Rattle.packet.specs.Judging.{told_judged}
use Rattle.header.specs.declared.Seen.{Seen}
use Rattle.header.specs.Reading.{told_walked}
use Rattle.types.specs.declared.Arrival.{Arrival}
use Rattle.types.specs.declared.Arrival.TheVariants as arrival
use Rattle.arrival.specs.Arrivals.{Brought, single, part, told_arrival}
use Rattle.joined.specs.Fronts.{told_size}
use Rattle.slots.specs.Slots.{default_slots, fresh_record, Beside, told_making}
use Rattle.formed.specs.Formed.{record_formed}
use Rattle.types.specs.declared.Answer.{Answer}
use Rattle.types.specs.declared.Answer.TheVariants as answer
use Rattle.types.specs.declared.Made.{Made}
use Rattle.types.specs.declared.Taken.{Taken}
use Rattle.types.specs.declared.Beaten.{Beaten}
use Rattle.beats.specs.Beats.{AfterBeat, told_beating}
use Rattle.series.specs.Taking as taking
use Rattle.layout.specs.Layout as layout
use Rattle.card.specs.Card as card
use Rattle.types.specs.declared.JudgedCounter.{JudgedCounter}
use Rattle.counters.specs.Counters.{no_counters, Assessed, told_judgement}
use Rattle.types.specs.declared.Closing.{Closing}
use Rattle.types.specs.declared.Closing.TheVariants as closing
use Rattle.types.specs.declared.AfterSending.{AfterSending}
use Rattle.types.specs.declared.AfterResponse.{AfterResponse}
use Rattle.gateway.specs.Gateway as gateway
use Rattle.types.specs.declared.WrittenPart.{WrittenPart}
use Rattle.split.specs.Splitting as split
use Rattle.types.specs.declared.Outgoing.{Outgoing}
use Rattle.types.specs.declared.Outgoing.TheVariants as outgoing
use Rattle.report.specs.Reporting as report
use Rattle.demands.specs.Tightness.{Tight, told_built, told_made, told_part, told_report, told_handed, told_taken, told_assessed, told_sent, told_came, Tellings, PlainPromises, One, Promises, told_beaten, told_made_state, told_taken_state, told_beaten_state, OneIn, told_log_made, told_log_taken, told_log_beaten, fixed_taken, fixed_beaten}
use Rattle.types.specs.declared.Log.{Log}
use Rattle.types.specs.declared.LogMade.{LogMade}
use Rattle.types.specs.declared.LogTaken.{LogTaken}
use Rattle.types.specs.declared.LogBeaten.{LogBeaten}
use Rattle.plain.specs.Entries.{entries_from, LogState, state_in}
use Rattle.plain.specs.Engine as log
use Rattle.plain.specs.ReadOff.{record_of}
use Rattle.logs.specs.Laws.{entries_long}
use Rattle.capture.specs.Captures.{next_run, record_in}
use Rattle.ussd.specs.Ussd as ussd
use Rattle.build.specs.Within.{told_ruling}

-- what can be read back is the same in outcomes that are told alike; if all can be read back, the outcomes are
alike : {O P F : Type 0} (told : O → P) (fixed : O → F) (back : P → F) → ((r : O) → back (told r) ≡ fixed r) → (rule : P) → OneIn fixed (λ (r : O). told r ≡ rule)
alike told fixed back recovers rule r₁ r₂ e₁ e₂ = sym (recovers r₁) ∙ ap back (e₁ ∙ sym e₂) ∙ recovers r₂

tight : {O P : Type 0} (told : O → P) (back : P → O) → ((r : O) → back (told r) ≡ r) → Tight told
tight told back recovers rule = alike told (λ r. r) back recovers rule

-- ---- refusals
-- the first of a list that has that number
refusal_from : ℕ → List Refusal → Refusal
refusal_from n [] = BufferOrRecord
refusal_from n (r ∷ l) = cond (eqb (refusal_number r) n) r (refusal_from n l)

refusal_of : ℕ → Refusal
refusal_of n =
    refusal_from n
    (
    BufferOrRecord ∷
    InputLength ∷
    HeaderOverrun ∷
    HeaderElement ∷
    WrongIdentifier ∷
    TooManyParts ∷
    OtherTotal ∷
    OtherOctets ∷
    MalformedPacket ∷
    CipherMismatch ∷
    PacketHeader ∷
    PacketTooLong ∷
    ReferenceWidth ∷
    PartNumber ∷
    CheckMismatch ∷
    ReportCapacity ∷
    ReservedSpi ∷
    BeatLimit ∷
    CounterTable ∷
    UnknownEdition ∷
    TableFull ∷
    AlreadySent ∷
    Unmatched ∷
    CaptureTooLong ∷
    SlotNumber ∷
    [])

refusal_back : (r : Refusal) → refusal_of (refusal_number r) ≡ r
unfolding refusal_from refusal_of
refusal_back BufferOrRecord = refl
refusal_back InputLength = refl
refusal_back HeaderOverrun = refl
refusal_back HeaderElement = refl
refusal_back WrongIdentifier = refl
refusal_back TooManyParts = refl
refusal_back OtherTotal = refl
refusal_back OtherOctets = refl
refusal_back MalformedPacket = refl
refusal_back CipherMismatch = refl
refusal_back PacketHeader = refl
refusal_back PacketTooLong = refl
refusal_back ReferenceWidth = refl
refusal_back PartNumber = refl
refusal_back CheckMismatch = refl
refusal_back ReportCapacity = refl
refusal_back ReservedSpi = refl
refusal_back BeatLimit = refl
refusal_back CounterTable = refl
refusal_back UnknownEdition = refl
refusal_back TableFull = refl
refusal_back AlreadySent = refl
refusal_back Unmatched = refl
refusal_back CaptureTooLong = refl
refusal_back SlotNumber = refl

-- ---- parsed packets
tar_at : List ℕ → ℕ → Tar
tar_at f i = (get_or f i 0, get_or f (i + 1) 0, get_or f (i + 2) 0)

cntr_at : List ℕ → ℕ → Cntr
cntr_at f i = (get_or f i 0, get_or f (i + 1) 0, get_or f (i + 2) 0, get_or f (i + 3) 0, get_or f (i + 4) 0)

clear_of : List ℕ → Clear
clear_of f = record { spi = (get_or f 0 0, get_or f 1 0); kic = get_or f 2 0; kid = get_or f 3 0; tar = tar_at f 4 }

command_of : Outcome Parsed → Result parsed_command.Command Refusal
command_of (refused n) = Err (refusal_of n)
command_of (gives (plain_parsed f c d)) =
    Ok (record { clear = clear_of f; body = command.Plain (record { cntr = cntr_at f 7; pcntr = get_or f 12 0; check_length = c; data_length = d }) })
command_of (gives (ciphered_parsed f h o)) =
    Ok (record { clear = clear_of f; body = command.Ciphered (record { header_length = h; opaque_length = o }) })

command_body : (x : Clear) (b : CommandBody) → command_of (told_command (Ok (record { clear = x; body = b }))) ≡ Ok (record { clear = x; body = b })
unfolding command_of clear_of tar_at cntr_at
command_body x (command.Plain b) = refl
command_body x (command.Ciphered b) = refl

command_back : (r : Result parsed_command.Command Refusal) → command_of (told_command r) ≡ r
unfolding command_of
command_back (Ok c) = command_body c.clear c.body
command_back (Err r) = ap Err (refusal_back r)

response_of : Outcome Parsed → Result parsed_response.Response Refusal
response_of (refused n) = Err (refusal_of n)
response_of (gives (plain_parsed f c d)) =
    Ok (record { tar = tar_at f 0; body = response.Plain (record { cntr = cntr_at f 3; pcntr = get_or f 8 0; status = get_or f 9 0; check_length = c; data_length = d }) })
response_of (gives (ciphered_parsed f h o)) = Ok (record { tar = tar_at f 0; body = response.Ciphered (record { header_length = h; opaque_length = o }) })

response_body : (t : Tar) (b : ResponseBody) → response_of (told_response (Ok (record { tar = t; body = b }))) ≡ Ok (record { tar = t; body = b })
unfolding response_of tar_at cntr_at
response_body t (response.Plain b) = refl
response_body t (response.Ciphered b) = refl

response_back : (r : Result parsed_response.Response Refusal) → response_of (told_response r) ≡ r
unfolding response_of
response_back (Ok c) = response_body c.tar c.body
response_back (Err r) = ap Err (refusal_back r)

-- ---- what writing leaves
written_of : Lent → Result ℕ Refusal × List ℕ
written_of (refused n, b) = (Err (refusal_of n), b)
written_of (gives m, b) = (Ok m, b)

written_back : (r : Result ℕ Refusal × List ℕ) → written_of (told_built r) ≡ r
unfolding written_of
written_back (Ok m, b) = refl
written_back (Err r, b) = ap (λ (x : Refusal). (Err x, b)) (refusal_back r)

part_of : split.Written → Result WrittenPart Refusal × List ℕ
part_of x = go x.answer x.buffer
  where
    go : Outcome split.Told → List ℕ → Result WrittenPart Refusal × List ℕ
    go (refused n) b = (Err (refusal_of n), b)
    go (gives t) b = (Ok (record { total = t.total; length = t.size }), b)

part_back_lem : (r : Result WrittenPart Refusal × List ℕ) → part_of (told_part r) ≡ r
unfolding part_of
part_back_lem (Ok x, b) = refl
part_back_lem (Err r, b) = ap (λ (x : Refusal). (Err x, b)) (refusal_back r)

report_of : report.Reported → Result Outgoing Refusal × List ℕ
report_of (refused n, b) = (Err (refusal_of n), b)
report_of (gives report.nothing_goes, b) = ((Ok outgoing.Nothing), b)
report_of (gives (report.in_report m), b) = (Ok (outgoing.Report m), b)
report_of (gives (report.announced m), b) = (Ok (outgoing.Announcement m), b)
report_of (gives report.submitted, b) = ((Ok outgoing.Submit), b)

report_back : (r : Result Outgoing Refusal × List ℕ) → report_of (told_report r) ≡ r
unfolding report_of
report_back ((Ok outgoing.Nothing), b) = refl
report_back (Ok (outgoing.Report m), b) = refl
report_back (Ok (outgoing.Announcement m), b) = refl
report_back ((Ok outgoing.Submit), b) = refl
report_back (Err r, b) = ap (λ (x : Refusal). (Err x, b)) (refusal_back r)

announcing_of : Outcome Bool → Result Bool Refusal
announcing_of (refused n) = Err (refusal_of n)
announcing_of (gives true) = (Ok true)
announcing_of (gives false) = (Ok false)

announcing_back : (r : Result Bool Refusal) → announcing_of (report.told_announcing r) ≡ r
unfolding announcing_of
announcing_back (Ok true) = refl
announcing_back (Ok false) = refl
announcing_back (Err r) = ap Err (refusal_back r)

-- ---- what reading and taking leave
arrival_of : Outcome Brought → Result Arrival Refusal
arrival_of (refused n) = Err (refusal_of n)
arrival_of (gives (single s)) = Ok (arrival.Single s)
arrival_of (gives (part k t m s)) = Ok (arrival.Part k t m s)

arrival_back : (r : Result Arrival Refusal) → arrival_of (told_arrival r) ≡ r
unfolding arrival_of
arrival_back (Ok (arrival.Single s)) = refl
arrival_back (Ok (arrival.Part k t m s)) = refl
arrival_back (Err r) = ap Err (refusal_back r)

answer_of : taking.Answer → Result Answer Refusal
answer_of (taking.kept s d) = Ok (answer.Kept s d)
answer_of (taking.held_already s) = Ok (answer.HeldAlready s)
answer_of (taking.packet m) = Ok (answer.Packet m)
answer_of (taking.refused_by n) = Err (refusal_of n)

answer_back : (r : Result Answer Refusal) → answer_of (taking.told_answer r) ≡ r
unfolding answer_of
answer_back (Ok (answer.Kept s d)) = refl
answer_back (Ok (answer.HeldAlready s)) = refl
answer_back (Ok (answer.Packet m)) = refl
answer_back (Err r) = ap Err (refusal_back r)

making_of : Outcome Unit → Result Unit Refusal
making_of (refused n) = Err (refusal_of n)
making_of (gives x) = (Ok tt)

making_back : (r : Result Unit Refusal) → making_of (told_making r) ≡ r
unfolding making_of
making_back (Ok tt) = refl
making_back (Err r) = ap Err (refusal_back r)

made_of : Beside → Made
made_of (answer, r) = record { answer = making_of answer; «record» = r }

made_back : (r : Made) → made_of (told_made r) ≡ r
unfolding made_of
made_back r = ap (λ (x : Result Unit Refusal). record { answer = x; «record» = r.«record» }) (making_back r.answer)

taken_of : taking.After → Taken × (List ℕ × List ℕ)
taken_of a = (record { answer = answer_of a.answer; «record» = a.state.rec }, (a.state.cells, a.state.output))

taken_back_lem : (r : Taken × (List ℕ × List ℕ)) → taken_of (told_taken r) ≡ r
unfolding taken_of
taken_back_lem (r, (cells, output)) = ap (λ (x : Result Answer Refusal). (record { answer = x; «record» = r.«record» }, (cells, output))) (answer_back r.answer)

-- ---- what a beat leaves
beating_of : Outcome ℕ → Result ℕ Refusal
beating_of (refused n) = Err (refusal_of n)
beating_of (gives m) = Ok m

beating_back : (r : Result ℕ Refusal) → beating_of (told_beating r) ≡ r
unfolding beating_of
beating_back (Ok m) = refl
beating_back (Err r) = ap Err (refusal_back r)

beaten_of : AfterBeat → Beaten
beaten_of a = record { answer = beating_of a.answer; «record» = a.rec }

beaten_back : (r : Beaten) → beaten_of (told_beaten r) ≡ r
unfolding beaten_of
beaten_back r = ap (λ (x : Result ℕ Refusal). record { answer = x; «record» = r.record }) (beating_back r.answer)

-- ---- what the calls on a state leave
made_state_of : layout.OnState (Outcome Unit) → Result Unit Refusal × List ℕ
made_state_of a = (making_of a.answer, a.octets)

made_state_back : (r : Result Unit Refusal × List ℕ) → made_state_of (told_made_state r) ≡ r
unfolding made_state_of
made_state_back (r, s) = ap (λ (x : Result Unit Refusal). (x, s)) (making_back r)

taken_state_of : card.TakenState → Result Answer Refusal × (List ℕ × (List ℕ × List ℕ))
taken_state_of a = (answer_of a.answer, (a.octets, (a.cells, a.output)))

taken_state_back : (r : Result Answer Refusal × (List ℕ × (List ℕ × List ℕ))) → taken_state_of (told_taken_state r) ≡ r
unfolding taken_state_of
taken_state_back (r, (s, (cells, output))) = ap (λ (x : Result Answer Refusal). (x, (s, (cells, output)))) (answer_back r)

beaten_state_of : layout.OnState (Outcome ℕ) → Result ℕ Refusal × List ℕ
beaten_state_of a = (beating_of a.answer, a.octets)

beaten_state_back : (r : Result ℕ Refusal × List ℕ) → beaten_state_of (told_beaten_state r) ≡ r
unfolding beaten_state_of
beaten_state_back (r, s) = ap (λ (x : Result ℕ Refusal). (x, s)) (beating_back r)

-- ---- what calls on a log leave
log_made_of : log.BesideLog → LogMade
log_made_of (answer, l) = record { answer = making_of answer; log = l }

log_made_back : (r : LogMade) → log_made_of (told_log_made r) ≡ r
unfolding log_made_of
log_made_back r = ap (λ (x : Result Unit Refusal). record { answer = x; log = r.log }) (making_back r.answer)

-- the log by value is read back too: it has as many entries as it counts
log_of : LogState → Log
log_of s = record { kind = s.kind; slots = s.slots; count = list.length s.log }

log_back : (l : Log) (lent : List ℕ) → log_of (state_in l lent) ≡ l
unfolding log_of
log_back l lent = ap (λ (n : ℕ). record { kind = l.kind; slots = l.slots; count = n }) (entries_long lent l.count 0)

log_taken_of : log.AfterLog → LogTaken × (LogState × List ℕ)
log_taken_of a = (record { answer = answer_of a.answer; log = log_of a.state }, (a.state, a.output))

log_taken_back : (r : LogTaken × (List ℕ × List ℕ)) → log_taken_of (told_log_taken r) ≡ fixed_taken r
unfolding log_taken_of
log_taken_back (r, (lent, output)) = λ i. (record { answer = answer_back r.answer i; log = log_back r.log lent i }, (state_in r.log lent, output))

log_beaten_of : log.AfterLogBeat → LogBeaten × LogState
log_beaten_of a = (record { answer = beating_of a.answer; log = log_of a.state }, a.state)

log_beaten_back : (r : LogBeaten × List ℕ) → log_beaten_of (told_log_beaten r) ≡ fixed_beaten r
unfolding log_beaten_of
log_beaten_back (r, lent) = λ i. (record { answer = beating_back r.answer i; log = log_back r.log lent i }, state_in r.log lent)

-- ---- what judging a counter leaves
judgement_of : Outcome ℕ → Result ℕ Refusal
judgement_of (refused n) = Err (refusal_of n)
judgement_of (gives s) = Ok s

judgement_back : (r : Result ℕ Refusal) → judgement_of (told_judgement r) ≡ r
unfolding judgement_of
judgement_back (Ok s) = refl
judgement_back (Err r) = ap Err (refusal_back r)

assessed_of : Assessed → JudgedCounter
assessed_of a = record { answer = judgement_of a.answer; counters = a.counters }

assessed_back : (r : JudgedCounter) → assessed_of (told_assessed r) ≡ r
unfolding assessed_of
assessed_back r = ap (λ (x : Result ℕ Refusal). record { answer = x; counters = r.counters }) (judgement_back r.answer)

-- ---- what a command that was sent, and a response that came, leave
sending_of : Outcome Unit → Result Unit Refusal
sending_of (refused n) = Err (refusal_of n)
sending_of (gives x) = (Ok tt)

sending_back : (r : Result Unit Refusal) → sending_of (gateway.told_sending r) ≡ r
unfolding sending_of
sending_back (Ok tt) = refl
sending_back (Err r) = ap Err (refusal_back r)

sent_of : gateway.Settled Unit → AfterSending
sent_of (answer, t) = record { answer = sending_of answer; outstanding = t }

sent_back : (r : AfterSending) → sent_of (told_sent r) ≡ r
unfolding sent_of
sent_back r = ap (λ (x : Result Unit Refusal). record { answer = x; outstanding = r.outstanding }) (sending_back r.answer)

closing_of : Outcome gateway.Fate → Result Closing Refusal
closing_of (refused n) = Err (refusal_of n)
closing_of (gives gateway.fate_closed) = (Ok closing.Closed)
closing_of (gives gateway.fate_waiting) = (Ok closing.Waiting)

closing_back : (r : Result Closing Refusal) → closing_of (gateway.told_closing r) ≡ r
unfolding closing_of
closing_back (Ok closing.Closed) = refl
closing_back (Ok closing.Waiting) = refl
closing_back (Err r) = ap Err (refusal_back r)

came_of : gateway.Settled gateway.Fate → AfterResponse
came_of (answer, t) = record { answer = closing_of answer; outstanding = t }

came_back : (r : AfterResponse) → came_of (told_came r) ≡ r
unfolding came_of
came_back r = ap (λ (x : Result Closing Refusal). record { answer = x; outstanding = r.outstanding }) (closing_back r.answer)

-- ---- calls between crates
ruling_of : Outcome ℕ → Result Unit Refusal
ruling_of (refused n) = Err (refusal_of n)
ruling_of (gives h) = (Ok tt)

ruling_back : (r : Result Unit Refusal) → ruling_of (told_ruling r) ≡ r
unfolding ruling_of
ruling_back (Ok tt) = refl
ruling_back (Err r) = ap Err (refusal_back r)

judged_of : Outcome ℕ → Result ℕ Refusal
judged_of (refused n) = Err (refusal_of n)
judged_of (gives h) = Ok h

judged_back : (r : Result ℕ Refusal) → judged_of (told_judged r) ≡ r
unfolding judged_of
judged_back (Ok h) = refl
judged_back (Err r) = ap Err (refusal_back r)

walked_of : Outcome Seen → option.Option Seen
walked_of (refused n) = None
walked_of (gives s) = Some s

walked_back : (r : option.Option Seen) → walked_of (told_walked r) ≡ r
unfolding walked_of
walked_back (Some s) = refl
walked_back None = refl

size_of : Option ℕ → option.Option ℕ
size_of none = None
size_of (some n) = Some n

size_back : (r : option.Option ℕ) → size_of (told_size r) ≡ r
unfolding size_of
size_back (Some n) = refl
size_back None = refl

handed_of : Option ℕ × List ℕ → option.Option ℕ × List ℕ
handed_of (o, b) = (size_of o, b)

handed_back : (r : option.Option ℕ × List ℕ) → handed_of (told_handed r) ≡ r
unfolding handed_of
handed_back (r, b) = ap (λ (x : option.Option ℕ). (x, b)) (size_back r)

-- ---- the forms of outcomes
pub tellings : Tellings
tellings = record {
  refusal_number_lem = tight refusal_number refusal_of refusal_back;
  parse_command = tight told_command command_of command_back;
  parse_response = tight told_response response_of response_back;
  build_and_checksum = tight told_built written_of written_back;
  read_message_and_page = tight told_arrival arrival_of arrival_back;
  fresh_record_with = tight told_made made_of made_back;
  take_message_and_page = tight told_taken taken_of taken_back_lem;
  write_message_and_page = tight told_part part_of part_back_lem;
  write_report_lem = tight told_report report_of report_back;
  response_announces_lem = tight report.told_announcing announcing_of announcing_back;
  beat = tight told_beaten beaten_of beaten_back;
  fresh_state = tight told_made_state made_state_of made_state_back;
  state_take_message_and_page = tight told_taken_state taken_state_of taken_state_back;
  state_beat = tight told_beaten_state beaten_state_of beaten_state_back;
  judge_counter_lem = tight told_assessed assessed_of assessed_back;
  command_sent_lem = tight told_sent sent_of sent_back;
  response_came_lem = tight told_came came_of came_back;
  judge = tight told_judged judged_of judged_back;
  rule = tight told_ruling ruling_of ruling_back;
  walk = tight told_walked walked_of walked_back;
  packet_size = tight told_size size_of size_back;
  hand_out_lem = tight told_handed handed_of handed_back;
}

pub plain_promises : PlainPromises
plain_promises Outcome rule r₁ r₂ e₁ e₂ = e₁ ∙ sym e₂

-- ---- the calls, each at its rule
-- the outcome itself is the rule's
plain : {O : Type 0} (rule : O) → One (λ (r : O). r ≡ rule)
plain {O} rule = plain_promises O rule

pub promises : Promises
promises = record {
  refusal_number_lem = λ x. plain (refusal_number x);
  number_of_lem = λ high low. plain (octets.number_of high low);
  pair_of_lem = λ n. plain (octets.pair_of n);
  put_octets = λ src dst at r₁ r₂ e₁ e₂. put_one (e₁.0 ∙ sym e₂.0) (e₁.1 ∙ sym e₂.1);
  same_octets_lem = λ a b. plain (octets.same_octets a b);
  first_octets = λ src n. plain (list.take n src);
  packet_in_lem = λ x out. plain (list.take (goal.packet_length x) out);
  written_in = λ x buffer. plain (list.take (goal.written_length x) buffer);
  part_in = λ x buffer. plain (list.take (goal.part_length x) buffer);
  build_command = λ clear cntr pcntr check secured out. tellings.build_and_checksum _;
  build_ciphered_command = λ clear header opaque out. tellings.build_and_checksum _;
  build_response = λ tar cntr pcntr status check secured out. tellings.build_and_checksum _;
  build_ciphered_response = λ tar header opaque out. tellings.build_and_checksum _;
  command_checksum = λ p out. tellings.build_and_checksum _;
  response_checksum = λ p c out. tellings.build_and_checksum _;
  packet_formed = λ k p. plain (well_formed k p);
  parse_command = λ p. tellings.parse_command _;
  parse_response = λ p c. tellings.parse_response _;
  command_check = λ p. plain (shown_check Command (ciphered_command p) p);
  command_data = λ p. plain (shown_data Command (ciphered_command p) p);
  command_opaque = λ p. plain (shown_opaque Command (ciphered_command p) p);
  response_check = λ p c. plain (shown_check Response c p);
  response_data = λ p c. plain (shown_data Response c p);
  response_opaque = λ p c. plain (shown_opaque Response c p);
  read_ussd_lem = λ pfi dcs s. tellings.parse_command _;
  ussd_check = λ pfi dcs s. plain (ussd.shown_ussd_check pfi dcs s);
  ussd_data = λ pfi dcs s. plain (ussd.shown_ussd_data pfi dcs s);
  ussd_opaque = λ pfi dcs s. plain (ussd.shown_ussd_opaque pfi dcs s);
  write_ussd = λ pfi clear cntr pcntr check secured out. tellings.build_and_checksum _;
  write_ciphered_ussd = λ pfi clear header opaque out. tellings.build_and_checksum _;
  ussd_checksum = λ um out. tellings.build_and_checksum _;
  read_message_lem = λ k sender ud. tellings.read_message_and_page _;
  read_page_lem = λ k page. tellings.read_message_and_page _;
  own_octets = λ o start. plain (list.drop start o);
  fresh_record_lem = λ k. plain (fresh_record default_slots k);
  fresh_record_with = λ k n. tellings.fresh_record_with _;
  record_formed_lem = λ x. plain (record_formed x.count x);
  take_message_lem = λ x sender ud cells out. tellings.take_message_and_page _;
  take_page_lem = λ x page cells out. tellings.take_message_and_page _;
  fresh_log_lem = λ k n. tight told_log_made log_made_of log_made_back _;
  log_formed_lem = λ l entries. plain (log.state_formed (state_in l entries));
  log_take_message_lem = λ l sender ud entries out. alike told_log_taken fixed_taken log_taken_of log_taken_back _;
  log_take_page_lem = λ l page entries out. alike told_log_taken fixed_taken log_taken_of log_taken_back _;
  log_beat_lem = λ l limit entries. alike told_log_beaten fixed_beaten log_beaten_of log_beaten_back _;
  log_record = λ l entries. plain (record_of l.slots l.kind (entries_from entries 0 l.count));
  write_message_lem = λ k width reference number p out. tellings.write_message_and_page _;
  write_page_lem = λ serial identifier dcs number p out. tellings.write_message_and_page _;
  write_report_lem = λ spi capacity edition p out. tellings.write_report_lem _;
  response_announces_lem = λ p. tellings.response_announces_lem _;
  no_counters_lem = plain no_counters;
  beat = λ x limit. tellings.beat _;
  fresh_state = λ s k n. tellings.fresh_state _;
  state_formed_lem = λ s. plain (layout.known s && record_formed (layout.state_record s).count (layout.state_record s));
  state_take_message = λ s sender ud cells out. tellings.state_take_message_and_page _;
  state_take_page = λ s o cells out. tellings.state_take_message_and_page _;
  state_beat = λ s limit. tellings.state_beat _;
  state_record_lem = λ s. plain (layout.state_record s);
  state_put = λ x. plain (layout.state_octets x);
  judge_counter_lem = λ c p. tellings.judge_counter_lem _;
  no_commands_lem = plain gateway.no_commands;
  command_sent_lem = λ t sender tar cntr. tellings.command_sent_lem _;
  response_came_lem = λ t sender p. tellings.response_came_lem _;
  salvage = λ file output. tellings.build_and_checksum _;
  next_skipped = λ file from. plain (next_run file from);
  read_captured = λ o. plain (record_in o);
}
  where
    put_one : {r₁ r₂ : Bool × List ℕ} → r₁.0 ≡ r₂.0 → r₁.1 ≡ r₂.1 → r₁ ≡ r₂
    put_one a b = λ i. (a i, b i)
