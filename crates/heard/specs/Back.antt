-- What a caller in C knows of an answer is the answer: it can be told back from the number that was returned and the numbers that were lent. 0 is done, since
-- no refusal has the number 0.
use Rattle.types.specs.declared.Command as parsed_command
use Rattle.types.specs.declared.Response as parsed_response
use Rattle.std.specs.declared.result.Result.{Result}
use Rattle.std.specs.declared.result.Result.TheVariants.{Ok, Err}
use Rattle.std.specs.Prelude.{ℕ, ◌≡◌, refl, Bool, true, false, cond, List, get_or, take, eqb}
use Rattle.std.proofs.Common.{ap}
use Rattle.types.specs.declared.Kind.{Kind}
use Rattle.types.specs.declared.Kind.TheVariants.{Command, Response}
use Rattle.types.specs.declared.Refusal.{Refusal}
use Rattle.types.specs.declared.Refusal.TheVariants.{BufferOrRecord, InputLength, HeaderOverrun, HeaderElement, WrongIdentifier, TooManyParts, OtherTotal, OtherOctets, MalformedPacket, CipherMismatch, PacketHeader, PacketTooLong, ReferenceWidth, PartNumber, CheckMismatch, ReportCapacity, ReservedSpi, BeatLimit, CounterTable, UnknownEdition, TableFull, AlreadySent, Unmatched, CaptureTooLong, SlotNumber}
use Rattle.types.specs.declared.WrittenPart as piece
use Rattle.types.specs.declared.Arrival as arrival
use Rattle.types.specs.declared.Answer as answer
use Rattle.types.specs.declared.Outgoing as outgoing
use Rattle.types.specs.declared.CommandBody as command_bodies
use Rattle.types.specs.declared.ResponseBody as response_bodies
use Rattle.types.specs.declared.Tar.{Tar}
use Rattle.types.specs.declared.Clear.{Clear}
use Rattle.types.specs.Refusals.{Outcome, refused, gives, refusal_number, told_written}
use Rattle.packet.specs.Packets.{before, Parsed, plain_parsed, ciphered_parsed}
use Rattle.packet.specs.Told.{command_fields, response_fields, told_command, told_response}
use Rattle.arrival.specs.Arrivals.{Brought, single, part, told_arrival}
use Rattle.slots.specs.Slots.{told_making}
use Rattle.beats.specs.Beats.{told_beating}
use Rattle.split.specs.Splitting as split
use Rattle.series.specs.Taking as taking
use Rattle.report.specs.Reporting.{Going, nothing_goes, in_report, announced, submitted, told_outgoing, told_announcing}
use Rattle.heard.specs.Heard.{heard_nothing, heard_number, heard_part, heard_brought, heard_taken, heard_parsed, heard_going, heard_announcing}

-- the outcome of a number that was returned, and of what the lent numbers say
abbrev pub told_back : {A : Type 0} → ℕ → A → Outcome A
told_back r x = cond (eqb r 0) (gives x) (refused r)

-- ---- what lent numbers say
abbrev pub part_back : List ℕ → split.Told
part_back l = record { total = get_or l 0 0; size = get_or l 1 0 }

abbrev pub brought_back : List ℕ → Brought
brought_back l =
    cond (eqb (get_or l 0 0) 1) (single (get_or l 1 0))
    (part
    (record { sender = get_or l 4 0; width = get_or l 5 0; reference = get_or l 6 0; serial = record { 0 = get_or l 7 0 }; identifier = record { 0 = get_or l 8 0 } })
    (get_or l 2 0)
    (get_or l 3 0)
    (get_or l 1 0))

abbrev pub taken_back : ℕ → List ℕ → taking.Answer
taken_back r l =
    cond (eqb r 0)
    (cond (eqb (get_or l 0 0) 1) (taking.kept (get_or l 1 0) (eqb (get_or l 2 0) 1))
    (cond (eqb (get_or l 0 0) 2) (taking.held_already (get_or l 1 0)) (taking.packet (get_or l 3 0))))
    (taking.refused_by r)

abbrev pub parsed_back : Kind → List ℕ × List ℕ → Parsed
parsed_back k x =
    cond (eqb (get_or x.1 0 0) 0) (plain_parsed x.0 (get_or x.1 1 0) (get_or x.1 2 0))
    (ciphered_parsed (take (before k) x.0) (get_or x.1 1 0) (get_or x.1 2 0))

abbrev pub going_back : List ℕ → Going ℕ
going_back l =
    cond (eqb (get_or l 0 0) 1) nothing_goes
    (cond (eqb (get_or l 0 0) 2) (in_report (get_or l 1 0))
    (cond (eqb (get_or l 0 0) 3) (announced (get_or l 1 0)) submitted))

-- ---- and that is the answer
-- no refusal has the number 0
pub refusal_some : (why : Refusal) → eqb (refusal_number why) 0 ≡ false
refusal_some BufferOrRecord = refl
refusal_some InputLength = refl
refusal_some HeaderOverrun = refl
refusal_some HeaderElement = refl
refusal_some WrongIdentifier = refl
refusal_some TooManyParts = refl
refusal_some OtherTotal = refl
refusal_some OtherOctets = refl
refusal_some MalformedPacket = refl
refusal_some CipherMismatch = refl
refusal_some PacketHeader = refl
refusal_some PacketTooLong = refl
refusal_some ReferenceWidth = refl
refusal_some PartNumber = refl
refusal_some CheckMismatch = refl
refusal_some ReportCapacity = refl
refusal_some ReservedSpi = refl
refusal_some BeatLimit = refl
refusal_some CounterTable = refl
refusal_some UnknownEdition = refl
refusal_some TableFull = refl
refusal_some AlreadySent = refl
refusal_some Unmatched = refl
refusal_some CaptureTooLong = refl
refusal_some SlotNumber = refl

abbrev pub TellsNumber : Outcome ℕ → Type 0
TellsNumber o = told_back (heard_number o).0 (heard_number o).1 ≡ o

pub written_back : (w : Result ℕ Refusal) → TellsNumber (told_written w)
written_back (Ok n) = refl
written_back (Err why) = rw (refusal_some why)

pub beating_back : (b : Result ℕ Refusal) → TellsNumber (told_beating b)
beating_back (Ok n) = refl
beating_back (Err why) = rw (refusal_some why)

pub making_back : (m : Result Unit Refusal) → told_back (heard_nothing (told_making m)) tt ≡ told_making m
making_back (Ok tt) = refl
making_back (Err why) = rw (refusal_some why)

pub part_back_lem : (w : Result piece.WrittenPart Refusal) → told_back (heard_part (split.told w)).0 (part_back (heard_part (split.told w)).1) ≡ split.told w
part_back_lem (Ok x) = refl
part_back_lem (Err why) = rw (refusal_some why)

pub arrival_back : (a : Result arrival.Arrival Refusal) → told_back (heard_brought (told_arrival a)).0 (brought_back (heard_brought (told_arrival a)).1) ≡ told_arrival a
arrival_back (Ok (arrival.TheVariants.Single s)) = refl
arrival_back (Ok (arrival.TheVariants.Part k t n s)) = refl
arrival_back (Err why) = rw (refusal_some why)

mark_back : (d : Bool) → eqb (cond d 1 0) 1 ≡ d
mark_back true = refl
mark_back false = refl

pub answer_back : (a : Result answer.Answer Refusal) → taken_back (heard_taken (taking.told_answer a)).0 (heard_taken (taking.told_answer a)).1 ≡ taking.told_answer a
answer_back (Ok (answer.TheVariants.Kept s d)) = ap (taking.kept s) (mark_back d)
answer_back (Ok (answer.TheVariants.HeldAlready s)) = refl
answer_back (Ok (answer.TheVariants.Packet n)) = refl
answer_back (Err why) = rw (refusal_some why)

abbrev pub TellsParsed : Kind → Outcome Parsed → Type 0
TellsParsed k o = told_back (heard_parsed k o).0 (parsed_back k (heard_parsed k o).1) ≡ o

pub command_back : (a : Result parsed_command.Command Refusal) → TellsParsed Command (told_command a)
command_back (Ok c) = go c.clear c.body
  where
    go : (x : Clear) (b : command_bodies.CommandBody) → TellsParsed Command (gives (command_fields x b))
    go x (command_bodies.TheVariants.Plain p) = refl
    go x (command_bodies.TheVariants.Ciphered o) = refl
command_back (Err why) = rw (refusal_some why)

pub response_back : (a : Result parsed_response.Response Refusal) → TellsParsed Response (told_response a)
response_back (Ok c) = go c.tar c.body
  where
    go : (t : Tar) (b : response_bodies.ResponseBody) → TellsParsed Response (gives (response_fields t b))
    go t (response_bodies.TheVariants.Plain p) = refl
    go t (response_bodies.TheVariants.Ciphered o) = refl
response_back (Err why) = rw (refusal_some why)

pub going_back_lem : (o : Result outgoing.Outgoing Refusal) → told_back (heard_going (told_outgoing o)).0 (going_back (heard_going (told_outgoing o)).1) ≡ told_outgoing o
going_back_lem (Ok outgoing.TheVariants.Nothing) = refl
going_back_lem (Ok (outgoing.TheVariants.Report n)) = refl
going_back_lem (Ok (outgoing.TheVariants.Announcement n)) = refl
going_back_lem (Ok outgoing.TheVariants.Submit) = refl
going_back_lem (Err why) = rw (refusal_some why)

pub announcing_back : (a : Result Bool Refusal)
    → told_back (heard_announcing (told_announcing a)).0 (eqb (heard_announcing (told_announcing a)).1 1) ≡ told_announcing a
announcing_back (Ok true) = refl
announcing_back (Ok false) = refl
announcing_back (Err why) = rw (refusal_some why)
