-- Refusals, by number (01, "Numbers of refusal").
use Rattle.std.specs.declared.result.Result.{Result}
use Rattle.std.specs.declared.result.Result.TheVariants.{Ok, Err}
use Rattle.std.specs.Prelude.{ℕ, Bool, true, false, List, ◌++◌, length, drop}
use Rattle.types.specs.declared.Refusal.{Refusal}
use Rattle.types.specs.declared.Refusal.TheVariants.{BufferOrRecord, InputLength, HeaderOverrun, HeaderElement, WrongIdentifier, TooManyParts, OtherTotal, OtherOctets, MalformedPacket, CipherMismatch, PacketHeader, PacketTooLong, ReferenceWidth, PartNumber, CheckMismatch, ReportCapacity, ReservedSpi, BeatLimit, CounterTable, UnknownEdition, TableFull, AlreadySent, Unmatched, CaptureTooLong, SlotNumber}

-- the number that the table of 01 gives to each, and 02 to those from 15 on
abbrev pub refusal_number : Refusal → ℕ
refusal_number BufferOrRecord = 1
refusal_number InputLength = 2
refusal_number HeaderOverrun = 3
refusal_number HeaderElement = 4
refusal_number WrongIdentifier = 5
refusal_number TooManyParts = 6
refusal_number OtherTotal = 7
refusal_number OtherOctets = 8
refusal_number MalformedPacket = 9
refusal_number CipherMismatch = 10
refusal_number PacketHeader = 11
refusal_number PacketTooLong = 12
refusal_number ReferenceWidth = 13
refusal_number PartNumber = 14
refusal_number CheckMismatch = 15
refusal_number ReportCapacity = 16
refusal_number ReservedSpi = 17
refusal_number BeatLimit = 18
refusal_number CounterTable = 19
refusal_number UnknownEdition = 20
refusal_number TableFull = 21
refusal_number AlreadySent = 22
refusal_number Unmatched = 23
refusal_number CaptureTooLong = 24
refusal_number SlotNumber = 25

-- what a call comes to: a refusal by its number, or what it gives
pub data Outcome (A : Type 0) : Type 0 where
  refused : ℕ → Outcome A
  gives : A → Outcome A

-- "Each is given exactly on its condition, tested in the order stated."
module _ {A : Type 0} where
  infixr 10 refuse◌when◌otherwise◌
  abbrev pub refuse◌when◌otherwise◌ : ℕ → Bool → Outcome A → Outcome A
  refuse n when true otherwise o = refused n
  refuse n when false otherwise o = o

-- Writing to a lent buffer: the answer, and the buffer afterwards. A refusal alters nothing; otherwise the octets stand at the buffer's
-- start, the answer is their length, and "the rest of the buffer is unchanged".
abbrev pub Lent : Type 0
Lent = Outcome ℕ × List ℕ

abbrev pub lent : Outcome ℕ → List ℕ → Lent
lent answer buffer = (answer, buffer)

abbrev pub writes : Outcome (List ℕ) → List ℕ → Lent
writes (refused n) buffer = (refused n, buffer)
writes (gives octets) buffer = (gives (length octets), octets ++ drop (length octets) buffer)

-- what the enum of an answer says
abbrev pub told_written : Result ℕ Refusal → Outcome ℕ
told_written (Ok n) = gives n
told_written (Err r) = refused (refusal_number r)
