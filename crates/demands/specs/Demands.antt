-- THE THREE DEMANDS on the library, for every number of slots that a record can have (02 [5]).
use Rattle.std.specs.Prelude.{ℕ, Bool, List}
use Rattle.types.specs.declared.Kind.{Kind}
use Rattle.packet.specs.Packets.{Fields}
use Rattle.types.specs.declared.Key.{Key}
use Rattle.demands.specs.RefusedInPlace.{StateRefused, LogRefused}
use Rattle.demands.specs.Refusing.{TakingRefused, ParsingRefused, BuildingRefused, ChecksumRefused, WritingRefused, PageRefused, ReportRefused, JudgingRefused, SendingRefused, ClosingRefused, AnnouncingRefused, UnfitRefused, MakingRefused, SalvagingRefused, BeatRefused, UssdReadingRefused, UssdWritingRefused, UssdChecksumRefused}
use Rattle.sequences.specs.Runs.{Slots}
use Rattle.trips.specs.Orders.{OrderFree}
use Rattle.trips.specs.Twice.{ReadAsWithout, TakenAsWithout, LastReplaces}
use Rattle.trips.specs.RoundTrips.{BuildThenRead, CommandTells, ReadThenBuild, AnswersBuild, ReadThenBuildCalls, FixedLengths, ChecksumCovers, ParsesOrRefuses, ParsedIsFormed, BuildsOrRefuses, SplitMessages, SplitPages}
use Rattle.trips.specs.Checked.{CheckBits, StillCarried}
use Rattle.sequences.specs.Timely.{FewerThanLeastOfAll, FewerThanLeast, InTime}
use Rattle.sequences.specs.Wake.{WakeWindow}
use Rattle.sequences.specs.Coming.{PacketComes}
use Rattle.sequences.specs.Always.{AlwaysFormed, NoKeyTwice}
use Rattle.sequences.specs.Reachable.{Acceptance, RefusedIfNeverMade}
use Rattle.sequences.specs.Crowding.{NeverDisplaced}
use Rattle.sequences.specs.Silence.{Beating, SilentGivenUp}
use Rattle.shuffles.specs.Others.{OthersDoNotShow}
use Rattle.sequences.specs.SplitTaken.{MessagesArrive, PagesArrive}
use Rattle.sequences.specs.Delivery.{MessagesDelivered, PagesDelivered, MessagesWritten, PagesWritten}
use Rattle.shuffles.specs.Shuffled.{KeptThenHeld, EitherOrder, AnyOrder}
use Rattle.trips.specs.Ussd.{UssdMessages}
use Rattle.trips.specs.Reports.{ReportRefusals, NoneLost, NoneLostEither, EditionsAlike, EitherAccepted}

-- 1. "Every entry point takes every input, does nothing undefined and ends": no public call asks anything of its caller, and each is proved.
-- "Bad input, bad buffers and a record that the library could not have made are refused by number. A refusal alters no lent buffer and no
-- record", with one exception. What is said of taking holds for every number, also of a record that the library could not have made. Which records
-- these are is no claim: a record is well formed exactly if calls and beats can make it (`acceptance`), and refused 1 exactly if they cannot.
pub record Demand1 : Type 0 where
  pub taking : (n : ℕ) → TakingRefused n
  pub beat : (n : ℕ) → BeatRefused n
  pub parsing : ParsingRefused
  pub building : BuildingRefused
  pub checksum_octets_lem : ChecksumRefused
  pub writing_user_data : WritingRefused
  pub writing_a_page : PageRefused
  pub writing_a_report : ReportRefused
  pub reading_ussd : UssdReadingRefused
  pub writing_ussd_lem : UssdWritingRefused
  pub ussd_checksum_octets_lem : UssdChecksumRefused
  pub announcing : AnnouncingRefused
  pub judging_a_counter : JudgingRefused
  pub sending_a_command : SendingRefused
  pub response_that_came : ClosingRefused
  pub salvaging_a_capture : SalvagingRefused
  pub unfit : (n : ℕ) → UnfitRefused n
  pub making_a_record : MakingRefused
  pub on_a_state : StateRefused
  pub on_a_log : LogRefused
  pub acceptance : (n : ℕ) → Slots n → Acceptance n
  pub refused_if_never_made : RefusedIfNeverMade

-- 2. The rules are 01's, and every public call equals its rule; "building then reading gives the same fields, and reading then building the
-- same octets"; what is split is put together again, by every reader and by taking; the order of a header's elements does not matter, except among the
-- concatenation elements, of which the last counts; a report is read as what it is, and none loses the response.
pub record Demand2 : Type 0 where
  pub build_then_read : BuildThenRead
  pub command_tells : CommandTells
  pub read_then_build : ReadThenBuild
  pub answers_build : AnswersBuild
  pub read_then_build_calls : ReadThenBuildCalls
  pub fixed_lengths : FixedLengths
  pub checksum_covers : ChecksumCovers
  pub parses_or_refuses : (k : Kind) (c : Bool) (p : List ℕ) → ParsesOrRefuses k c p
  pub parsed_is_formed : ParsedIsFormed
  pub check_bits : CheckBits
  pub still_carried : StillCarried
  pub builds_or_refuses : (k : Kind) (x : Fields) → BuildsOrRefuses k x
  pub split_messages : SplitMessages
  pub split_pages : SplitPages
  pub messages_arrive : (n : ℕ) → Slots n → MessagesArrive n
  pub pages_arrive : (n : ℕ) → Slots n → PagesArrive n
  pub messages_delivered : (n : ℕ) → Slots n → MessagesDelivered n
  pub pages_delivered : (n : ℕ) → Slots n → PagesDelivered n
  pub messages_written : MessagesWritten
  pub pages_written : PagesWritten
  pub order_free : OrderFree
  pub read_as_without : ReadAsWithout
  pub taken_as_without : (n : ℕ) → TakenAsWithout n
  pub last_replaces : LastReplaces
  pub none_lost : (n : ℕ) → Slots n → NoneLost n
  pub report_refusals : (edition spi capacity : ℕ) (p buffer : List ℕ) → ReportRefusals edition spi capacity p buffer
  pub none_lost_either : (n : ℕ) → Slots n → NoneLostEither n
  pub editions_alike : EditionsAlike
  pub either_accepted : EitherAccepted
  pub ussd_messages : UssdMessages

-- 3. The wake window with n slots, for either kind, every key, every packet and every cut of it: "at most n − 1 other keys" (02 [5]), "fewer beats
-- than the least limit used" (02 [6]), the least over all of the sequence; the same with the least over the beats between the two calls, which asks
-- less, and with the sharper premise that the i-th beat has a limit above i, which asks least; and "at no moment does one key occupy two slots". No series is displaced while at most n keys are unfinished. A beat gives up what is dead: after as many beats as the
-- limit and no touch, the key is held no more. Within the window others do not show (02 [11]).
pub record Demand3 (n : ℕ) : Type 0 where
  pub wake_window : (k : Kind) (K : Key) (P : List ℕ) (parts : List (List ℕ)) → WakeWindow n k K P parts FewerThanLeastOfAll
  pub packet_comes : (k : Kind) (K : Key) (P : List ℕ) (parts : List (List ℕ)) → PacketComes n k K P parts FewerThanLeastOfAll
  pub wake_window_between : (k : Kind) (K : Key) (P : List ℕ) (parts : List (List ℕ)) → WakeWindow n k K P parts (λ events. FewerThanLeast)
  pub packet_comes_between : (k : Kind) (K : Key) (P : List ℕ) (parts : List (List ℕ)) → PacketComes n k K P parts (λ events. FewerThanLeast)
  pub wake_window_sharp : (k : Kind) (K : Key) (P : List ℕ) (parts : List (List ℕ)) → WakeWindow n k K P parts (λ events. InTime)
  pub packet_comes_sharp : (k : Kind) (K : Key) (P : List ℕ) (parts : List (List ℕ)) → PacketComes n k K P parts (λ events. InTime)
  pub always_formed : (k : Kind) → AlwaysFormed n k
  pub no_key_twice : (k : Kind) → NoKeyTwice n k
  pub never_displaced : (k : Kind) → NeverDisplaced n k
  pub beating : Beating n
  pub silent_given_up : SilentGivenUp n
  pub others_do_not_show : OthersDoNotShow n FewerThanLeast
  pub others_do_not_show_sharp : OthersDoNotShow n InTime

-- "Order and repetition" (02 [10]), of a record with n slots: a part that comes twice, two parts in either order, and any orders of the same parts.
pub record OrderAndRepetition (n : ℕ) : Type 0 where
  pub kept_then_held : KeptThenHeld n
  pub either_order : EitherOrder n
  pub any_order : AnyOrder n
