-- Report first, data afterwards (02, [1] and [12]; 000, 4.1; 003): "given a command's SPI, a complete plain response and the report's capacity in octets ..,
-- say what goes out". The response is read as a plain one: a ciphered one that is handed in is taken for plain.
use Rattle.std.specs.declared.result.Result.{Result}
use Rattle.std.specs.declared.result.Result.TheVariants.{Ok, Err}
use Rattle.types.specs.declared.Refusal.{Refusal}
use Rattle.std.specs.Prelude.{ℕ, ◌/◌, ◌%◌, Bool, false, not, cond, ◌&&◌, ◌||◌, List, [], ◌∷◌, ◌++◌, length, get_or, take, drop, eqb, ltb, leb}
use Rattle.types.specs.declared.Kind.TheVariants.{Response}
use Rattle.types.specs.declared.Outgoing as outgoing
use Rattle.types.specs.Refusals.{Outcome, refused, gives, refuse◌when◌otherwise◌, refusal_number}
use Rattle.packet.specs.Packets.{plain, readable, packet_of}

-- ---- what goes out
-- Nothing; a report that carries the response; a report that announces it, and then the response as submitted parts; or these alone. X is what
-- is said of the report: its octets, or how many they are.
pub data Going (X : Type 0) : Type 0 where
  nothing_goes : Going X
  in_report : X → Going X
  announced : X → Going X
  submitted : Going X

-- ---- what SPI asks for, in its second octet
-- "low two bits: 00 nothing, 01 always, 10 only when the status is not 00"
abbrev pub asked : ℕ → ℕ → Bool
asked spi status = eqb (spi % 4) 1 || (eqb (spi % 4) 2 && not (eqb status 0x00))

-- "11 reserved"
abbrev pub reserved : ℕ → Bool
reserved spi = eqb (spi % 4) 3

-- "The 32s place clear means delivery report, set means a submitted message."
abbrev pub by_submit : ℕ → Bool
by_submit spi = eqb (spi / 32 % 2) 1

-- ---- the report
-- "the report's capacity in octets (16 to 140, the three header octets included)"; "written at the start of a lent 140 octets"
abbrev pub least_report : ℕ
least_report = 16

abbrev pub most_report : ℕ
most_report = 140

abbrev pub no_capacity : ℕ → Bool
no_capacity capacity = ltb capacity least_report || ltb most_report capacity

-- "its header 02 71 00", and a response behind it
abbrev pub report_of : List ℕ → List ℕ
report_of p = 0x02 ∷ 0x71 ∷ 0x00 ∷ p

-- the status of a plain response; TAR, CNTR and PCNTR stand before it, behind the two lengths
abbrev pub status_of : List ℕ → ℕ
status_of p = get_or p 12 0

abbrev pub before_status : List ℕ → List ℕ
before_status p = take 9 (drop 3 p)

-- "a response with the same TAR, CNTR and PCNTR, status 0B, no check field and no data"
unfoldable pub announcing : ℕ → List ℕ → List ℕ
announcing status p = packet_of Response (plain (before_status p ++ (status ∷ [])) [] [])

-- "A response that fits with its header 02 71 00 goes in the report .. Otherwise the report carries a response with the same TAR, CNTR and
-- PCNTR, .., and the complete response follows as submitted parts by 01's splitting."
unfoldable pub going_out : ℕ → ℕ → ℕ → List ℕ → Going (List ℕ)
going_out status spi capacity p =
    cond (not (asked spi (status_of p))) nothing_goes
    (cond (by_submit spi) submitted
    (cond (leb (length (report_of p)) capacity) (in_report (report_of p))
    (announced (report_of (announcing status p)))))

-- ---- the edition
-- "announced by "more time", 08 in TS 102 225, not 0B"
abbrev pub more_time : ℕ
more_time = 0x08

abbrev pub response_follows : ℕ
response_follows = 0x0B

-- "a choice of edition, old or present; it changes that one octet"
abbrev pub old_edition : ℕ
old_edition = 0

abbrev pub present_edition : ℕ
present_edition = 1

abbrev pub known_edition : ℕ → Bool
known_edition edition = eqb edition old_edition || eqb edition present_edition

abbrev pub announced_by : ℕ → ℕ
announced_by edition = cond (eqb edition old_edition) more_time response_follows

-- ---- "Refusals: 16 for a capacity outside 16 to 140, 17 for the reserved value; order 1, 16, 9, 12, 17."; "20 for an unknown edition, after 16."
unfoldable pub reporting : ℕ → ℕ → ℕ → List ℕ → ℕ → Outcome (Going (List ℕ))
reporting edition spi capacity p size =
    refuse 1 when not (eqb size most_report) otherwise
    refuse 16 when no_capacity capacity otherwise
    refuse 20 when not (known_edition edition) otherwise
    readable Response false p
    (refuse 17 when reserved spi otherwise
    gives (going_out (announced_by edition) spi capacity p))

-- ---- the call
-- "written at the start of a lent 140 octets whose rest stays; nothing else is written": the answer, and the lent buffer afterwards
abbrev pub Reported : Type 0
Reported = Outcome (Going ℕ) × List ℕ

abbrev pub reported : Outcome (Going ℕ) → List ℕ → Reported
reported answer buffer = (answer, buffer)

abbrev pub writes_report : Outcome (Going (List ℕ)) → List ℕ → Reported
writes_report (refused n) buffer = (refused n, buffer)
writes_report (gives nothing_goes) buffer = (gives nothing_goes, buffer)
writes_report (gives (in_report o)) buffer = (gives (in_report (length o)), o ++ drop (length o) buffer)
writes_report (gives (announced o)) buffer = (gives (announced (length o)), o ++ drop (length o) buffer)
writes_report (gives submitted) buffer = (gives submitted, buffer)

unfoldable pub write_report : ℕ → ℕ → ℕ → List ℕ → List ℕ → Reported
write_report edition spi capacity p buffer = writes_report (reporting edition spi capacity p (length buffer)) buffer

-- what the enum of the answer says
abbrev pub told_outgoing : Result outgoing.Outgoing Refusal → Outcome (Going ℕ)
told_outgoing (Ok outgoing.TheVariants.Nothing) = gives nothing_goes
told_outgoing (Ok (outgoing.TheVariants.Report n)) = gives (in_report n)
told_outgoing (Ok (outgoing.TheVariants.Announcement n)) = gives (announced n)
told_outgoing (Ok outgoing.TheVariants.Submit) = gives submitted
told_outgoing (Err r) = refused (refusal_number r)

-- ---- the receiver
-- "A server accepts either": whether a plain response says that another follows, by its status; 9 and 12 as in parsing
abbrev pub announces_another : ℕ → Bool
announces_another status = eqb status response_follows || eqb status more_time

unfoldable pub response_announces : List ℕ → Outcome Bool
response_announces p = readable Response false p (gives (announces_another (status_of p)))

abbrev pub told_announcing : Result Bool Refusal → Outcome Bool
told_announcing (Ok announces) = gives announces
told_announcing (Err r) = refused (refusal_number r)
