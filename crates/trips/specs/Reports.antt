-- Demand 2 over reports (02, [1]: "Demand 2 covers this too", and [12]): when a call is refused, what is in a report is read as what it is, and
-- no case loses the response; the editions differ in one octet, and a server accepts either.
use Rattle.std.specs.Prelude.{ℕ, ◌+◌, ◌/◌, ◌%◌, ◌≤◌, ◌<◌, ◌≡◌, true, false, List, ◌∷◌, ◌++◌, length, drop}
use Rattle.octets.specs.Octets.{Octets}
use Rattle.types.specs.declared.Kind.TheVariants.{Response}
use Rattle.types.specs.declared.Tar.{Tar}
use Rattle.types.specs.declared.PlainResponse.{PlainResponse}
use Rattle.types.specs.declared.ResponseBody.TheVariants as response
use Rattle.types.specs.Refusals.{refused, gives}
use Rattle.packet.specs.Packets.{most_octets, well_formed, parsing}
use Rattle.packet.specs.Told.{response_fields}
use Rattle.arrival.specs.Arrivals.{single}
use Rattle.arrival.specs.Message.{most_user_data, read_message}
use Rattle.arrival.specs.Keys.{reference_fits}
use Rattle.cells.specs.Cells.{cells_size}
use Rattle.series.specs.Taking.{packet, after}
use Rattle.series.specs.Calls.{message}
use Rattle.split.specs.Splitting as split
use Rattle.report.specs.Reporting.{nothing_goes, in_report, announced, submitted, present_edition, Reported, reported, write_report, response_announces}
use Rattle.report.specs.Laws.{Asked, Unasked}
use Rattle.sequences.specs.Runs.{Call, Event, fresh, outcome, run, Proper, Each}
use Rattle.sequences.specs.SplitTaken.{key_under}
use Rattle.sequences.specs.Delivery.{Delivered}

-- ---- "Refusals: 16 for a capacity outside 16 to 140, 17 for the reserved value; order 1, 16, 9, 12, 17"; "20 for an unknown edition, after 16"
-- A call is refused exactly on these conditions, whatever SPI asks for, and writes nothing.
module _ (edition spi capacity : ℕ) (p buffer : List ℕ) where
  abbrev pub IsRefused : ℕ → Type 0
  IsRefused number = write_report edition spi capacity p buffer ≡ reported (refused number) buffer

  pub record ReportRefusals : Type 0 where
    pub one : (length buffer ≡ 140 → ⊥) → IsRefused 1
    pub sixteen_below : length buffer ≡ 140 → capacity < 16 → IsRefused 16
    pub sixteen_above : length buffer ≡ 140 → 140 < capacity → IsRefused 16
    pub twenty : length buffer ≡ 140 → 16 ≤ capacity → capacity ≤ 140 → 1 < edition → IsRefused 20
    pub nine : length buffer ≡ 140 → 16 ≤ capacity → capacity ≤ 140 → edition ≤ 1 → well_formed Response p ≡ false → IsRefused 9
    pub twelve : length buffer ≡ 140 → 16 ≤ capacity → capacity ≤ 140 → edition ≤ 1 → well_formed Response p ≡ true → 2142 < length p → IsRefused 12
    pub seventeen : length buffer ≡ 140 → 16 ≤ capacity → capacity ≤ 140 → edition ≤ 1 → well_formed Response p ≡ true → length p ≤ 2142 → spi % 4 ≡ 3
        → IsRefused 17

-- ---- what goes out
-- The octets o, read as user data for a record of responses, are a single message whose packet is p: taken from any store that calls from a fresh
-- record lead to, it hands p out at once, and record, cells and the rest of the output are as they were.
pub record ReadAlone (n : ℕ) (o p : List ℕ) : Type 0 where
  pub alone : (sender : ℕ) → read_message Response sender o ≡ gives (single 3)
  pub whole : drop 3 o ≡ p
  pub handed_out : (sender : ℕ) (cells : List ℕ) (earlier : List Event) → length cells ≡ cells_size n → Each Proper earlier
      → (c : Call) → c.input ≡ message sender o → length c.output ≡ most_octets
      → outcome n (run n (fresh n Response cells) earlier) c
      ≡ after (packet (length p)) (run n (fresh n Response cells) earlier).rec (run n (fresh n Response cells) earlier).cells (p ++ drop (length p) c.output)

-- "the complete response follows as submitted parts by 01's splitting": with every 8-bit reference, and with every 16-bit one up to 2,126 octets,
-- writing gives each part, and brought in any order the parts hand the response out.
pub record Follows (n : ℕ) (p : List ℕ) : Type 0 where
  pub narrow : length p ≤ split.most_split 8
  pub written : (width reference : ℕ) → reference_fits width reference ≡ true → length p ≤ split.most_split width
      → (number : ℕ) → 1 ≤ number → number ≤ split.parts width (length p) → (buffer : List ℕ) → length buffer ≡ most_user_data
      → split.write_message Response width reference p number buffer
      ≡ split.writes_part (gives (record { total = split.parts width (length p); octets = split.user_data Response width reference p number })) buffer
  pub handed_out : (sender width reference : ℕ) → reference_fits width reference ≡ true → length p ≤ split.most_split width
      → Delivered n Response (key_under sender width reference) p (split.parts width (length p)) (split.part_octets width p)
      (λ number. message sender (split.user_data Response width reference p number))

-- "a response with the same TAR, CNTR and PCNTR, status 0B, no check field and no data", by what parsing answers
abbrev pub with_status : ℕ → PlainResponse → PlainResponse
with_status status b = record { cntr = b.cntr; pcntr = b.pcntr; status = status; check_length = 0; data_length = 0 }

-- What becomes of a response p that parses to t and b, where SPI and the capacity are these. None is asked for. Or it is whole in the report. Or
-- the report says that it follows, and it follows whole. Or it goes whole in submitted parts. No report exceeds the capacity, and behind the
-- report the lent buffer is as it was.
pub data ReachesServer (n status spi capacity : ℕ) (p : List ℕ) (t : Tar) (b : PlainResponse) (buffer : List ℕ) : Reported → Type 0 where
  none_asked : Unasked spi b.status → ReachesServer n status spi capacity p t b buffer (reported (gives nothing_goes) buffer)
  carried : Asked spi b.status → spi / 32 % 2 ≡ 0 → (o : List ℕ) → length o ≤ capacity → ReadAlone n o p
      → ReachesServer n status spi capacity p t b buffer (reported (gives (in_report (length o))) (o ++ drop (length o) buffer))
  announces : Asked spi b.status → spi / 32 % 2 ≡ 0 → capacity < 3 + length p → (o q : List ℕ) → length o ≤ capacity → ReadAlone n o q
      → parsing Response false q ≡ gives (response_fields t (response.Plain (with_status status b))) → Follows n p
      → ReachesServer n status spi capacity p t b buffer (reported (gives (announced (length o))) (o ++ drop (length o) buffer))
  parts_alone : Asked spi b.status → spi / 32 % 2 ≡ 1 → Follows n p
      → ReachesServer n status spi capacity p t b buffer (reported (gives submitted) buffer)

-- So it is of every response that parsing does not refuse, in a buffer of 140 octets, for every capacity from 16 to 140 and every SPI that does
-- not have the reserved value: no such call is refused.
abbrev pub NoneLostIn : ℕ → ℕ → ℕ → Type 0
NoneLostIn n edition status =
    (spi capacity : ℕ) (p : List ℕ) (t : Tar) (b : PlainResponse) (buffer : List ℕ) → Octets p
    → parsing Response false p ≡ gives (response_fields t (response.Plain b)) → length buffer ≡ 140 → 16 ≤ capacity → capacity ≤ 140
    → (spi % 4 ≡ 3 → ⊥) → ReachesServer n status spi capacity p t b buffer (write_report edition spi capacity p buffer)

-- of the present edition, in which 0B announces
abbrev pub NoneLost : ℕ → Type 0
NoneLost n = NoneLostIn n present_edition 0x0B

-- ---- the editions
-- 'a response too large for the report is announced by "more time", 08 in TS 102 225, not 0B': "one statement covers both"
pub data Edition : ℕ → ℕ → Type 0 where
  old : Edition 0 0x08
  present : Edition 1 0x0B

abbrev pub NoneLostEither : ℕ → Type 0
NoneLostEither n = (edition status : ℕ) → Edition edition status → NoneLostIn n edition status

-- "it changes that one octet": two outcomes are the same, or both announce and differ at place 15 of the buffer, 08 and 0B
pub data Alike : Reported → Reported → Type 0 where
  equal : (r : Reported) → Alike r r
  but_one : (front rest : List ℕ) → length front ≡ 15
      → Alike (reported (gives (announced 16)) (front ++ (0x08 ∷ rest))) (reported (gives (announced 16)) (front ++ (0x0B ∷ rest)))

abbrev pub EditionsAlike : Type 0
EditionsAlike = (spi capacity : ℕ) (p buffer : List ℕ) → Alike (write_report 0 spi capacity p buffer) (write_report 1 spi capacity p buffer)

-- "A server accepts either": a response announces another exactly if it parses to the status 0B or 08
pub record Announcements (p : List ℕ) (t : Tar) (b : PlainResponse) : Type 0 where
  pub by_present : b.status ≡ 0x0B → response_announces p ≡ gives true
  pub by_old : b.status ≡ 0x08 → response_announces p ≡ gives true
  pub by_none : (b.status ≡ 0x0B → ⊥) → (b.status ≡ 0x08 → ⊥) → response_announces p ≡ gives false

abbrev pub EitherAccepted : Type 0
EitherAccepted = (p : List ℕ) (t : Tar) (b : PlainResponse) → parsing Response false p ≡ gives (response_fields t (response.Plain b)) → Announcements p t b
