-- What a caller in C hears of an outcome: the number that the call returns, and those that it puts into what the caller lent. They are 0 and what is
-- given, or the number of the refusal and zeros. No refusal has the number 0.
use Rattle.std.specs.declared.option.Option as option
use Rattle.std.specs.declared.option.Option.TheVariants.{Some, None}
use Rattle.std.specs.Prelude.{ℕ, ◌+◌, ◌-◌, Bool, cond, List, [], ◌∷◌, ◌++◌, length, replicate}
use Rattle.types.specs.declared.Kind.{Kind}
use Rattle.types.specs.Refusals.{Outcome, refused, gives, Lent}
use Rattle.packet.specs.Packets.{before, least, chl, Fields, plain, ciphered, fields_of, readable, Parsed, plain_parsed, ciphered_parsed}
use Rattle.arrival.specs.Arrivals.{Brought, single, part}
use Rattle.split.specs.Splitting as split
use Rattle.series.specs.Taking as taking
use Rattle.layout.specs.Layout.{OnState}
use Rattle.card.specs.Card.{TakenState}
use Rattle.report.specs.Reporting.{Going, nothing_goes, in_report, announced, submitted, Reported}
use Rattle.types.specs.declared.SkippedRun.{SkippedRun}
use Rattle.types.specs.declared.Captured.{Captured}
use Rattle.types.specs.declared.Captured.TheVariants.{UserData, Page}

abbrev pub heard_as : {A B : Type 0} → (A → B) → B → Outcome A → ℕ × B
heard_as numbers zeros (refused m) = (m, zeros)
heard_as numbers zeros (gives x) = (0, numbers x)

-- nothing beside the answer
abbrev pub heard_nothing : Outcome Unit → ℕ
heard_nothing (refused m) = m
heard_nothing (gives x) = 0

-- whether something is well formed: 0, or the refusal of what is not
abbrev pub heard_test : ℕ → Bool → ℕ
heard_test m ok = cond ok 0 m

-- a number: of octets written, of series dropped
abbrev pub heard_number : Outcome ℕ → ℕ × ℕ
heard_number = heard_as (λ n. n) 0

-- and the buffer
abbrev pub heard_written : Lent → (ℕ × ℕ) × List ℕ
heard_written x = (heard_number x.0, x.1)

-- how many parts, and how many octets
abbrev pub heard_part : Outcome split.Told → ℕ × List ℕ
heard_part = heard_as (λ x. x.total ∷ x.size ∷ []) (0 ∷ 0 ∷ [])

abbrev pub heard_piece : split.Written → (ℕ × List ℕ) × List ℕ
heard_piece x = (heard_part x.answer, x.buffer)

-- 1 and where a single message's own octets begin; 2, where a part's begin, total, number, and the five of its key
abbrev pub brought_numbers : Brought → List ℕ
brought_numbers (single start) = 1 ∷ start ∷ replicate 7 0
brought_numbers (part key total number start) =
    2 ∷ start ∷ total ∷ number ∷ key.sender ∷ key.width ∷ key.reference ∷ key.serial.0 ∷ key.identifier.0 ∷ []

abbrev pub heard_brought : Outcome Brought → ℕ × List ℕ
heard_brought = heard_as brought_numbers (replicate 9 0)

-- 1 kept, the slot, and 1 if a series was displaced; 2 held already, the slot; 3 a packet, and how many octets it has
abbrev pub heard_taken : taking.Answer → ℕ × List ℕ
heard_taken (taking.kept slot displaced) = (0, 1 ∷ slot ∷ cond displaced 1 0 ∷ 0 ∷ [])
heard_taken (taking.held_already slot) = (0, 2 ∷ slot ∷ 0 ∷ 0 ∷ [])
heard_taken (taking.packet size) = (0, 3 ∷ 0 ∷ 0 ∷ size ∷ [])
heard_taken (taking.refused_by m) = (m, replicate 4 0)

-- ---- on a state
-- with the octets of the state afterwards: making, a beat, taking, which leaves cells and output too
abbrev pub heard_made : OnState (Outcome Unit) → ℕ × List ℕ
heard_made x = (heard_nothing x.answer, x.octets)

abbrev pub heard_beaten : OnState (Outcome ℕ) → (ℕ × ℕ) × List ℕ
heard_beaten x = (heard_number x.answer, x.octets)

abbrev pub heard_state : TakenState → (ℕ × List ℕ) × (List ℕ × (List ℕ × List ℕ))
heard_state x = (heard_taken x.answer, (x.octets, (x.cells, x.output)))

-- ---- packets
-- The fields up to the check field, of a ciphered body those in the clear and zeros; and what the body is: 0 with the lengths of check field and data, or 1
-- with the header length and that of the opaque octets.
abbrev pub numbers_heard : Kind → Parsed → List ℕ × List ℕ
numbers_heard k (plain_parsed fixed check secured) = (fixed, 0 ∷ check ∷ secured ∷ [])
numbers_heard k (ciphered_parsed clear header opaque) = (clear ++ replicate (least k - before k) 0, 1 ∷ header ∷ opaque ∷ [])

abbrev pub heard_parsed : Kind → Outcome Parsed → ℕ × (List ℕ × List ℕ)
heard_parsed k = heard_as (numbers_heard k) (replicate (least k) 0, replicate 3 0)

-- Where check field, data and opaque octets begin, each with how many they are, if what is behind the lengths begins at `start`.
abbrev pub places_of : Kind → (start header : ℕ) → Fields → List ℕ
places_of k start header (plain fixed check secured) = (start + least k) ∷ length check ∷ (start + header) ∷ length secured ∷ 0 ∷ 0 ∷ []
places_of k start header (ciphered clear h opaque) = 0 ∷ 0 ∷ 0 ∷ 0 ∷ (start + before k) ∷ length opaque ∷ []

abbrev pub heard_places : Kind → Bool → List ℕ → ℕ × List ℕ
heard_places k c p = heard_as (places_of k 3 (chl p)) (replicate 6 0) (readable k c p (gives (fields_of k c p)))

-- ---- reports
-- 1 nothing, 2 a report and how many octets it has, 3 one that announces the response, 4 submitted parts alone
abbrev pub going_numbers : Going ℕ → List ℕ
going_numbers nothing_goes = 1 ∷ 0 ∷ []
going_numbers (in_report n) = 2 ∷ n ∷ []
going_numbers (announced n) = 3 ∷ n ∷ []
going_numbers submitted = 4 ∷ 0 ∷ []

abbrev pub heard_going : Outcome (Going ℕ) → ℕ × List ℕ
heard_going = heard_as going_numbers (0 ∷ 0 ∷ [])

abbrev pub heard_report : Reported → (ℕ × List ℕ) × List ℕ
heard_report x = (heard_going x.0, x.1)

abbrev pub heard_announcing : Outcome Bool → ℕ × ℕ
heard_announcing = heard_as (λ b. cond b 1 0) 0

-- ---- captures
-- the first position, how many, and the position behind; no call of these is refused
abbrev pub heard_run : SkippedRun → ℕ × List ℕ
heard_run x = (0, x.first ∷ x.count ∷ x.next ∷ [])

-- 1 user data, 2 a page, and where its own octets begin; zeros if the octets are no sound record
abbrev pub heard_captured : option.Option Captured → ℕ × List ℕ
heard_captured (Some (UserData start)) = (0, 1 ∷ start ∷ [])
heard_captured (Some (Page start)) = (0, 2 ∷ start ∷ [])
heard_captured None = (0, 0 ∷ 0 ∷ [])
