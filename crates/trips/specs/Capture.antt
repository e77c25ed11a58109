-- Salvaging a capture (02, [14]): for every file, what is copied of it, what is skipped, and how the two make up the file. A record is written out
-- here octet by octet, without the tests by which it is found.
use Rattle.std.specs.declared.option.Option.TheVariants.{Some, None}
use Rattle.std.specs.Prelude.{ℕ, ◌+◌, ◌≤◌, ◌<◌, ◌≡◌, true, List, [], ◌∷◌, ◌++◌, ◌⊎◌, length, drop, replicate}
use Rattle.types.specs.declared.SkippedRun.{SkippedRun}
use Rattle.types.specs.declared.Captured.TheVariants.{UserData, Page}
use Rattle.types.specs.Refusals.{lent, refused, gives}
use Rattle.capture.specs.Captures.{sound, salvaged, next_run, most_capture, salvaging, record_in}
use Rattle.sequences.specs.Lists.{concat}

-- ---- records
-- "a mark of two octets, A5 5A, before each record, then kind (1 user data, 2 page) and length, an octet each, and that many octets (kind 1: 0 to
-- 140, kind 2: 88)"
pub data CaptureRecord : List ℕ → Type 0 where
  in_user_data : (own : List ℕ) → length own ≤ 140 → CaptureRecord (0xA5 ∷ 0x5A ∷ 1 ∷ length own ∷ own)
  in_page : (own : List ℕ) → length own ≡ 88 → CaptureRecord (0xA5 ∷ 0x5A ∷ 2 ∷ 88 ∷ own)

-- "it ends at the file's end or where another mark stands": what is behind it
pub data EndOrMark : List ℕ → Type 0 where
  file_end : EndOrMark []
  next_mark : (more : List ℕ) → EndOrMark (0xA5 ∷ 0x5A ∷ more)

-- a sound record stands at the front
pub record SoundAt (o : List ℕ) : Type 0 where
  pub captured : List ℕ
  pub rest : List ℕ
  pub front : o ≡ captured ++ rest
  pub right : CaptureRecord captured
  pub behind : EndOrMark rest

abbrev pub EveryRecord : (List ℕ → Type 0) → List (List ℕ) → Type 0
EveryRecord P [] = Unit {0}
EveryRecord P (r ∷ rs) = P r × EveryRecord P rs

-- ---- the file in its pieces
abbrev pub run_of : ℕ → ℕ → SkippedRun
run_of first count = record { first = first; count = count; next = first + count }

-- "Copied and skipped octets make up the file": from a position on it is sound records and runs in turn; c are the octets of the records. No record
-- is sound at any position of a run. The run is longest: behind it is a sound record or the file's end, and so no run is behind a run.
pub data Divides : (at : ℕ) (file copied : List ℕ) (runs : List SkippedRun) → Type 0 where
  ends : (at : ℕ) → Divides at [] [] []
  copies : (at : ℕ) (r rest c : List ℕ) (runs : List SkippedRun) → CaptureRecord r → EndOrMark rest → Divides (at + length r) rest c runs
      → Divides at (r ++ rest) (r ++ c) runs
  skips : (at : ℕ) (s rest c : List ℕ) (runs : List SkippedRun) → 0 < length s → ((i : ℕ) → i < length s → SoundAt (drop i (s ++ rest)) → ⊥)
      → (rest ≡ []) ⊎ SoundAt rest → Divides (at + length s) rest c runs → Divides at (s ++ rest) c (run_of at (length s) ∷ runs)

-- the runs that the call gives, one after the other, until it gives none
pub data Listed (file : List ℕ) : ℕ → List SkippedRun → Type 0 where
  no_more : (at : ℕ) → (next_run file at).count ≡ 0 → Listed file at []
  one_more : (at : ℕ) (runs : List SkippedRun) → ((next_run file at).count ≡ 0 → ⊥) → Listed file (next_run file at).next runs
      → Listed file at (next_run file at ∷ runs)

-- how many octets runs have
abbrev pub octets_skipped : List SkippedRun → ℕ
octets_skipped [] = 0
octets_skipped (r ∷ runs) = r.count + octets_skipped runs

-- every file is divided so, by what is copied and by the runs that the call gives; and in no other way
pub record Divided (file : List ℕ) : Type 0 where
  pub runs : List SkippedRun
  pub listed : Listed file 0 runs
  pub division : Divides 0 file (salvaged file) runs
  pub makes_up : length (salvaged file) + octets_skipped runs ≡ length file

pub record OnlySo (file copied : List ℕ) (runs : List SkippedRun) : Type 0 where
  pub copied_octets : copied ≡ salvaged file
  pub listed : Listed file 0 runs

-- ---- what is copied
pub record StandsIn (file r : List ℕ) : Type 0 where
  pub before : List ℕ
  pub after : List ℕ
  pub is : file ≡ before ++ (r ++ after)

-- what is copied is records, one behind the other, each of which was in the file
pub record InRecords (file : List ℕ) : Type 0 where
  pub records : List (List ℕ)
  pub right : EveryRecord CaptureRecord records
  pub joined : salvaged file ≡ concat records
  pub found : EveryRecord (StandsIn file) records

-- ---- the calls
-- reading begins at a position as at the file's start
abbrev pub FromPosition : Type 0
FromPosition = (file : List ℕ) (at : ℕ) → next_run file at ≡ run_of (at + (next_run (drop at file) 0).first) (next_run (drop at file) 0).count

-- one record by itself: its kind, and where its own octets begin; nothing else is a record
pub record ByItself : Type 0 where
  pub user_data_lem : (own : List ℕ) → length own ≤ 140 → record_in (0xA5 ∷ 0x5A ∷ 1 ∷ length own ∷ own) ≡ Some (UserData 4)
  pub page : (own : List ℕ) → length own ≡ 88 → record_in (0xA5 ∷ 0x5A ∷ 2 ∷ 88 ∷ own) ≡ Some (Page 4)
  pub other : (o : List ℕ) → (CaptureRecord o → ⊥) → record_in o ≡ None

-- "24 for a longer one, then 1 for an output buffer not of the file's length, whose rest stays"
pub record SalvagesOrRefuses (file output : List ℕ) : Type 0 where
  pub twenty_four : most_capture < length file → salvaging file output ≡ lent (refused 24) output
  pub one : length file ≤ most_capture → (length output ≡ length file → ⊥) → salvaging file output ≡ lent (refused 1) output
  pub given : length file ≤ most_capture → length output ≡ length file
      → salvaging file output ≡ lent (gives (length (salvaged file))) (salvaged file ++ drop (length (salvaged file)) output)

-- ---- examples, on both sides of each border
-- a file, what is copied of it, a position, and the next run from there on
pub record CaptureExample : Type 0 where
  pub file : List ℕ
  pub copied : List ℕ
  pub from : ℕ
  pub run : SkippedRun

abbrev capture_case : List ℕ → List ℕ → ℕ → ℕ → ℕ → CaptureExample
capture_case file copied from first count = record { file = file; copied = copied; from = from; run = run_of first count }

-- a record of that kind whose own octets are so many zeros, whether or not it may have them
abbrev of_zeros : ℕ → ℕ → List ℕ
of_zeros kind own = 0xA5 ∷ 0x5A ∷ kind ∷ own ∷ replicate own 0

abbrev pub capture_examples : List CaptureExample
capture_examples =
    -- nothing; a position past the end
    capture_case [] [] 0 0 0
    ∷ capture_case (0x00 ∷ []) [] 0 0 1
    ∷ capture_case (0x00 ∷ []) [] 9 9 0
    -- user data of 0, 140 and 141 octets; a page of 87, 88 and 89; kinds 0 and 3
    ∷ capture_case (of_zeros 1 0) (of_zeros 1 0) 0 4 0
    ∷ capture_case (of_zeros 1 140) (of_zeros 1 140) 0 144 0
    ∷ capture_case (of_zeros 1 141) [] 0 0 145
    ∷ capture_case (of_zeros 2 87) [] 0 0 91
    ∷ capture_case (of_zeros 2 88) (of_zeros 2 88) 0 92 0
    ∷ capture_case (of_zeros 2 89) [] 0 0 93
    ∷ capture_case (of_zeros 0 0) [] 0 0 4
    ∷ capture_case (of_zeros 3 0) [] 0 0 4
    -- behind a record: a lone A5 at the end, both octets of a mark, another octet, another record
    ∷ capture_case (of_zeros 1 0 ++ 0xA5 ∷ []) [] 0 0 5
    ∷ capture_case (of_zeros 1 0 ++ 0xA5 ∷ 0x5A ∷ []) (of_zeros 1 0) 0 4 2
    ∷ capture_case (of_zeros 1 0 ++ 0x00 ∷ of_zeros 1 1) (of_zeros 1 1) 0 0 5
    ∷ capture_case (of_zeros 1 0 ++ of_zeros 1 1) (of_zeros 1 0 ++ of_zeros 1 1) 0 9 0
    -- an octet too few or too many; the end inside the head
    ∷ capture_case (0xA5 ∷ 0x5A ∷ 1 ∷ 2 ∷ 0x11 ∷ []) [] 0 0 5
    ∷ capture_case (0xA5 ∷ 0x5A ∷ 1 ∷ 2 ∷ 0x11 ∷ 0x22 ∷ 0x33 ∷ []) [] 0 0 7
    ∷ capture_case (0xA5 ∷ 0x5A ∷ 1 ∷ []) [] 0 0 3
    -- a mark inside the octets of a sound record is not looked at, and of one that is not sound it is; reading from inside a record
    ∷ capture_case (0xA5 ∷ 0x5A ∷ 1 ∷ 4 ∷ of_zeros 1 0) (0xA5 ∷ 0x5A ∷ 1 ∷ 4 ∷ of_zeros 1 0) 0 8 0
    ∷ capture_case (0xA5 ∷ 0x5A ∷ 3 ∷ 4 ∷ of_zeros 1 0) (of_zeros 1 0) 0 0 4
    ∷ capture_case (0xA5 ∷ 0x5A ∷ 1 ∷ 4 ∷ of_zeros 1 0) (0xA5 ∷ 0x5A ∷ 1 ∷ 4 ∷ of_zeros 1 0) 4 8 0
    ∷ capture_case (0xA5 ∷ 0x5A ∷ 1 ∷ 4 ∷ of_zeros 1 0) (0xA5 ∷ 0x5A ∷ 1 ∷ 4 ∷ of_zeros 1 0) 5 5 3
    -- A5 before a mark; two files joined, the first without its last octet
    ∷ capture_case (0xA5 ∷ of_zeros 1 0) (of_zeros 1 0) 0 0 1
    ∷ capture_case (0xA5 ∷ 0x5A ∷ 1 ∷ 1 ∷ of_zeros 1 1) (of_zeros 1 1) 0 0 4
    ∷ []

-- the claim about each
abbrev pub RightCapture : CaptureExample → Type 0
RightCapture e = (salvaged e.file ≡ e.copied) × (next_run e.file e.from ≡ e.run)

abbrev pub EveryCapture : List CaptureExample → Type 0
EveryCapture [] = Unit {0}
EveryCapture (e ∷ es) = RightCapture e × EveryCapture es

-- ---- all of it
pub record Salvage : Type 0 where
  -- a record is sound at a position if it stands there as 02 says, and only then
  pub sound_so : (o : List ℕ) → SoundAt o → sound o ≡ true
  pub sound_only_so : (o : List ℕ) → sound o ≡ true → SoundAt o
  pub divided : (file : List ℕ) → Divided file
  pub only_so : (file copied : List ℕ) (runs : List SkippedRun) → Divides 0 file copied runs → OnlySo file copied runs
  -- "a capture of nothing but sound records is copied unchanged"
  pub unchanged : (records : List (List ℕ)) → EveryRecord CaptureRecord records → salvaged (concat records) ≡ concat records
  -- so is what was salvaged
  pub again : (file : List ℕ) → salvaged (salvaged file) ≡ salvaged file
  pub in_records : (file : List ℕ) → InRecords file
  pub from_position : FromPosition
  pub by_itself : ByItself
  pub salvages_or_refuses : (file output : List ℕ) → SalvagesOrRefuses file output
  pub examples : EveryCapture capture_examples
