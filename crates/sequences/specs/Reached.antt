-- The premises of the wake window can be met, and its number is the right one, whatever number of slots a record has: with n slots a packet in
-- two parts comes with n − 1 other keys between them, and does not with n. Buffers are filled with any octet.
use Rattle.std.specs.Prelude.{ℕ, zero, suc, ◌-◌, ◌≡◌, true, List, [], ◌∷◌, ◌++◌, length, take, drop, replicate}
use Rattle.types.specs.declared.Kind.TheVariants.{Command}
use Rattle.packet.specs.Packets.{most_octets}
use Rattle.types.specs.declared.Key.{Key}
use Rattle.arrival.specs.Page.{page_key}
use Rattle.cells.specs.Cells.{cells_size}
use Rattle.series.specs.Taking.{kept, packet}
use Rattle.series.specs.CaseLaws.{Lacks}
use Rattle.series.specs.Calls.{Input, message, page}
use Rattle.split.specs.Splitting as split
use Rattle.sequences.specs.Examples.{M}
use Rattle.sequences.specs.Runs.{Call, Event, takes, fresh, outcome, run}
use Rattle.sequences.specs.Timely.{InTime}
use Rattle.sequences.specs.Wake.{Start, begin}
use Rattle.sequences.specs.SplitTaken.{listed}
use Rattle.sequences.specs.Delivery.{InParts}

-- M of 01's examples, cut in two, under the key of sender 1 with the 8-bit reference 2A
abbrev pub key : Key
key = record { sender = 1; width = 8; reference = 0x2A; serial = record { 0 = 0 }; identifier = record { 0 = 0 } }

abbrev pub halves : List (List ℕ)
halves = take 8 M ∷ drop 8 M ∷ []

-- the longest packets that can be split: 2,142 octets of user data, and 1,230 of pages
abbrev pub longest : List ℕ
longest = 0x08 ∷ 0x5C ∷ 0x0D ∷ replicate 2139 0x00

abbrev pub longest_paged : List ℕ
longest_paged = 0x04 ∷ 0xCC ∷ 0x0D ∷ replicate 1227 0x00

abbrev pub as_message : ℕ → Input
as_message number = message 1 (split.user_data Command 8 0x2A longest number)

abbrev pub as_page : ℕ → Input
as_page number = page (split.page_written 0 0x1080 0x96 longest_paged number)

module _ (b : ℕ) where
  abbrev pub call_from : ℕ → List ℕ → Call
  call_from sender ud = record { input = message sender ud; output = replicate most_octets b }

  abbrev pub first : Call
  first = call_from 1 (0x07 ∷ 0x00 ∷ 0x03 ∷ 0x2A ∷ 0x02 ∷ 0x01 ∷ 0x70 ∷ 0x00 ∷ take 8 M)

  abbrev pub second : Call
  second = call_from 1 (0x05 ∷ 0x00 ∷ 0x03 ∷ 0x2A ∷ 0x02 ∷ 0x02 ∷ drop 8 M)

  -- part 2 of 2 of another sender, without octets of its own; and m of them in a row, each of a sender of its own
  abbrev pub stranger : ℕ → Call
  stranger sender = call_from sender (0x05 ∷ 0x00 ∷ 0x03 ∷ 0x2A ∷ 0x02 ∷ 0x02 ∷ [])

  abbrev pub strangers : ℕ → ℕ → List Event
  strangers sender zero = []
  strangers sender (suc m) = takes (stranger sender) ∷ strangers (suc sender) m

  -- the first part, and then m other keys
  abbrev pub crowd : ℕ → List Event
  crowd m = takes first ∷ strangers 2 m

  -- the parts 1 to t, in order
  abbrev pub in_order : ℕ → (ℕ → Input) → List Event
  in_order t written = listed (λ number. takes (record { input = written number; output = replicate most_octets b })) t

module _ (n b : ℕ) where
  abbrev pub cells : List ℕ
  cells = replicate (cells_size n) b

  -- with n − 1 other keys the premises hold, and the packet comes
  pub record Met : Type 0 where
    pub start : Start n Command key M halves InTime cells [] (crowd b (n - 1) ++ takes (second b) ∷ [])
    pub comes : (outcome n (run n (fresh n Command cells) (crowd b (n - 1))) (second b)).answer ≡ packet 16

  -- with n the first part is displaced: its key is held no more, and the second part opens a series anew, and displaces another
  pub record Missed : Type 0 where
    pub lost : Lacks n (run n (fresh n Command cells) (crowd b n)).rec.slots key
    pub slot : ℕ
    pub kept_anew : (outcome n (run n (fresh n Command cells) (crowd b n)) (second b)).answer ≡ kept slot true

  -- sixteen parts and fifteen pages are reached: brought in order to a fresh record, they are answered as the wake window says, and the packet
  -- comes
  pub record Longest : Type 0 where
    pub sixteen : split.parts 8 (length longest) ≡ 16
    pub in_sixteen : InParts n Command key longest 16 (split.part_octets 8 longest) as_message (begin n Command cells []) (in_order b 16 as_message)
    pub fifteen : split.pages (length longest_paged) ≡ 15
    pub in_fifteen : InParts n Command (page_key 0 0x1080) longest_paged 15 (split.content_of longest_paged) as_page (begin n Command cells []) (in_order b 15 as_page)
