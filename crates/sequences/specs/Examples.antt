-- 01's examples marked P ("Examples on both sides"): one list of pairs, a call and all that comes of it, with a single claim about every entry.
-- Each starts from a fresh record for commands, with any number of slots; cells and output hold anything.
use Rattle.std.specs.Prelude.{ℕ, ◌≡◌, Bool, true, false, List, [], ◌∷◌, ◌++◌, length, drop, replicate, set}
use Rattle.octets.specs.Octets.{placed}
use Rattle.types.specs.declared.Kind.TheVariants.{Command}
use Rattle.packet.specs.Packets.{most_octets}
use Rattle.types.specs.declared.Slot.{Slot}
use Rattle.types.specs.declared.Record.{Record}
use Rattle.slots.specs.Slots.{free_slot, fresh_record}
use Rattle.cells.specs.Cells.{cells_size}
use Rattle.series.specs.Taking.{After, kept, packet, refused_by, state, after}
use Rattle.series.specs.Calls.{Input, message, page, take_input}

-- "Let M be 00 0E 0D, then thirteen octets 00 00 00 00 B0 00 10 00 00 00 00 00 00: sixteen in all." CPL and CHL are given, since b, c and d
-- change them.
abbrev pub m : ℕ → ℕ → List ℕ
m cpl chl =
    0x00 ∷ cpl ∷ chl ∷ 0x00 ∷ 0x00 ∷ 0x00 ∷ 0x00 ∷ 0xB0 ∷ 0x00 ∷ 0x10 ∷ 0x00 ∷ 0x00 ∷ 0x00 ∷ 0x00 ∷ 0x00 ∷ 0x00 ∷ []

abbrev pub M : List ℕ
M = m 0x0E 0x0D

-- "Page with serial number 0000, identifier 1080, DCS 96, content M then 00s"
abbrev content : List ℕ
content = M ++ replicate 66 0x00

abbrev example_page : ℕ → List ℕ
example_page parameter = 0x00 ∷ 0x00 ∷ 0x10 ∷ 0x80 ∷ 0x96 ∷ parameter ∷ content

-- ---- outcomes
-- what a call comes to, with n slots, whatever the cells and the output held
abbrev Ends : Type 0
Ends = ℕ → List ℕ → List ℕ → After

-- record, cells and output as they were
abbrev refusing : ℕ → Ends
refusing number n cells output = after (refused_by number) (fresh_record n Command) cells output

-- a packet handed out: its length, the packet at the start of the output, and the rest of that buffer as it was
abbrev pub hands_out : List ℕ → Ends
hands_out p n cells output = after (packet (length p)) (fresh_record n Command) cells (p ++ drop (length p) output)

abbrev hands_out_m : Ends
hands_out_m = hands_out M

-- a part in slot 0, the most recent series; the other slots are free
abbrev holds : ℕ → Slot → Record
holds n x = record { kind = Command; count = n; slots = x ∷ free_slot ∷ free_slot ∷ free_slot ∷ free_slot ∷ [] }

abbrev marked : ℕ → List Bool
marked i = set (replicate 16 false) i true

-- the series of example h, with part 2 of 2, which is empty; that of m, with page 2 of 3
abbrev series_h : Slot
series_h = record {
  rank = 1;
  beats = 0;
  key = record { sender = 9; width = 8; reference = 0x2A; serial = record { 0 = 0 }; identifier = record { 0 = 0 } };
  total = 2;
  lengths = replicate 16 0;
  held = marked 1;
}

abbrev series_m : Slot
series_m = record {
  rank = 1;
  beats = 0;
  key = record { sender = 0; width = 0; reference = 0; serial = record { 0 = 0x0000 }; identifier = record { 0 = 0x1080 } };
  total = 3;
  lengths = set (replicate 16 0) 1 82;
  held = marked 1;
}

abbrev keeps_h : Ends
keeps_h n cells output = after (kept 0 false) (holds n series_h) (placed cells 134 []) output

abbrev keeps_m : Ends
keeps_m n cells output = after (kept 0 false) (holds n series_m) (placed cells 134 content) output

-- ---- the examples, all messages from sender 9
pub record Example : Type 0 where
  pub input : Input
  pub outcome : Ends

abbrev of : List ℕ → Ends → Example
of ud o = record { input = message 9 ud; outcome = o }

abbrev of_page : ℕ → Ends → Example
of_page parameter o = record { input = page (example_page parameter); outcome = o }

abbrev pub examples : List Example
examples =
    -- a
    of (0x02 ∷ 0x70 ∷ 0x00 ∷ M) hands_out_m
    -- b, c, d
    ∷ of (0x02 ∷ 0x70 ∷ 0x00 ∷ m 0x0F 0x0D) (refusing 9)
    ∷ of (0x02 ∷ 0x70 ∷ 0x00 ∷ m 0x0E 0x0C) (refusing 9)
    ∷ of (0x02 ∷ 0x70 ∷ 0x00 ∷ m 0x0E 0x0E) (refusing 9)
    -- e, f
    ∷ of [] (refusing 3)
    ∷ of (0x00 ∷ []) (refusing 5)
    -- g, h
    ∷ of (0x05 ∷ 0x00 ∷ 0x03 ∷ 0x2A ∷ 0x02 ∷ []) (refusing 3)
    ∷ of (0x05 ∷ 0x00 ∷ 0x03 ∷ 0x2A ∷ 0x02 ∷ 0x02 ∷ []) keeps_h
    -- i, j
    ∷ of (0x07 ∷ 0x00 ∷ 0x03 ∷ 0x2A ∷ 0x00 ∷ 0x01 ∷ 0x70 ∷ 0x00 ∷ M) hands_out_m
    ∷ of (0x05 ∷ 0x00 ∷ 0x03 ∷ 0x2A ∷ 0x11 ∷ 0x02 ∷ []) (refusing 6)
    -- m, n, o
    ∷ of_page 0x23 keeps_m
    ∷ of_page 0x30 hands_out_m
    ∷ of_page 0x32 (refusing 4)
    ∷ []

-- the claim about an entry: with n slots, and with cells and an output of the right lengths, the call comes to that
abbrev pub Right : ℕ → Example → Type 0
Right n e =
    (cells output : List ℕ) → length cells ≡ cells_size n → length output ≡ most_octets
    → take_input n (state (fresh_record n Command) cells output) e.input ≡ e.outcome n cells output

abbrev pub Every : (Example → Type 0) → List Example → Type 0
Every P [] = Unit {0}
Every P (e ∷ es) = P e × Every P es
