-- Check bits (02, [3]): "Parsing, building and all that stands on them shall refuse a plain command where the low two bits of SPI's first octet
-- are 00 and the check field is not empty, or not 00 and it is empty. Reassembly still hands such packets out, so demand 3 stands."
use Rattle.std.specs.Prelude.{ℕ, ◌%◌, ◌<◌, ◌≡◌, true, false, List, [], ◌∷◌, length, get_or}
use Rattle.types.specs.declared.Kind.{Kind}
use Rattle.types.specs.declared.Kind.TheVariants.{Command, Response}
use Rattle.types.specs.Refusals.{refused}
use Rattle.packet.specs.Packets.{Fields, plain, ciphered, ciphered_command, against_check, parsing}
use Rattle.series.specs.Calls.{message}
use Rattle.split.specs.Splitting.{user_data}
use Rattle.sequences.specs.Runs.{Slots}
use Rattle.sequences.specs.Examples.{Example, hands_out, Right}

-- The test of a plain command with the fields f before its check field c, case by case. SPI's first octet is the first of f.
pub record CheckBits : Type 0 where
  -- refused: the bits are 00 and the field is not empty; the bits are not 00 and it is empty
  pub none_said : (f c d : List ℕ) → get_or f 0 0 % 4 ≡ 0 → 0 < length c → against_check Command (plain f c d) ≡ true
  pub some_said : (f d : List ℕ) → (get_or f 0 0 % 4 ≡ 0 → ⊥) → against_check Command (plain f [] d) ≡ true
  -- and nothing else is
  pub none_there : (f d : List ℕ) → get_or f 0 0 % 4 ≡ 0 → against_check Command (plain f [] d) ≡ false
  pub some_there : (f c d : List ℕ) → (get_or f 0 0 % 4 ≡ 0 → ⊥) → 0 < length c → against_check Command (plain f c d) ≡ false
  pub ciphered_never : (k : Kind) (f : List ℕ) (h : ℕ) (o : List ℕ) → against_check k (ciphered f h o) ≡ false
  pub response_never : (x : Fields) → against_check Response x ≡ false

-- a packet whose SPI promises a checksum, and whose check field is empty
abbrev unchecked : List ℕ
unchecked =
    0x00 ∷ 0x0E ∷ 0x0D ∷ 0x01 ∷ 0x00 ∷ 0x00 ∷ 0x00 ∷ 0xB0 ∷ 0x00 ∷ 0x10 ∷ 0x00 ∷ 0x00 ∷ 0x00 ∷ 0x00 ∷ 0x00 ∷ 0x00 ∷ []

-- the message that splitting writes of it, and what taking that comes to
abbrev pub carried_example : Example
carried_example = record { input = message 9 (0x02 ∷ 0x70 ∷ 0x00 ∷ unchecked); outcome = hands_out unchecked }

-- parsing refuses it; splitting writes it as it writes any other, and what is written is taken and handed out
pub record StillCarried : Type 0 where
  pub parsing_refuses : parsing Command (ciphered_command unchecked) unchecked ≡ refused 15
  pub splitting_writes : user_data Command 8 0 unchecked 1 ≡ 0x02 ∷ 0x70 ∷ 0x00 ∷ unchecked
  pub handed_out : (n : ℕ) → Slots n → Right n carried_example
