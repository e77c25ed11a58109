-- A key as eleven octets: the sender has four, the width one, and reference, serial number and message identifier two each, big-endian as all numbers here.
use Rattle.std.specs.Prelude.{ℕ, ◌+◌, ◌*◌, ◌/◌, ◌%◌, List, ◌∷◌, get_or}
use Rattle.types.specs.declared.Key.{Key}
use Rattle.octets.specs.Octets.{number_of}

-- a number of four octets by its halves; two octets of a number, before others
abbrev pub wide_number : ℕ → ℕ → ℕ
wide_number high low = high * 65536 + low

abbrev pub with_number : ℕ → List ℕ → List ℕ
with_number n o = n / 256 ∷ n % 256 ∷ o

-- the key that the octets from place i on say
abbrev pub key_at : ℕ → List ℕ → Key
key_at i o =
    record {
      sender = wide_number (number_of (get_or o i 0) (get_or o (i + 1) 0)) (number_of (get_or o (i + 2) 0) (get_or o (i + 3) 0));
      width = get_or o (i + 4) 0;
      reference = number_of (get_or o (i + 5) 0) (get_or o (i + 6) 0);
      serial = record { 0 = number_of (get_or o (i + 7) 0) (get_or o (i + 8) 0) };
      identifier = record { 0 = number_of (get_or o (i + 9) 0) (get_or o (i + 10) 0) };
    }

-- the octets of a key, before others
abbrev pub key_octets : Key → List ℕ → List ℕ
key_octets k o =
    with_number (k.sender / 65536) (with_number (k.sender % 65536) (k.width ∷ with_number k.reference (with_number k.serial.0 (with_number k.identifier.0 o))))
