-- The test of check bits case by case, and a packet that it refuses and that is carried all the same: by computing.
use Prim.Native.Nat.{◌%◌}
use mathlib.Core.Path.{◌≡◌, refl}
use mathlib.Core.Bool.{false}
use mathlib.Core.List.{[], ◌∷◌}
use native.Mathlib.Omega.{arith}
use lib.ListN.{length, get_or}
use borrow.Author.Tests.{eq-eqb, ne_eqb}
use Rattle.types.specs.declared.Kind.TheVariants.{Response}
use Rattle.packet.specs.Packets.{Fields, plain, ciphered, against_check, parsing}
use Rattle.joined.specs.Fronts.{packet_in}
use Rattle.header.specs.Header.{elements_after, summary}
use Rattle.arrival.specs.Message.{judged, read_message}
use Rattle.split.specs.Splitting.{part_octets, user_data}
use Rattle.trips.specs.Checked.{CheckBits, carried_example, StillCarried}
use Rattle.sequences.proofs.Examples.{all_right}

response_unchecked : (x : Fields) → against_check Response x ≡ false
response_unchecked (plain f c d) = refl
response_unchecked (ciphered f h o) = refl

pub check_bits : CheckBits
check_bits = record {
  none_said = λ f c d e l. rw (eq-eqb (get_or f 0 0 % 4) 0 e, ne_eqb (length c) 0 (λ z. omega arith));
  some_said = λ f d n. rw (ne_eqb (get_or f 0 0 % 4) 0 n);
  none_there = λ f d e. rw (eq-eqb (get_or f 0 0 % 4) 0 e);
  some_there = λ f c d n l. rw (ne_eqb (get_or f 0 0 % 4) 0 n, ne_eqb (length c) 0 (λ z. omega arith));
  ciphered_never = λ k f h o. refl;
  response_never = response_unchecked;
}

pub still_carried : StillCarried
unfolding parsing elements_after summary judged read_message packet_in part_octets user_data
still_carried = record {
  parsing_refuses = refl;
  splitting_writes = refl;
  handed_out = λ n good. (all_right n good (carried_example ∷ []) ((λ cells output. refl), tt)).0;
}
