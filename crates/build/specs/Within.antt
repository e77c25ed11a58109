-- What the functions of this crate cite of one another.
use Rattle.std.specs.declared.result.Result.{Result}
use Rattle.std.specs.declared.result.Result.TheVariants.{Ok, Err}
use Rattle.types.specs.declared.Refusal.{Refusal}
use Rattle.std.specs.Prelude.{ℕ, ◌-◌, Bool, false, not, ◌||◌, List, length, eqb, ltb}
use Rattle.types.specs.declared.Kind.{Kind}
use Rattle.types.specs.declared.Kind.TheVariants.{Command, Response}
use Rattle.types.specs.Refusals.{Outcome, refused, gives, refuse◌when◌otherwise◌, refusal_number, Lent, writes}
use Rattle.packet.specs.Packets.{before, least, cipher_bit, differ, most_octets}

-- 10 of a building, of the first octet behind the lengths
abbrev pub against_octet : Kind → ℕ → Bool → Bool
against_octet Command first c = differ (cipher_bit first) c
against_octet Response first c = false

-- the refusals of fields in their order, of the five tests; the buffer is to have `wanted` octets
abbrev pub ruled : {A : Type 0} → (wanted buffer : ℕ) → Bool → Bool → Bool → Bool → Outcome A → Outcome A
ruled wanted buffer against misfit unchecked over o =
    refuse 1 when not (eqb buffer wanted) otherwise
    refuse 10 when against otherwise
    refuse 11 when misfit otherwise
    refuse 15 when unchecked otherwise
    refuse 12 when over otherwise
    o

abbrev pub told_ruling : Result Unit Refusal → Outcome ℕ
told_ruling (Ok tt) = gives 0
told_ruling (Err r) = refused (refusal_number r)

-- what building the packet p comes to, of three of the tests
abbrev pub tried : Bool → Bool → Bool → List ℕ → List ℕ → Lent
tried against misfit unchecked p buffer = writes (ruled most_octets (length buffer) against misfit unchecked (ltb most_octets (length p)) (gives p)) buffer

-- 11 of a ciphered body, of the header length and the number of opaque octets
abbrev pub outside : Kind → ℕ → ℕ → Bool
outside k header opaque = ltb header (least k) || ltb 255 header || ltb opaque (header - before k)
