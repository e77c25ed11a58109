-- How many octets at the start of a lent buffer an answer is about: "a packet handed out comes with its length", "the length written at the
-- buffer's start"; none if nothing was written.
use Rattle.std.specs.declared.result.Result.{Result}
use Rattle.std.specs.declared.result.Result.TheVariants.{Ok, Err}
use Rattle.types.specs.declared.Refusal.{Refusal}
use Rattle.std.specs.Prelude.{ℕ}
use Rattle.types.specs.declared.Answer as answer
use Rattle.types.specs.declared.WrittenPart as part

abbrev pub packet_length : Result answer.Answer Refusal → ℕ
packet_length (Ok (answer.TheVariants.Packet n)) = n
packet_length (Ok (answer.TheVariants.Kept i d)) = 0
packet_length (Ok (answer.TheVariants.HeldAlready i)) = 0
packet_length (Err r) = 0

abbrev pub written_length : Result ℕ Refusal → ℕ
written_length (Ok n) = n
written_length (Err r) = 0

abbrev pub part_length : Result part.WrittenPart Refusal → ℕ
part_length (Ok x) = x.length
part_length (Err r) = 0
