-- What the answers of parsing say, in the words of the paper: the fields in the packet's order.
use Rattle.std.specs.declared.result.Result.{Result}
use Rattle.std.specs.declared.result.Result.TheVariants.{Ok, Err}
use Rattle.types.specs.declared.Refusal.{Refusal}
use Rattle.types.specs.declared.Command as parsed_command
use Rattle.types.specs.declared.Response as parsed_response
use Rattle.std.specs.Prelude.{ℕ, List, [], ◌∷◌, ◌++◌}
use Rattle.types.specs.declared.Tar.{Tar}
use Rattle.types.specs.declared.Cntr.{Cntr}
use Rattle.types.specs.declared.Clear.{Clear}
use Rattle.types.specs.declared.CommandBody.{CommandBody}
use Rattle.types.specs.declared.CommandBody.TheVariants as command
use Rattle.types.specs.declared.ResponseBody.{ResponseBody}
use Rattle.types.specs.declared.ResponseBody.TheVariants as response
use Rattle.types.specs.Refusals.{Outcome, refused, gives, refusal_number}
use Rattle.packet.specs.Packets.{Parsed, plain_parsed, ciphered_parsed}

-- "TAR and CNTR pass as three and five octets."
abbrev pub tar_octets : Tar → List ℕ
tar_octets t = t.0 ∷ t.1 ∷ t.2 ∷ []

-- SPI, KIc, KID, TAR
abbrev pub clear_octets : Clear → List ℕ
clear_octets x = x.spi.0 ∷ x.spi.1 ∷ x.kic ∷ x.kid ∷ tar_octets x.tar

-- CNTR and what stands behind it up to the check field: PCNTR, and in a response the status
abbrev pub counter_octets : Cntr → List ℕ → List ℕ
counter_octets n l = n.0 ∷ n.1 ∷ n.2 ∷ n.3 ∷ n.4 ∷ l

-- a plain command's fields before the check field, and a plain response's
abbrev pub command_fixed : Clear → Cntr → ℕ → List ℕ
command_fixed x n pcntr = clear_octets x ++ counter_octets n (pcntr ∷ [])

abbrev pub response_fixed : Tar → Cntr → ℕ → ℕ → List ℕ
response_fixed t n pcntr status = tar_octets t ++ counter_octets n (pcntr ∷ status ∷ [])

abbrev pub command_fields : Clear → CommandBody → Parsed
command_fields x (command.Plain b) = plain_parsed (command_fixed x b.cntr b.pcntr) b.check_length b.data_length
command_fields x (command.Ciphered b) = ciphered_parsed (clear_octets x) b.header_length b.opaque_length

abbrev pub response_fields : Tar → ResponseBody → Parsed
response_fields t (response.Plain b) = plain_parsed (response_fixed t b.cntr b.pcntr b.status) b.check_length b.data_length
response_fields t (response.Ciphered b) = ciphered_parsed (tar_octets t) b.header_length b.opaque_length

abbrev pub told_command : Result parsed_command.Command Refusal → Outcome Parsed
told_command (Ok c) = gives (command_fields c.clear c.body)
told_command (Err r) = refused (refusal_number r)

abbrev pub told_response : Result parsed_response.Response Refusal → Outcome Parsed
told_response (Ok c) = gives (response_fields c.tar c.body)
told_response (Err r) = refused (refusal_number r)
