-- What a message or a page brings, in the words of 01.
use Rattle.std.specs.declared.result.Result.{Result}
use Rattle.std.specs.declared.result.Result.TheVariants.{Ok, Err}
use Rattle.types.specs.declared.Refusal.{Refusal}
use Rattle.std.specs.Prelude.{ℕ}
use Rattle.types.specs.Refusals.{Outcome, refused, gives, refusal_number}
use Rattle.types.specs.declared.Key.{Key}
use Rattle.types.specs.declared.Arrival.{Arrival}
use Rattle.types.specs.declared.Arrival.TheVariants.{Single, Part}

-- A single message or page, or part `number` of the `total` parts of the series with that key. "The octets after the header are the part's own":
-- they begin at `start`.
pub data Brought : Type 0 where
  single : (start : ℕ) → Brought
  part : (key : Key) (total number start : ℕ) → Brought

-- what the enum of an answer says
abbrev pub told_arrival : Result Arrival Refusal → Outcome Brought
told_arrival (Ok (Single s)) = gives (single s)
told_arrival (Ok (Part k t n s)) = gives (part k t n s)
told_arrival (Err r) = refused (refusal_number r)
