-- Taking on the octets of a state: the same rules, of the record that they hold.
use Rattle.std.specs.Prelude.{cond, List, ℕ}
use Rattle.layout.specs.Layout.{state_record, known, state_octets}
use Rattle.series.specs.Taking.{Answer, refused_by, After, state}
use Rattle.series.specs.Calls.{Input, take_input}

-- an answer, and the octets of the state, the cells and the output as they are then
pub record TakenState : Type 0 where
  pub answer : Answer
  pub octets : List ℕ
  pub cells : List ℕ
  pub output : List ℕ

abbrev pub taken_state : Answer → List ℕ → List ℕ → List ℕ → TakenState
taken_state a s cells output = record { answer = a; octets = s; cells = cells; output = output }

-- what taking comes to, with the octets of the record afterwards
abbrev pub taken_octets : After → TakenState
taken_octets a = taken_state a.answer (state_octets a.state.rec) a.state.cells a.state.output

-- What taking a message or a page comes to. Octets that are no state are refused 1, as a record that is not well formed; all stays as it was.
unfoldable pub take_in : List ℕ → List ℕ → List ℕ → Input → TakenState
take_in s cells output input =
    cond (known s) (taken_octets (take_input (state_record s).count (state (state_record s) cells output) input)) (taken_state (refused_by 1) s cells output)
