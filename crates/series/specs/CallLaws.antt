-- Messages and pages at once: any call is refused 1, or is what its reading says; and reading admits what a record can hold.
use Rattle.std.specs.Prelude.{ℕ, ◌≡◌, refl, Bool, true, false, cond, drop}
use Rattle.octets.specs.Octets.{Octets}
use Rattle.types.specs.Refusals as reading
use Rattle.types.specs.declared.Kind.{Kind}
use Rattle.types.specs.declared.Key.{Key}
use Rattle.arrival.specs.Arrivals.{part}
use Rattle.arrival.specs.Laws.{Admitted, page_part}
use Rattle.arrival.proofs.MessageLaws.{message_part}
use Rattle.series.specs.Taking.{State, unfit, refuse, taken, take_message, take_page}
use Rattle.series.specs.Calls.{Input, message, page, octets_of, read, take_input}

abbrev pub is_page : Input → Bool
is_page (message sender ud) = false
is_page (page o) = true

pub admits : (k : Kind) (i : Input) → Octets (octets_of i) → (key : Key) (total number start : ℕ) → read k i ≡ reading.gives (part key total number start)
    → Admitted k key total number (drop start (octets_of i))
admits k (message sender ud) bytes key total number start e = message_part k sender ud key total number start e bytes
admits k (page o) bytes key total number start e = page_part k o key total number start e

pub taking_any : (n : ℕ) (s : State) (i : Input)
    → take_input n s i ≡ cond (unfit n s) (refuse 1 s) (taken n s (is_page i) (octets_of i) (read s.rec.kind i))
unfolding take_message take_page
taking_any n s (message sender ud) = refl
taking_any n s (page o) = refl
