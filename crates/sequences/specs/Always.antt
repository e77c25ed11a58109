-- Demand 3's last sentence, and what makes it true: for every sequence of calls whatsoever, from a fresh record.
use Rattle.std.specs.Prelude.{ℕ, ◌<◌, ◌≡◌, true, List}
use Rattle.octets.specs.Octets.{Octets}
use Rattle.types.specs.declared.Kind.{Kind}
use Rattle.slots.specs.Slots.{slot_at}
use Rattle.formed.specs.Formed.{record_formed}
use Rattle.series.specs.Calls.{octets_of}
use Rattle.sequences.specs.Runs.{Event, takes, beats, fresh, run, Each}

-- a call brings octets, and what it lends may have any length; the limit of a beat is an octet
abbrev pub BringsOctets : Event → Type 0
BringsOctets (takes c) = Octets (octets_of c.input)
BringsOctets (beats limit) = limit < 256

-- every record that calls and beats lead to is well formed
abbrev pub AlwaysFormed : ℕ → Kind → Type 0
AlwaysFormed n k =
    (cells : List ℕ) (calls : List Event) → Each BringsOctets calls → record_formed n (run n (fresh n k cells) calls).rec ≡ true

-- "At no moment does one key occupy two slots."
abbrev pub NoKeyTwice : ℕ → Kind → Type 0
NoKeyTwice n k =
    (cells : List ℕ) (calls : List Event) → Each BringsOctets calls → (i j : ℕ) → i < n → j < n
    → 0 < (slot_at (run n (fresh n k cells) calls).rec.slots i).rank → 0 < (slot_at (run n (fresh n k cells) calls).rec.slots j).rank
    → (slot_at (run n (fresh n k cells) calls).rec.slots i).key ≡ (slot_at (run n (fresh n k cells) calls).rec.slots j).key → i ≡ j
