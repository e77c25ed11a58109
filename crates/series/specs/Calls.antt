-- Calls, one function for messages and pages.
use Rattle.std.specs.Prelude.{ℕ, List}
use Rattle.types.specs.declared.Kind.{Kind}
use Rattle.types.specs.Refusals.{Outcome}
use Rattle.arrival.specs.Arrivals.{Brought}
use Rattle.arrival.specs.Message.{read_message}
use Rattle.arrival.specs.Page.{read_page}
use Rattle.series.specs.Taking.{State, After, take_message, take_page}

-- what the network brings: a message from a sender, or a page
pub data Input : Type 0 where
  message : (sender : ℕ) (ud : List ℕ) → Input
  page : (octets : List ℕ) → Input

-- its octets
abbrev pub octets_of : Input → List ℕ
octets_of (message sender ud) = ud
octets_of (page o) = o

-- what reading makes of it, by its octets alone
abbrev pub read : Kind → Input → Outcome Brought
read k (message sender ud) = read_message k sender ud
read k (page o) = read_page k o

-- what taking it comes to, with n slots
abbrev pub take_input : ℕ → State → Input → After
take_input n s (message sender ud) = take_message n s sender ud
take_input n s (page o) = take_page n s o
