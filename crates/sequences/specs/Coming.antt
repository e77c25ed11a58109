-- Demand 3, second: if all parts are among the calls, "the one that brings the last missing part" is there, and hands out the packet.
use Rattle.std.specs.Prelude.{ℕ, ◌≡◌, true, false, List, ◌∷◌, ◌++◌, length, drop}
use Rattle.types.specs.declared.Kind.{Kind}
use Rattle.types.specs.declared.Key.{Key}
use Rattle.types.specs.declared.Record.{Record}
use Rattle.types.specs.Refusals as reading
use Rattle.arrival.specs.Arrivals.{part}
use Rattle.series.specs.Taking.{packet, after}
use Rattle.series.specs.CaseLaws.{Lacks}
use Rattle.series.specs.Calls.{read}
use Rattle.sequences.specs.Lists.{elem, add, complete}
use Rattle.sequences.specs.Runs.{Call, Event, takes, outcome}
use Rattle.sequences.specs.Wake.{History, begin, follow, Start}

module _ (n : ℕ) (k : Kind) (K : Key) (P : List ℕ) (parts : List (List ℕ)) where
  -- the call's octets read as a part of the key with the packet's count as total; its number had not come, and with it all have
  pub data Comes (w : History) (calls : List Event) : Type 0 where
    comes : (u : List Event) (c : Call) (v : List Event) (number start : ℕ) (r : Record) → calls ≡ u ++ takes c ∷ v
        → read k c.input ≡ reading.gives (part K (length parts) number start) → elem number (follow n k K w u).arrived ≡ false
        → complete (length parts) (add number (follow n k K w u).arrived) ≡ true → Lacks n r.slots K
        → outcome n (follow n k K w u).store c ≡ after (packet (length P)) r (follow n k K w u).store.cells (P ++ drop (length P) c.output) → Comes w calls

  abbrev pub PacketComes : (Timely : List Event → List ℕ → Type 0) → Type 0
  PacketComes Timely =
      (cells : List ℕ) (earlier calls : List Event) → Start n k K P parts (Timely (earlier ++ calls)) cells earlier calls
      → complete (length parts) (follow n k K (begin n k cells earlier) calls).arrived ≡ true → Comes (begin n k cells earlier) calls
