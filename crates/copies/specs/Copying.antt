-- What the functions that copy the log cite of one another: what becomes of an entry, and of the octets.
use Rattle.std.specs.Prelude.{ℕ, suc, ◌+◌, ◌*◌, ◌≤◌, ◌<◌, ◌≡◌, Bool, true, false, not, cond, ◌&&◌, List, length, set, eqb, ltb, leb}
use Rattle.types.specs.declared.Key.{Key}
use Rattle.octets.specs.Octets.{placed}
use Rattle.types.specs.Refusals.{Outcome, refused, gives}
use Rattle.types.specs.declared.Kind.{Kind}
use Rattle.slots.specs.Order.{rank_after}
use Rattle.copies.specs.declared.Change.{Change}
use Rattle.copies.specs.declared.Change.TheVariants.{Touch, Close, Beat}
use Rattle.copies.specs.declared.Gone.{Gone}
use Rattle.copies.specs.declared.Gone.TheVariants.{InSlot, AtLimit}
use Rattle.plain.specs.Entries.{Entry, entry_octets, log_octets, most_entries, log_entry_at, entries_from}
use Rattle.plain.specs.Log.{of_slot, noted_as}
use Rattle.plain.specs.Engine.{all_of, log_formed}
use Rattle.logs.specs.Places.{entry_octets_at}

-- ---- ranks and counts
-- of `touched`, `moved_up` and `older`: the rank that an entry notes afterwards, and the count; 255 does not rise, and no log that was made has it
abbrev pub rank_noted : Change → ℕ → ℕ → ℕ
rank_noted (Touch i r) slot q = cond (eqb slot i) 1 (rank_after true r q)
rank_noted (Close r) slot q = rank_after false r q
rank_noted Beat slot q = q

abbrev pub beats_noted : Change → ℕ → ℕ → ℕ
beats_noted (Touch i r) slot b = cond (eqb slot i) 0 b
beats_noted (Close r) slot b = b
beats_noted Beat slot b = cond (ltb b 255) (suc b) b

unfoldable pub alter : Change → Entry → Entry
alter c e = noted_as (rank_noted c e.slot e.rank) (beats_noted c e.slot e.beats) e

-- the octets in which entry i has another rank and another count
abbrev pub renoted : List ℕ → ℕ → ℕ → ℕ → List ℕ
renoted lent i rank beats = set (set lent (i * entry_octets + 1) rank) (i * entry_octets + 2) beats

unfoldable pub altered : Change → List ℕ → ℕ → List ℕ
altered c lent i =
    renoted lent i (rank_noted c (log_entry_at lent i).slot (log_entry_at lent i).rank) (beats_noted c (log_entry_at lent i).slot (log_entry_at lent i).beats)

-- rank and count can rise
abbrev pub low : Entry → Bool
low e = ltb e.rank 255 && ltb e.beats 255

-- ---- leaving out
abbrev pub goes : Gone → Entry → Bool
goes (InSlot i) e = of_slot i e
goes (AtLimit limit) e = leb limit (suc e.beats)

abbrev pub remains : Gone → Entry → Bool
remains (InSlot i) = λ e. not (of_slot i e)
remains (AtLimit limit) = λ e. not (leb limit (suc e.beats))

-- entry i at the place `to`
unfoldable pub copied : List ℕ → ℕ → ℕ → List ℕ
copied lent i to = placed lent (to * entry_octets) (entry_octets_at lent i)

abbrev pub kept_entry : Gone → List ℕ → ℕ → ℕ → List ℕ
kept_entry g lent i to = cond (goes g (log_entry_at lent i)) lent (copied lent i to)

abbrev pub kept_place : Gone → List ℕ → ℕ → ℕ → ℕ
kept_place g lent i to = cond (goes g (log_entry_at lent i)) to (to + 1)

-- ---- an entry more
-- of `new_entry`
abbrev pub part_entry : ℕ → Key → ℕ → ℕ → List ℕ → Entry
part_entry slot key total number octets =
    record { slot = slot; rank = 1; beats = 0; key = key; total = total; number = number; size = length octets; octets = octets }

-- ---- what a change relies on, and what it comes to
-- the octets lent are as many as a log has, and it has m entries that the engine could have made
pub record SoundLog (n : ℕ) (k : Kind) (lent : List ℕ) (m : ℕ) : Type 0 where
  pub long : length lent ≡ log_octets
  pub most : m ≤ most_entries
  pub formed : log_formed n k (entries_from lent 0 m) ≡ true

-- there is room for the entries, and ranks and counts can rise; besides, for an entry more, and the part is no longer than an entry takes
pub record CanChange (lent : List ℕ) (m : ℕ) : Type 0 where
  pub long : length lent ≡ log_octets
  pub most : m ≤ most_entries
  pub rise : all_of low (entries_from lent 0 m) ≡ true

pub record CanKeep (lent : List ℕ) (m : ℕ) (part : List ℕ) : Type 0 where
  pub change : CanChange lent m
  pub room : m < most_entries
  pub short : length part ≤ 134

-- the entries that a change comes to, of what it can be made on
pub record ChangesTo (can : Type 0) (new log : List Entry) : Type 0 where
  pub is : can → new ≡ log

-- a beat that is refused
abbrev pub beat_refused : Outcome ℕ → Bool
beat_refused (refused m) = true
beat_refused (gives m) = false
