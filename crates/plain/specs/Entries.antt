-- The log of the plain engine (02 [9]): "one lent log of accepted parts in order of arrival, at most 80 entries". What an entry says, and its octets.
use Rattle.std.specs.Prelude.{ℕ, zero, suc, ◌*◌, List, [], ◌∷◌, ◌++◌, length, get_or, take, drop}
use Rattle.keyed.specs.KeyOctets.{key_at, key_octets}
use Rattle.types.specs.declared.Kind.{Kind}
use Rattle.types.specs.declared.Key.{Key}
use Rattle.types.specs.declared.Log.{Log}

-- A part that was accepted, "an entry also notes what slots, recency and beats need": the slot of its series, the series' rank by recency (1: the most
-- recent) and its count of beats. Key and total are those of the series too; number, size and octets are the part's own.
pub record Entry : Type 0 where
  pub slot : ℕ
  pub rank : ℕ
  pub beats : ℕ
  pub key : Key
  pub total : ℕ
  pub number : ℕ
  pub size : ℕ
  pub octets : List ℕ

-- ---- octets
-- An entry has 151 octets. Of the first 17, place 0 is the slot, 1 the rank, 2 the beats, 3 to 6 the sender, 7 the width, 8 and 9 the reference, 10 and 11
-- the serial number, 12 and 13 the message identifier, 14 the total, 15 the number, and 16 the size: how many octets the part has. The part's own octets
-- begin at place 17, and 134 places are theirs; those behind them count for nothing.
abbrev pub entry_head : ℕ
entry_head = 17

abbrev pub entry_octets : ℕ
entry_octets = 151

abbrev pub most_entries : ℕ
most_entries = 80

abbrev pub log_octets : ℕ
log_octets = most_entries * entry_octets

-- what an entry's octets say
abbrev pub entry_in : List ℕ → Entry
entry_in o =
    record {
      slot = get_or o 0 0;
      rank = get_or o 1 0;
      beats = get_or o 2 0;
      key = key_at 3 o;
      total = get_or o 14 0;
      number = get_or o 15 0;
      size = get_or o 16 0;
      octets = take (get_or o 16 0) (drop entry_head o);
    }

-- The octets that are written for an entry: its head, and the part's own octets behind it.
abbrev pub head_of : Entry → List ℕ
head_of e =
    e.slot ∷ e.rank ∷ e.beats ∷ key_octets e.key (e.total ∷ e.number ∷ e.size ∷ [])

abbrev pub written_for : Entry → List ℕ
written_for e = head_of e ++ e.octets

-- ---- the entries of a log
-- entry i of the lent octets, from 0; the m entries from i on
unfoldable pub log_entry_at : List ℕ → ℕ → Entry
log_entry_at lent i = entry_in (take entry_octets (drop (i * entry_octets) lent))

unfoldable pub entries_from : List ℕ → ℕ → ℕ → List Entry
entries_from lent i zero = []
entries_from lent i (suc m) = log_entry_at lent i ∷ entries_from lent (suc i) m

-- What a call is given and what it leaves: kind and number of slots, how many octets are lent for the log, and its entries. Octets behind these are not
-- looked at.
pub record LogState : Type 0 where
  pub kind : Kind
  pub slots : ℕ
  pub lent : ℕ
  pub log : List Entry

abbrev pub state_in : Log → List ℕ → LogState
state_in l lent = record { kind = l.kind; slots = l.slots; lent = length lent; log = entries_from lent 0 l.count }
