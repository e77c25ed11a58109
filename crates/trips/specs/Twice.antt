-- "Twice the same element" (02, [2]): what one element more in its header does to a message. The header octets h and the octets o of its own make the
-- user data `headed h o`, whose first octet is UDHL; every user data with a UDHL below its length is of this form (`arrival/specs/Forms.antt:
-- headed_whole`).
use Rattle.std.specs.Prelude.{ℕ, ◌+◌, ◌≤◌, List, ◌∷◌, ◌++◌, true, false, ◌||◌, ◌≡◌, length}
use Rattle.std.proofs.Math.Option.{some}
use Rattle.octets.specs.Octets.{number_of}
use Rattle.types.specs.declared.Kind.{Kind}
use Rattle.types.specs.Refusals.{Outcome, refused, gives}
use Rattle.header.specs.declared.Concatenation.{Concatenation}
use Rattle.header.specs.declared.Seen.{Seen}
use Rattle.header.specs.Header.{Item, item, elements, is_concatenation, is_identifier, no_concatenation, any_of, summary}
use Rattle.arrival.specs.Arrivals.{Brought, single, part}
use Rattle.arrival.specs.Message.{most_user_data, ignored, own, judged, read_message}
use Rattle.arrival.specs.Forms.{headed, borne, narrow_element, wide_element}
use Rattle.series.specs.Taking.{State, take_message}

-- The octets of a concatenation element of right length, and what they say.
pub data Concatenating : List ℕ → Concatenation → Type 0 where
  narrow : (reference total number : ℕ)
      → Concatenating (narrow_element reference total number) (record { width = 8; reference = reference; total = total; number = number })
  wide : (high low total number : ℕ)
      → Concatenating (wide_element high low total number) (record { width = 16; reference = number_of high low; total = total; number = number })

-- ---- an element that says nothing new
-- The octets of an element that says nothing new between the elements es and fs. "With several concatenation elements, of either width, only the last is
-- read; the earlier ones are skipped." "A repeated packet identifier of length 0 counts once." "Any other identifier is skipped" (01).
pub data NothingNew (es fs : List Item) : List ℕ → Type 0 where
  before_another : {c : List ℕ} {x : Concatenation} → Concatenating c x → any_of is_concatenation fs ≡ true → NothingNew es fs c
  there_already : (k : Kind) → own k (summary (es ++ fs)) ≡ true → NothingNew es fs (borne k true)
  other_identifier : (i : ℕ) (q : List ℕ) → is_concatenation (item i q) || is_identifier (item i q) ≡ false → NothingNew es fs (i ∷ length q ∷ q)

-- Such an element c stands between the header octets f and g, both of which can be read, and the user data stays within its bound. If f has no octets,
-- c stands in front of all elements.
pub record PutBetween (f c g o : List ℕ) : Type 0 where
  pub es : List Item
  pub fs : List Item
  pub front : elements f ≡ some es
  pub rest : elements g ≡ some fs
  pub nothing_new : NothingNew es fs c
  pub size : length (headed (f ++ (c ++ g)) o) ≤ most_user_data

-- the same outcome, but that the message's own octets begin n octets later
abbrev pub begins_later : ℕ → Outcome Brought → Outcome Brought
begins_later n (refused r) = refused r
begins_later n (gives (single start)) = gives (single (start + n))
begins_later n (gives (part key total number start)) = gives (part key total number (start + n))

-- It changes nothing but where the own octets begin: a refusal stays that refusal, and a part has its key, total and number.
abbrev pub ReadAsWithout : Type 0
ReadAsWithout = (k : Kind) (sender : ℕ) (f c g o : List ℕ) → PutBetween f c g o
    → read_message k sender (headed (f ++ (c ++ g)) o) ≡ begins_later (length c) (read_message k sender (headed (f ++ g) o))

-- So taking does not see it: answer, record, cells and output are the same.
abbrev pub TakenAsWithout : ℕ → Type 0
TakenAsWithout n = (s : State) (sender : ℕ) (f c g o : List ℕ) → PutBetween f c g o
    → take_message n s sender (headed (f ++ (c ++ g)) o) ≡ take_message n s sender (headed (f ++ g) o)

-- ---- a concatenation element behind all others
-- what the other elements say together, with this concatenation
abbrev pub saying : Concatenation → Seen → Seen
saying x s = record { wrong = s.wrong; concatenation = x; command = s.command; response = s.response }

-- It takes the place of the one that counted, if there was one: the lengths and the packet identifiers of the others, s, are judged as before; key,
-- total and number are those that it says, x. "If the last has an ignored total or number, there is none", whatever stands before it.
pub record Replaces (k : Kind) (sender start : ℕ) (x : Concatenation) (s : Seen) (outcome : Outcome Brought) : Type 0 where
  pub read_by_it : outcome ≡ judged k sender start (saying x s)
  pub ignored_is_none : ignored x ≡ true → outcome ≡ judged k sender start (saying no_concatenation s)

abbrev pub LastReplaces : Type 0
LastReplaces = (k : Kind) (sender : ℕ) (h c o : List ℕ) (x : Concatenation) (es : List Item)
    → elements h ≡ some es → Concatenating c x → length (headed (h ++ c) o) ≤ most_user_data
    → Replaces k sender (length (h ++ c) + 1) x (summary es) (read_message k sender (headed (h ++ c) o))
