-- What user data brings (01, "User data header", "Numbers of refusal"): 2, 3, 4, 5, 6 in this order.
use Rattle.std.specs.Prelude.{ℕ, ◌+◌, List, Bool, cond, ◌||◌, length, get_or, take, drop, eqb, ltb, leb}
use Rattle.std.proofs.Math.Option.{Option, none, some}
use Rattle.types.specs.declared.Kind.{Kind}
use Rattle.types.specs.declared.Kind.TheVariants.{Command, Response}
use Rattle.types.specs.Refusals.{Outcome, refused, gives, refuse◌when◌otherwise◌}
use Rattle.packet.specs.Packets.{differ}
use Rattle.types.specs.declared.Key.{Key}
use Rattle.header.specs.declared.Concatenation.{Concatenation}
use Rattle.header.specs.declared.Seen.{Seen}
use Rattle.arrival.specs.Arrivals.{Brought, single, part}
use Rattle.header.specs.Header.{Item, elements, summary}

-- "User data: 0 to 140 octets, beginning with the header length UDHL."
abbrev pub most_user_data : ℕ
most_user_data = 140

abbrev pub udhl : List ℕ → ℕ
udhl ud = get_or ud 0 0

-- the octets that UDHL counts, and where the octets after the header begin
abbrev pub header_octets : List ℕ → List ℕ
header_octets ud = take (udhl ud) (drop 1 ud)

abbrev pub after_header : List ℕ → ℕ
after_header ud = udhl ud + 1

-- "Total 0, number 0 or number above total: the concatenation element is ignored as if absent." Of several it is the last that is looked at: "if
-- the last has an ignored total or number, there is none" (02, [2]).
abbrev pub ignored : Concatenation → Bool
ignored c = eqb c.total 0 || eqb c.number 0 || ltb c.total c.number

-- "Total 1 with number 1 is a single message"; so is one whose concatenation element is ignored.
abbrev pub alone : Concatenation → Bool
alone c = ignored c || eqb c.total 1

-- the record's packet identifier is there, and the other kind's
abbrev pub own : Kind → Seen → Bool
own Command s = s.command
own Response s = s.response

abbrev pub foreign : Kind → Seen → Bool
foreign Command s = s.response
foreign Response s = s.command

-- "A single message and part 1 must bear the record's packet identifier, later parts must not, and the other kind's identifier is never
-- admitted."
abbrev pub opens : Concatenation → Bool
opens c = alone c || eqb c.number 1

abbrev pub misplaced : Kind → Seen → Bool
misplaced k s = foreign k s || differ (opens s.concatenation) (own k s)

-- "Key: for short messages sender, reference width and reference"
abbrev pub message_key : ℕ → Concatenation → Key
message_key sender c = record { sender = sender; width = c.width; reference = c.reference; serial = record { 0 = 0 }; identifier = record { 0 = 0 } }

-- 6: "total above 16"
abbrev pub most_parts : ℕ
most_parts = 16

-- what a header says of the message, its own octets beginning at `start`: 4, 5, 6
unfoldable pub judged : Kind → ℕ → ℕ → Seen → Outcome Brought
judged k sender start s =
    refuse 4 when s.wrong otherwise
    refuse 5 when misplaced k s otherwise
    cond (alone s.concatenation)
    (gives (single start))
    (refuse 6 when ltb most_parts s.concatenation.total otherwise
    gives (part (message_key sender s.concatenation) s.concatenation.total s.concatenation.number start))

-- 3: an element past the header's end
abbrev pub where_read : {A : Type 0} → (List Item → Outcome A) → Option (List Item) → Outcome A
where_read f none = refused 3
where_read f (some es) = f es

-- 2: "user data over 140 octets"; 3: "empty user data, UDHL not below the user data's length" (of empty user data neither is)
unfoldable pub read_message : Kind → ℕ → List ℕ → Outcome Brought
read_message k sender ud =
    refuse 2 when ltb most_user_data (length ud) otherwise
    refuse 3 when leb (length ud) (udhl ud) otherwise
    where_read (λ es. judged k sender (after_header ud) (summary es)) (elements (header_octets ud))
