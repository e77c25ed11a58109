-- From splitting to taking, with no premise on the calls: from any store that calls from a fresh record lead to, what splitting writes of a
-- packet, brought in any order in which each number occurs, repeats allowed and nothing between, hands out the packet.
use Rattle.std.specs.Prelude.{ℕ, ◌≤◌, ◌<◌, ◌≡◌, true, List, [], ◌∷◌, ◌++◌, length, drop}
use Rattle.octets.specs.Octets.{Octets}
use Rattle.types.specs.declared.Kind.{Kind}
use Rattle.types.specs.declared.Kind.TheVariants.{Command}
use Rattle.types.specs.Refusals.{gives}
use Rattle.packet.specs.Packets.{most_octets, well_formed}
use Rattle.types.specs.declared.Key.{Key}
use Rattle.arrival.specs.Message.{most_user_data}
use Rattle.arrival.specs.Page.{page_octets, page_key, identifier_in_range}
use Rattle.arrival.specs.Keys.{reference_fits}
use Rattle.cells.specs.Cells.{cells_size}
use Rattle.series.specs.Taking.{packet, after}
use Rattle.series.specs.CaseLaws.{Lacks}
use Rattle.series.specs.Calls.{Input, message, page}
use Rattle.split.specs.Splitting as split
use Rattle.sequences.specs.Lists.{complete}
use Rattle.sequences.specs.Runs.{Call, Event, takes, fresh, outcome, run, Proper, Each}
use Rattle.sequences.specs.Wake.{History, begin, EachWith, Served}
use Rattle.sequences.specs.Coming.{Comes}
use Rattle.sequences.specs.SplitTaken.{listed, key_under}

-- The calls bring, in this order, the inputs that were written under these numbers, and nothing else; each lends an output of 01's length.
pub data Brings (t : ℕ) (written : ℕ → Input) : List ℕ → List Event → Type 0 where
  nothing_more : Brings t written [] []
  next : {order : List ℕ} {calls : List Event} (number : ℕ) → 1 ≤ number → number ≤ t → (c : Call) → c.input ≡ written number
      → length c.output ≡ most_octets → Brings t written order calls → Brings t written (number ∷ order) (takes c ∷ calls)

module _ (n : ℕ) (k : Kind) (K : Key) (P : List ℕ) (t : ℕ) (octets : ℕ → List ℕ) (written : ℕ → Input) where
  -- each call is answered exactly as the wake window says, and the packet comes at the one that brings the last missing part
  pub record InParts (w : History) (calls : List Event) : Type 0 where
    pub answered : EachWith n k K (length (listed octets t)) (Served n k K P (listed octets t)) w calls
    pub comes : Comes n k K P (listed octets t) w calls

  -- One input: the packet comes at once, record and cells as they were, the rest of the output too. Several: if the key is not held, in parts.
  pub record Delivers (cells : List ℕ) (earlier : List Event) : Type 0 where
    pub at_once : t ≡ 1 → (c : Call) → c.input ≡ written 1 → length c.output ≡ most_octets
        → outcome n (run n (fresh n k cells) earlier) c
        ≡ after (packet (length P)) (run n (fresh n k cells) earlier).rec (run n (fresh n k cells) earlier).cells (P ++ drop (length P) c.output)
    pub in_parts : (t ≡ 1 → ⊥) → Lacks n (run n (fresh n k cells) earlier).rec.slots K → (order : List ℕ) (calls : List Event)
        → Brings t written order calls → complete t order ≡ true → InParts (begin n k cells earlier) calls

  abbrev pub Delivered : Type 0
  Delivered = (cells : List ℕ) (earlier : List Event) → length cells ≡ cells_size n → Each Proper earlier → Delivers cells earlier

-- every packet that can be split into user data, for either kind and either width
abbrev pub MessagesDelivered : ℕ → Type 0
MessagesDelivered n =
    (k : Kind) (sender width reference : ℕ) (P : List ℕ) → Octets P → well_formed k P ≡ true → reference_fits width reference ≡ true
    → length P ≤ split.most_split width
    → Delivered n k (key_under sender width reference) P (split.parts width (length P)) (split.part_octets width P)
    (λ number. message sender (split.user_data k width reference P number))

-- These octets are what writing gives: each number up to the total is answered with the total and the length, and stands at the start of the
-- lent buffer, whose rest stays.
abbrev pub MessagesWritten : Type 0
MessagesWritten =
    (k : Kind) (width reference : ℕ) (P : List ℕ) → well_formed k P ≡ true → reference_fits width reference ≡ true → length P ≤ split.most_split width
    → (number : ℕ) → 1 ≤ number → number ≤ split.parts width (length P) → (buffer : List ℕ) → length buffer ≡ most_user_data
    → split.write_message k width reference P number buffer
    ≡ split.writes_part (gives (record { total = split.parts width (length P); octets = split.user_data k width reference P number })) buffer

-- and into pages, each with any DCS
abbrev pub PagesDelivered : ℕ → Type 0
PagesDelivered n =
    (serial identifier : ℕ) (dcs : ℕ → ℕ) (P : List ℕ) → serial < 65536 → ((number : ℕ) → dcs number < 256) → Octets P → well_formed Command P ≡ true
    → identifier_in_range identifier ≡ true → length P ≤ split.most_pages
    → Delivered n Command (page_key serial identifier) P (split.pages (length P)) (split.content_of P)
    (λ number. page (split.page_written serial identifier (dcs number) P number))

abbrev pub PagesWritten : Type 0
PagesWritten =
    (serial identifier dcs : ℕ) (P : List ℕ) → well_formed Command P ≡ true → identifier_in_range identifier ≡ true → length P ≤ split.most_pages
    → (number : ℕ) → 1 ≤ number → number ≤ split.pages (length P) → (buffer : List ℕ) → length buffer ≡ page_octets
    → split.write_page serial identifier dcs P number buffer
    ≡ split.writes_part (gives (record { total = split.pages (length P); octets = split.page_written serial identifier dcs P number })) buffer
