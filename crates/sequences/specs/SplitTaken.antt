-- From splitting to taking: what is written by splitting, taken in any order under the premises of the wake window, hands out the packet.
use Rattle.std.specs.Prelude.{ℕ, zero, suc, ◌≤◌, ◌<◌, ◌≡◌, true, List, [], ◌∷◌, ◌++◌, length}
use Rattle.types.specs.declared.Kind.{Kind}
use Rattle.types.specs.declared.Kind.TheVariants.{Command}
use Rattle.packet.specs.Packets.{well_formed}
use Rattle.types.specs.declared.Key.{Key}
use Rattle.arrival.specs.Message.{message_key}
use Rattle.arrival.specs.Page.{page_key, identifier_in_range}
use Rattle.arrival.specs.Keys.{reference_fits}
use Rattle.cells.specs.Cells.{cells_size}
use Rattle.series.specs.CaseLaws.{Lacks}
use Rattle.series.specs.Calls.{Input, message, page}
use Rattle.split.specs.Splitting as split
use Rattle.sequences.specs.Lists.{complete}
use Rattle.sequences.specs.Runs.{Call, Event, fresh, run, Proper, Each}
use Rattle.sequences.specs.Timely.{InTime}
use Rattle.sequences.specs.Wake.{History, begin, follow, EachWith}
use Rattle.sequences.specs.Coming.{Comes}

-- f 1, f 2, .. f t
abbrev pub listed : {A : Type 0} → (ℕ → A) → ℕ → List A
listed f zero = []
listed f (suc m) = listed f m ++ (f (suc m) ∷ [])

-- A call with the key, while parts are missing, brings one of the t inputs that were written, with few other keys and no beat too late in between.
pub record Sent (n t : ℕ) (written : ℕ → Input) (w : History) (c : Call) (total number start : ℕ) : Type 0 where
  pub which : ℕ
  pub low : 1 ≤ which
  pub high : which ≤ t
  pub is : c.input ≡ written which
  pub few_others : (w.arrived ≡ [] → ⊥) → length w.others_since < n
  pub in_time : (w.arrived ≡ [] → ⊥) → InTime w.beats_since

-- any calls before, from a fresh record, after which the key is not held
pub record Sending (n : ℕ) (k : Kind) (K : Key) (P : List ℕ) (cells : List ℕ) (earlier calls : List Event) : Type 0 where
  pub formed : well_formed k P ≡ true
  pub size : length cells ≡ cells_size n
  pub before : Each Proper earlier
  pub proper : Each Proper calls
  pub lacks : Lacks n (run n (fresh n k cells) earlier).rec.slots K

-- the packet comes, with all t inputs among the calls
abbrev pub Arrives : (n : ℕ) (k : Kind) (K : Key) (P : List ℕ) (t : ℕ) (octets : ℕ → List ℕ) (written : ℕ → Input) → Type 0
Arrives n k K P t octets written =
    (cells : List ℕ) (earlier calls : List Event) → Sending n k K P cells earlier calls
    → EachWith n k K t (Sent n t written) (begin n k cells earlier) calls
    → complete t (follow n k K (begin n k cells earlier) calls).arrived ≡ true
    → Comes n k K P (listed octets t) (begin n k cells earlier) calls

-- user data, for either kind and either width
abbrev pub key_under : ℕ → ℕ → ℕ → Key
key_under sender width reference = message_key sender (record { width = width; reference = reference; total = 0; number = 0 })

abbrev pub MessagesArrive : ℕ → Type 0
MessagesArrive n =
    (k : Kind) (sender width reference : ℕ) (P : List ℕ) → reference_fits width reference ≡ true → length P ≤ split.most_split width
    → 2 ≤ split.parts width (length P)
    → Arrives n k (key_under sender width reference) P (split.parts width (length P)) (split.part_octets width P)
    (λ number. message sender (split.user_data k width reference P number))

-- pages, each with any DCS
abbrev pub PagesArrive : ℕ → Type 0
PagesArrive n =
    (serial identifier : ℕ) (dcs : ℕ → ℕ) (P : List ℕ) → identifier_in_range identifier ≡ true → length P ≤ split.most_pages → 2 ≤ split.pages (length P)
    → Arrives n Command (page_key serial identifier) P (split.pages (length P)) (split.content_of P)
    (λ number. page (split.page_written serial identifier (dcs number) P number))
