-- From splitting to taking: each part that was written is read as that part, so the premises of the wake window hold of the parts.
use Prim.Native.Nat.{ℕ, zero, suc, ◌+◌, ◌-◌, ◌*◌, ◌≤◌, ◌<◌}
use mathlib.Core.Path.{◌≡◌, refl, sym, ap, ◌∙◌, subst}
use mathlib.Core.Bool.{true, false}
use mathlib.Core.List.{List, [], ◌∷◌, ◌++◌}
use native.Mathlib.Omega.{arith}
use lib.ListN.{length, get_or, drop, replicate, length-append, get_or-append}
use lib.Seq.{get_or_at}
use lib.Dec.{eqb}
use borrow.Author.Tests.{le-leb, ne_eqb}
use Rattle.octets.specs.Joined.{joined}
use Rattle.octets.specs.Tests.{clash, Same, same, other, same?}
use Rattle.types.specs.declared.Kind.{Kind}
use Rattle.types.specs.declared.Kind.TheVariants.{Command}
use Rattle.types.specs.Refusals as reading
use Rattle.packet.specs.Packets.{well_formed}
use Rattle.packet.proofs.PacketLaws.{formed_facts}
use Rattle.types.specs.declared.Key.{Key}
use Rattle.arrival.specs.Arrivals.{single, part}
use Rattle.arrival.specs.Page.{page_content, page_header, page_key, identifier_in_range}
use Rattle.arrival.specs.Keys.{of_pages, reference_fits}
use Rattle.series.specs.Calls.{Input, message, page, read, octets_of}
use Rattle.split.specs.Splitting as split
use Rattle.split.specs.Laws.{part_whole, pages_join, page_begins, page_ends}
use Rattle.split.proofs.PartLaws.{single_size, parts_join}
use Rattle.split.specs.ReadBack.{own_from, own_octets, read_single_page, read_page_lem, content_octets}
use Rattle.split.proofs.PartsReadBack.{read_single, single_octets, read_part}
use Rattle.sequences.specs.Lists.{concat, complete}
use Rattle.sequences.specs.Runs.{Slots, Call, Event}
use Rattle.sequences.specs.Timely.{InTime}
use Rattle.sequences.specs.Wake.{Cut, in_messages, in_pages, History, begin, follow, EachWith, Fair, Served, Start}
use Rattle.sequences.specs.Coming.{Comes}
use Rattle.sequences.specs.SplitTaken.{listed, Sent, Sending, Arrives, key_under, MessagesArrive, PagesArrive}
use Rattle.sequences.proofs.Lists.{concat_last}
use Rattle.sequences.proofs.Calls.{is_page}
use Rattle.sequences.proofs.Wake.{wake_window, packet_comes}

-- ---- lists of parts
pub length_listed : {A : Type 0} (f : ℕ → A) (t : ℕ) → length (listed f t) ≡ t
length_listed f zero = refl
length_listed f (suc t) = simp length-append (omega (arith, length_listed f t))

listed_at : {A : Type 0} (f : ℕ → A) (d : A) (t i : ℕ) → i < t → get_or (listed f t) i d ≡ f (suc i)
listed_at f d zero i l = absurd (omega arith)
listed_at f d (suc t) i l = go (listed_at f d t i) (same? i t)
  where
    go : (i < t → get_or (listed f t) i d ≡ f (suc i)) → Same i t → get_or (listed f t ++ (f (suc t) ∷ [])) i d ≡ f (suc i)
    go ih (same e p) = rw p (get_or_at (listed f t) (f (suc t)) [] d t (length_listed f t))
    go ih (other e p) = get_or-append (listed f t) (f (suc t) ∷ []) d i (omega (arith, length_listed f t)) ∙ ih (omega arith)

concat_listed : (f : ℕ → List ℕ) (t : ℕ) → concat (listed f t) ≡ joined f t
unfolding joined
concat_listed f zero = refl
concat_listed f (suc t) = concat_last (listed f t) (f (suc t)) ∙ rw (concat_listed f t)

-- ---- one argument for messages and pages
-- What is so of the t inputs that splitting writes: each is read as its part, with its own octets; together they are the packet, cut; and where
-- there is but one, it is read as a single message or page.
pub record Splits (k : Kind) (K : Key) (P : List ℕ) (t : ℕ) (octets : ℕ → List ℕ) (written : ℕ → Input) : Type 0 where
  pub from : ℕ → ℕ
  pub reads : (t ≡ 1 → ⊥) → (m : ℕ) → 1 ≤ m → m ≤ t → read k (written m) ≡ reading.gives (part K t m (from m))
  pub own : (m : ℕ) → drop (from m) (octets_of (written m)) ≡ octets m
  pub cut : well_formed k P ≡ true → Cut K P (listed octets t)
  pub alone_from : ℕ
  pub alone : t ≡ 1 → read k (written 1) ≡ reading.gives (single alone_from)
  pub alone_own : t ≡ 1 → drop alone_from (octets_of (written 1)) ≡ octets 1
  pub paged : is_page (written 1) ≡ of_pages K

module _ (n : ℕ) (pos : Slots n) (k : Kind) (K : Key) (P : List ℕ) (t : ℕ) (octets : ℕ → List ℕ) (written : ℕ → Input)
    (splits : Splits k K P t octets written) (two : 2 ≤ t) where
  sent_fair : (w : History) (c : Call) (total number start : ℕ) → read k c.input ≡ reading.gives (part K total number start) → Sent n t written w c total number start
      → Fair n k K P (listed octets t) InTime w c total number start
  sent_fair w c total number start e s =
      let from = splits.from in
      let z : reading.gives (part K t s.which (from s.which)) ≡ reading.gives (part K total number start) =
      sym (splits.reads (λ q. omega arith) s.which s.low s.high) ∙ ap (read k) (sym s.is) ∙ e in
      let t' : t ≡ total = cc in
      let m' : s.which ≡ number = cc in
      let f' : from s.which ≡ start = cc in
      let low = s.low in
      let high = s.high in
      record {
        counted = sym t' ∙ sym (length_listed octets t);
        brought = rw (← f', ← m') (ap (λ (i : Input). drop (from s.which) (octets_of i)) s.is ∙ splits.own s.which
            ∙ ap octets (omega arith) ∙ sym (listed_at octets [] t (s.which - 1) (omega arith)));
        few_others = s.few_others;
        in_time = s.in_time;
      }

  module _ (cells : List ℕ) (earlier calls : List Event) (s : Sending n k K P cells earlier calls) where
    abbrev w : History
    w = begin n k cells earlier

    module _ (sent : EachWith n k K t (Sent n t written) w calls) where
      starts : Start n k K P (listed octets t) InTime cells earlier calls
      starts = record {
        formed = s.formed;
        cut = splits.cut s.formed;
        two = omega (arith, length_listed octets t);
        size = s.size;
        before = s.before;
        proper = s.proper;
        lacks = s.lacks;
        fair = subst (λ (m : ℕ). EachWith n k K m (Fair n k K P (listed octets t) InTime) w calls) (sym (length_listed octets t))
            (λ u c v e total number start r o. sent_fair (follow n k K w u) c total number start r (sent u c v e total number start r o));
      }

      pub all_served : EachWith n k K (length (listed octets t)) (Served n k K P (listed octets t)) w calls
      all_served = wake_window n pos k K P (listed octets t) cells earlier calls starts

      pub it_comes : complete t (follow n k K w calls).arrived ≡ true → Comes n k K P (listed octets t) w calls
      it_comes all =
          packet_comes n pos k K P (listed octets t) cells earlier calls starts
          (subst (λ (m : ℕ). complete m (follow n k K w calls).arrived ≡ true) (sym (length_listed octets t)) all)

  arrives : Arrives n k K P t octets written
  arrives cells earlier calls s sent all = it_comes cells earlier calls s sent all

-- ---- messages
no_page : (width reference : ℕ) → reference_fits width reference ≡ true → eqb width 0 ≡ false
no_page width reference e = ne_eqb width 0 (λ z. clash false (sym (ap (λ (w : ℕ). reference_fits w reference) z) ∙ e) refl)

pub messages_split : (k : Kind) (sender width reference : ℕ) (P : List ℕ) → reference_fits width reference ≡ true → length P ≤ split.most_split width
    → Splits k (key_under sender width reference) P (split.parts width (length P)) (split.part_octets width P) (λ number. message sender (split.user_data k width reference P number))
messages_split k sender width reference P fits most = record {
  from = λ number. own_from k width reference P number;
  reads = λ several m low high. read_part k width reference P m sender fits most several low high;
  own = λ m. own_octets k width reference P m;
  cut = λ formed. in_messages (no_page width reference fits) (concat_listed (split.part_octets width P) (split.parts width (length P)) ∙ parts_join width P);
  alone_from = 3;
  alone = λ e. read_single k width reference P 1 sender e;
  alone_own = λ e. single_octets k width reference P 1 e ∙ sym (part_whole width P 1 (single_size width (length P) e));
  paged = sym (no_page width reference fits);
}

pub messages_arrive : (n : ℕ) → Slots n → MessagesArrive n
messages_arrive n pos k sender width reference P fits most two =
    arrives n pos k (key_under sender width reference) P (split.parts width (length P)) (split.part_octets width P)
    (λ number. message sender (split.user_data k width reference P number)) (messages_split k sender width reference P fits most) two

-- ---- pages
pub pages_split : (serial identifier : ℕ) (dcs : ℕ → ℕ) (P : List ℕ) → identifier_in_range identifier ≡ true → length P ≤ split.most_pages
    → Splits Command (page_key serial identifier) P (split.pages (length P)) (split.content_of P) (λ number. page (split.page_written serial identifier (dcs number) P number))
pages_split serial identifier dcs P inside most = record {
  from = λ number. page_header;
  reads = λ several m low high. read_page_lem serial identifier (dcs m) P m inside most low high several;
  own = λ m. content_octets serial identifier (dcs m) P m;
  cut = cut;
  alone_from = page_header;
  alone = λ e. read_single_page serial identifier (dcs 1) P 1 inside most (omega arith) (omega arith) e;
  alone_own = λ e. content_octets serial identifier (dcs 1) P 1;
  paged = refl;
}
  where
    cut : well_formed Command P ≡ true → Cut (page_key serial identifier) P (listed (split.content_of P) (split.pages (length P)))
    cut formed =
        let f = formed_facts Command P formed in
        let some : 1 ≤ length P = omega (arith, f.whole) in
        in_pages refl (replicate (page_content * split.pages (length P) - length P) 0x00) (concat_listed (split.content_of P) (split.pages (length P)) ∙ pages_join P)
        (rw (length_listed (split.content_of P) (split.pages (length P)), le-leb (page_content * (split.pages (length P) - 1) + 1) (length P) (page_begins (length P) some), le-leb (length P) (page_content * split.pages (length P)) (page_ends (length P))))

pub pages_arrive : (n : ℕ) → Slots n → PagesArrive n
pages_arrive n pos serial identifier dcs P inside most two =
    arrives n pos Command (page_key serial identifier) P (split.pages (length P)) (split.content_of P)
    (λ number. page (split.page_written serial identifier (dcs number) P number)) (pages_split serial identifier dcs P inside most) two
