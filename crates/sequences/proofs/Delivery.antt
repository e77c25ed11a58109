-- What splitting writes, brought in any order, hands out the packet: every call bears the key, so no other key comes between two of them, and
-- the premises of the wake window hold. A single message or page is handed out by itself.
use Prim.Native.Nat.{ℕ, ◌+◌, ◌≤◌, ◌<◌}
use mathlib.Core.Path.{◌≡◌, refl, sym, ap, ◌∙◌, subst}
use mathlib.Core.Bool.{Bool, true, false}
use mathlib.Core.List.{List, [], ◌∷◌, ◌++◌, append-nil}
use mathlib.Core.Logic.{⊎_elim}
use mathlib.Core.Option.{some}
use native.Mathlib.Nat.{eq-or-lt_of_le}
use native.Mathlib.Omega.{arith}
use lib.ListN.{length, drop}
use borrow.Author.Tests.{eq-eqb}
use Rattle.octets.specs.Octets.{Octets}
use Rattle.octets.specs.Tests.{clash, Same, same, other, same?}
use Rattle.types.specs.declared.Kind.{Kind}
use Rattle.types.specs.declared.Kind.TheVariants.{Command}
use Rattle.types.specs.Refusals as reading
use Rattle.packet.specs.Packets.{most_octets, well_formed}
use Rattle.packet.proofs.PacketLaws.{formed_facts}
use Rattle.types.specs.declared.Key.{Key}
use Rattle.arrival.specs.Arrivals.{Brought, single}
use Rattle.arrival.specs.Page.{page_key}
use Rattle.arrival.specs.Keys.{of_pages}
use Rattle.joined.specs.Fronts.{packet_in}
use Rattle.slots.specs.BelowLaws.{all_at, all_hold}
use Rattle.slots.specs.FrontLaws.{key_same}
use Rattle.cells.specs.Cells.{cells_size}
use Rattle.series.specs.CaseLaws.{Lacks}
use Rattle.series.specs.Taking.{State, After, state, packet, after, hand_out, taken}
use Rattle.series.specs.Calls.{Input, message, page, octets_of, read}
use Rattle.split.specs.Splitting as split
use Rattle.split.specs.Laws.{page_ends, message_given, page_given}
use Rattle.split.proofs.PartLaws.{some_part}
use Rattle.sequences.specs.Lists.{elem, add, complete}
use Rattle.sequences.specs.Runs.{Slots, Call, Event, takes, Store, fresh, outcome, run, Proper, Each}
use Rattle.sequences.specs.Wake.{Cut, History, begin, history_after, history_by, follow, EachWith}
use Rattle.sequences.specs.SplitTaken.{listed, key_under, Sent, Sending}
use Rattle.sequences.specs.Delivery.{Brings, nothing_more, next, InParts, Delivered, MessagesDelivered, PagesDelivered, MessagesWritten, PagesWritten}
use Rattle.sequences.proofs.Lists.{elem_add, elem_still}
use Rattle.sequences.proofs.Calls.{is_page, taking, kept_fresh}
use Rattle.sequences.proofs.Window.{packet_in_lem}
use Rattle.sequences.proofs.Wake.{admits}
use Rattle.sequences.proofs.Along.{All, each, Along, each_with}
use Rattle.sequences.proofs.SplitTaken.{Splits, all_served, it_comes, messages_split, pages_split}
use Rattle.sequences.proofs.Written.{user_data_octets, page_octets_lem}

first_or_later : {A : Type 0} (j m : ℕ) (order : List ℕ) → elem j (m ∷ order) ≡ true → (j ≡ m → A) → (elem j order ≡ true → A) → A
first_or_later {A} j m order e f g = go (same? j m)
  where
    go : Same j m → A
    go (same q p) = f p
    go (other q p) = g (simp q at e)

module _ (n : ℕ) (pos : Slots n) (k : Kind) (K : Key) (P : List ℕ) (t : ℕ) (octets : ℕ → List ℕ) (written : ℕ → Input)
    (splits : Splits k K P t octets written) (one : 1 ≤ t) (formed : well_formed k P ≡ true)
    (bytes : (m : ℕ) → 1 ≤ m → m ≤ t → Octets (octets_of (written m))) where
  all_proper : {order : List ℕ} {calls : List Event} → Brings t written order calls → All Proper calls
  all_proper nothing_more = tt
  all_proper (next m low high c is size rest) =
      (record { output = size; octets = subst (λ (i : Input). Octets (octets_of i)) (sym is) (bytes m low high) }, all_proper rest)

  -- ---- several
  module _ (several : t ≡ 1 → ⊥) where
    -- after a call that brings part m: m has come, and no other key since
    seen_part : (w : History) (m : ℕ) → 1 ≤ m → m ≤ t → (c : Call) → c.input ≡ written m
        → ((history_by n k K w (takes c)).arrived ≡ add m w.arrived) × ((history_by n k K w (takes c)).others_since ≡ []) × ((history_by n k K w (takes c)).beats_since ≡ [])
    seen_part w m low high c is =
        subst (λ (r : reading.Outcome Brought). ((history_after n k K w a r).arrived ≡ add m w.arrived) × ((history_after n k K w a r).others_since ≡ []) × ((history_after n k K w a r).beats_since ≡ [])) (sym (ap (read k) is ∙ splits.reads several m low high))
        (rw (key_same K K refl), rw (key_same K K refl), rw (key_same K K refl))
      where
        a : After
        a = outcome n w.store c

    all_sent : {order : List ℕ} {calls : List Event} → Brings t written order calls → (w : History) → w.others_since ≡ [] → w.beats_since ≡ [] → Along n k K t (Sent n t written) w calls
    all_sent nothing_more w z y = tt
    all_sent (next m low high c is size rest) w z y = (
      (λ total number start e o. record { which = m; low = low; high = high; is = is; few_others = λ ne. rw z pos.some; in_time = λ ne. rw y tt }),
      all_sent rest (history_by n k K w (takes c)) (seen_part w m low high c is).1 (seen_part w m low high c is).2,
    )

    -- what has come stays, and each number of the order has come in the end
    got_stays : {order : List ℕ} {calls : List Event} → Brings t written order calls → (w : History) (j : ℕ) → elem j w.arrived ≡ true → elem j (follow n k K w calls).arrived ≡ true
    got_stays nothing_more w j e = e
    got_stays (next m low high c is size rest) w j e =
        got_stays rest (history_by n k K w (takes c)) j (ap (elem j) (seen_part w m low high c is).0 ∙ elem_still m j w.arrived e)

    got_all : {order : List ℕ} {calls : List Event} → Brings t written order calls → (w : History) (j : ℕ) → elem j order ≡ true → elem j (follow n k K w calls).arrived ≡ true
    got_all nothing_more w j e = absurd (clash false e refl)
    got_all (next {order = order} m low high c is size rest) w j e =
        first_or_later j m order e
        (λ p. got_stays rest (history_by n k K w (takes c)) j (ap (elem j) (seen_part w m low high c is).0 ∙ elem_add m j w.arrived ∙ rw (eq-eqb j m p)))
        (λ f. got_all rest (history_by n k K w (takes c)) j f)

    module _ (cells : List ℕ) (earlier : List Event) (size : length cells ≡ cells_size n) (before : Each Proper earlier)
        (lacks : Lacks n (run n (fresh n k cells) earlier).rec.slots K) where
      abbrev w : History
      w = begin n k cells earlier

      in_parts : (order : List ℕ) (calls : List Event) → Brings t written order calls → complete t order ≡ true → InParts n k K P t octets written w calls
      in_parts order calls brings all =
          let s : Sending n k K P cells earlier calls =
          record { formed = formed; size = size; before = before; proper = each Proper calls (all_proper brings); lacks = lacks } in
          let sent : EachWith n k K t (Sent n t written) w calls = each_with n k K t (Sent n t written) calls w (all_sent brings w refl refl) in
          record {
            answered = all_served n pos k K P t octets written splits (below one) cells earlier calls s sent;
            comes = it_comes n pos k K P t octets written splits (below one) cells earlier calls s sent
                (all_hold t (λ i. elem (i + 1) (follow n k K w calls).arrived) (λ i l. got_all brings w (i + 1) (all_at t (λ i. elem (i + 1) order) all i l)));
          }
        where
          below : 1 ≤ t → 2 ≤ t
          below l = ⊎_elim (λ (q : 1 ≡ t). absurd (several (sym q))) (λ (q : 1 < t). q) (eq-or-lt_of_le l)

  -- ---- one
  module _ (cells : List ℕ) (earlier : List Event) (size : length cells ≡ cells_size n) (before : Each Proper earlier) where
    abbrev st : Store
    st = run n (fresh n k cells) earlier

    at_once : t ≡ 1 → (c : Call) → c.input ≡ written 1 → length c.output ≡ most_octets
        → outcome n st c ≡ after (packet (length P)) st.rec st.cells (P ++ drop (length P) c.output)
    at_once e c is lent =
        let kept = kept_fresh n pos k (admits k) cells size earlier before in
        let s : State = state st.rec st.cells c.output in
        let reads : read st.rec.kind c.input ≡ reading.gives (single splits.alone_from) =
        ap (λ (x : Kind). read x c.input) kept.kind ∙ ap (read k) is ∙ splits.alone e in
        let holds : packet_in st.rec.kind (is_page c.input) 1 (drop splits.alone_from (octets_of c.input)) ≡ some P =
        ap (λ (x : Kind). packet_in x (is_page c.input) 1 (drop splits.alone_from (octets_of c.input))) kept.kind
        ∙ ap (λ (i : Input). packet_in k (is_page i) 1 (drop splits.alone_from (octets_of i))) is
        ∙ ap (λ (b : Bool). packet_in k b 1 (drop splits.alone_from (octets_of (written 1)))) splits.paged
        ∙ ap (packet_in k (of_pages K) 1) (splits.alone_own e) ∙ whole e in
        taking n s kept.sound lent c.input ∙ ap (taken n s (is_page c.input) (octets_of c.input)) reads ∙ ap (hand_out s st.rec) holds
      where
        whole : t ≡ 1 → packet_in k (of_pages K) 1 (octets 1) ≡ some P
        whole e =
            ap (packet_in k (of_pages K) 1) (sym (append-nil (octets 1)))
            ∙ packet_in_lem k K P (listed octets 1) formed (subst (λ (m : ℕ). Cut K P (listed octets m)) e (splits.cut formed))

  delivered : Delivered n k K P t octets written
  delivered cells earlier size before = record {
    at_once = at_once cells earlier size before;
    in_parts = λ several lacks. in_parts several cells earlier size before lacks;
  }

-- ---- messages and pages
pub messages_delivered : (n : ℕ) → Slots n → MessagesDelivered n
messages_delivered n pos k sender width reference P octets formed fits most =
    delivered n pos k (key_under sender width reference) P (split.parts width (length P)) (split.part_octets width P)
    (λ number. message sender (split.user_data k width reference P number)) (messages_split k sender width reference P fits most) (some_part width (length P)) formed
    (λ m low high. user_data_octets k width reference P m fits most high octets)

pub pages_delivered : (n : ℕ) → Slots n → PagesDelivered n
pages_delivered n pos serial identifier dcs P small each-dcs octets formed inside most =
    let f = formed_facts Command P formed in
    delivered n pos Command (page_key serial identifier) P (split.pages (length P)) (split.content_of P)
    (λ number. page (split.page_written serial identifier (dcs number) P number)) (pages_split serial identifier dcs P inside most) (omega (arith, f.whole, page_ends (length P))) formed
    (λ m low high. page_octets_lem serial identifier (dcs m) P m small inside (each-dcs m) most high octets)

-- ---- what writing gives
pub messages_written : MessagesWritten
unfolding split.write_message
messages_written k width reference P formed fits most number low high buffer lent =
    ap (λ (o : reading.Outcome split.Piece). split.writes_part o buffer) (message_given k width reference P number buffer lent fits formed most low high)

pub pages_written : PagesWritten
unfolding split.write_page
pages_written serial identifier dcs P formed inside most number low high buffer lent =
    ap (λ (o : reading.Outcome split.Piece). split.writes_part o buffer) (page_given serial identifier dcs P number buffer lent inside formed most low high)
