-- A log passes the test exactly if calls and beats can make it. That one that passes can be made: its parts are brought in its own order (`LogFilled`), and then
-- its series are brought into their order of recency, with their counts (`LogNoted`).
use Prim.Native.Nat.{ℕ, zero, suc, ◌+◌, ◌*◌, ◌≤◌, ◌<◌}
use mathlib.Core.Path.{◌≡◌, refl, sym, ap, ◌∙◌, subst}
use mathlib.Core.Bool.{Bool, true, false, not, cond, ◌&&◌}
use mathlib.Core.List.{List, [], ◌∷◌, ◌++◌}
use mathlib.Core.Option.{Option, none, some}
use native.Mathlib.Omega.{arith}
use lib.ListN.{length, get_or, take, drop, replicate, length-take, length-drop, length-replicate}
use lib.Dec.{eqb, leb}
use borrow.Author.Tests.{eq-eqb, leb-true, le-leb}
use Rattle.octets.specs.Octets.{Octets, same_octets}
use Rattle.octets.specs.Tests as tests
use Rattle.octets.specs.Tests.{clash, both, same?, by_test}
use Rattle.types.specs.Refusals as reading
use Rattle.types.specs.Refusals.{refuse◌when◌otherwise◌}
use Rattle.types.specs.declared.Kind.{Kind}
use Rattle.types.specs.declared.Key.{Key}
use Rattle.packet.specs.Packets.{most_octets}
use Rattle.arrival.specs.Arrivals.{Brought, single, part}
use Rattle.arrival.specs.Keys.{of_pages}
use Rattle.joined.specs.Fronts.{packet_in}
use Rattle.slots.specs.BelowLaws.{all_fails}
use Rattle.slots.specs.Slots.{is_slot_number}
use Rattle.formed.specs.Laws.{number_tells}
use Rattle.series.specs.KeepLaws.{short}
use Rattle.series.specs.Taking.{kept, held_already, refused_by}
use Rattle.series.specs.Calls.{Input, octets_of, read}
use Rattle.types.specs.declared.Log.{Log}
use Rattle.plain.specs.Entries.{Entry, entry_head, entry_octets, most_entries, log_octets, entry_in, log_entry_at, entries_from, state_in, LogState}
use Rattle.plain.specs.Log.{first_entry, is_some, has_entry, has_key, is_part, of_rank, free_from, without, touch, close, result_of, log_hand_out, new_entry, log_complete, whole, in_part, new_series, for_series, log_take_part, log_dropped}
use Rattle.plain.specs.Engine.{AfterLog, against, all_of, entry_formed, none_twice, log_formed, state_formed, log_taken, log_take_input, leaves_log_beat, log_beat}
use Rattle.plain.specs.Same.{All, nil, cons, Once, once_more}
use Rattle.plain.specs.Walks.{is_part_lem, part_is, all_weaker, none_all, all_and}
use Rattle.plain.specs.FormedLaws.{log_formed_lem, entry_room}
use Rattle.series.specs.CallLaws.{is_page}
use Rattle.plain.specs.Equal.{plain_comes}
use Rattle.plain.specs.Tells.{Ok, log_formed_tells, agreeing, differing}
use Rattle.sequences.specs.Runs.{Slots}
use Rattle.sequences.specs.Reachable.{KeyFits, Possible, Exactly}
use Rattle.engines.specs.Plain.{EntryInType, LogMadeIn, LogNeverMade, LogAcceptance}
use Rattle.sequences.proofs.Along.{each, all_of_lem}
use Rattle.sequences.proofs.Filler.{spare}
use Rattle.sequences.proofs.Written.{octets_small, take_small, drop_small, small_octets}
use Rattle.sequences.proofs.NeverMade.{by_one, answers_one, read_other}
use Rattle.engines.proofs.LogReach.{Bringable, Reach, reach_none, known}
use Rattle.engines.proofs.LogShape.{all_split, has_front}
use Rattle.engines.proofs.LogFilled.{Apart, Next, grow}
use Rattle.engines.proofs.LogNoted.{make_noted}

-- ---- a sender that no entry has
sender_at : List Entry → ℕ → ℕ
sender_at [] j = 0
sender_at (e ∷ T) zero = e.key.sender
sender_at (e ∷ T) (suc j) = sender_at T j

no_sender : (s : ℕ) (T : List Entry) → ((j : ℕ) → j < length T → sender_at T j ≡ s → ⊥) → All (λ e. e.key.sender ≡ s → ⊥) T
unfolding sender_at
no_sender s [] f = nil
no_sender s (e ∷ T) f = cons (f 0 (omega arith)) (no_sender s T (λ j l. f (suc j) (omega arith)))

-- ---- a part that is there once is not before itself
once_front : (P : List Entry) (e : Entry) (S : List Entry) → Once (P ++ e ∷ S) → has_entry (is_part e.slot e.number) P ≡ false
unfolding first_entry
once_front [] e S o = refl
once_front (x ∷ P) e S (once_more h o) = go (is_part e.slot e.number x) refl (once_front P e S o)
  where
    later : is_part x.slot x.number e ≡ false
    later = (all_split (λ y. is_part x.slot x.number y ≡ false) P e S (none_all (is_part x.slot x.number) (P ++ e ∷ S) h)).1

    go : (b : Bool) → is_part e.slot e.number x ≡ b → has_entry (is_part e.slot e.number) P ≡ false → is_some (cond b (some x) (first_entry (is_part e.slot e.number) P)) ≡ false
    go true q ih =
        let (a, c) = is_part_lem e.slot e.number x q in absurd (clash (is_part x.slot x.number e) (part_is x.slot x.number e (sym a) (sym c)) later)
    go false q ih = ih

of_formed : (n : ℕ) (k : Kind) (T : List Entry) → log_formed n k T ≡ true → Slots n
unfolding log_formed
of_formed n k T formed =
    let (a, b) = both (is_slot_number n && all_of (entry_formed n k T) T) (none_twice T) formed in
    let (low, high) = number_tells n (both (is_slot_number n) (all_of (entry_formed n k T) T) a).0 in record { some = low; most = high }

module _ (n : ℕ) (k : Kind) (T : List Entry) (formed : log_formed n k T ≡ true) (few : length T ≤ most_entries) (types : All EntryInType T) where
  ok : All (Ok n k T) T
  ok = (log_formed_tells n k T formed).0

  good : Slots n
  good = of_formed n k T formed

  brought : (e : Entry) → Ok n k T e → EntryInType e → Bringable k e.key e.total e.number e.octets
  brought e o t = record {
    small = octets_small e.octets t.octets;
    fits = t.key;
    key_formed_lem = o.key;
    total_fits_lem = o.total;
    low = o.low;
    high = o.high;
    length_fits_lem = rw (← t.size) o.length;
  }

  module _ (s : ℕ) (strangers : All (λ e. e.key.sender ≡ s → ⊥) T) (lent : List ℕ) (long : length lent ≡ log_octets) where
    next : (Q : List Entry) (e : Entry) (R : List Entry) → T ≡ Q ++ e ∷ R → Next n good k lent long s Q e
    next Q e R q =
        let (qok, eok, rok) = all_split (Ok n k T) Q e R (subst (All (Ok n k T)) q ok) in
        let (qt, et, rt) = all_split EntryInType Q e R (subst (All EntryInType) q types) in
        let (qs, es, rs) = all_split (λ e. e.key.sender ≡ s → ⊥) Q e R (subst (All (λ e. e.key.sender ≡ s → ⊥)) q strangers) in
        record {
          inside = eok.inside;
          brought = brought e eok et;
          long_as = et.size;
          apart = all_weaker (λ x. against e x ≡ false) (Apart n good k lent long e) Q
              (all_split (λ x. against e x ≡ false) Q e R (none_all (against e) (Q ++ e ∷ R) (subst (λ (z : List Entry). has_entry (against e) z ≡ false) q eok.alone))).0
              (λ x h. record { same_series = λ p. ((agreeing e x h p).key, (agreeing e x h p).total); other_key = λ z. one_key x h z (same? x.slot e.slot) });
          new = once_front Q e R (subst Once q (log_formed_tells n k T formed).1);
          lacks = lacking eok;
          strange = es;
          strangers = qs;
        }
      where
        one_key : (x : Entry) → against e x ≡ false → x.key ≡ e.key → tests.Same x.slot e.slot → x.slot ≡ e.slot
        one_key x h z (tests.same t p) = p
        one_key x h z (tests.other t ne) = absurd ((differing e x h ne).key z)

        lacking : Ok n k T e → (j : ℕ) × (j < e.total) × (j + 1 ≡ e.number → ⊥) × (has_entry (is_part e.slot (j + 1)) Q ≡ false)
        lacking o =
            let (j, l, h) = all_fails e.total (λ j. has_entry (is_part e.slot (j + 1)) T) o.lacks in
            let h' : has_entry (is_part e.slot (j + 1)) (Q ++ e ∷ R) ≡ false = subst (λ (z : List Entry). has_entry (is_part e.slot (j + 1)) z ≡ false) q h in
            let here : is_part e.slot (j + 1) e ≡ false = (all_split (λ x. is_part e.slot (j + 1) x ≡ false) Q e R (none_all (is_part e.slot (j + 1)) (Q ++ e ∷ R) h')).1 in
            (j, l, (λ z. clash (is_part e.slot (j + 1) e) (part_is e.slot (j + 1) e refl (sym z)) here), has_front (is_part e.slot (j + 1)) Q (e ∷ R) h')

    reached : s < 4294967296 → Reach n good k lent long T
    reached small =
        let (L, m) = grow n good k lent long s small T [] [] (record { reach = reach_none n good k lent long; shape = refl; zeros = nil }) next in
        make_noted n good k lent long T ok (all_weaker (λ e. Ok n k T e × EntryInType e) (λ e. Bringable k e.key e.total e.number e.octets) T (all_and (Ok n k T) EntryInType T ok types) (λ e q. brought e q.0 q.1)) L m.reach m.shape m.zeros

  made : (lent : List ℕ) → length lent ≡ log_octets → LogMadeIn n k lent T
  made lent long =
      let (s, top, new) = spare (length T) (sender_at T) in
      let r = reached s (no_sender s T new) lent long (omega arith) in
      record { events = r.events; possible = each Possible r.events r.possible; lead = r.lead }

-- ---- what calls lead to passes
reach_of : (n : ℕ) (k : Kind) (log : List Entry) (good : Slots n) (lent : List ℕ) (long : length lent ≡ log_octets) → LogMadeIn n k lent log → Reach n good k lent long log
reach_of n k log good lent long m = record { events = m.events; possible = all_of_lem Possible m.events m.possible; lead = m.lead }

made_formed : (n : ℕ) (k : Kind) (log : List Entry) → Slots n → (lent : List ℕ) → length lent ≡ log_octets → LogMadeIn n k lent log
    → (log_formed n k log ≡ true) × (length log ≤ 75)
made_formed n k log good lent long m =
    let (xs, cells, w, h) = known n good k lent long log (reach_of n k log good lent long m) in
    (log_formed_lem n k xs cells log w h, omega (arith, entry_room n k xs cells log w h, good.most))

-- ---- what octets say
-- of an entry: its part is as long as is noted, if there is room for so many
record Decoded (e : Entry) : Type 0 where
  key : KeyFits e.key
  octets : Octets e.octets
  size : e.size ≤ 134 → e.size ≡ length e.octets

decoded : (o : List ℕ) → Octets o → length o ≡ entry_octets → Decoded (entry_in o)
decoded o b l = record {
  key = record { sender = omega (arith, b 3, b 4, b 5, b 6); serial = omega (arith, b 10, b 11) };
  octets = small_octets (take_small (get_or o 16 0) (drop_small entry_head (octets_small o b)));
  size = λ m. simp (length-take, length-drop) (omega arith);
}

all_decoded : (lent : List ℕ) → Octets lent → length lent ≡ log_octets → (m i : ℕ) → i + m ≤ most_entries → All Decoded (entries_from lent i m)
unfolding entries_from log_entry_at
all_decoded lent b long zero i l = nil
all_decoded lent b long (suc m) i l =
    cons (decoded (take entry_octets (drop (i * entry_octets) lent)) (small_octets (take_small entry_octets (drop_small (i * entry_octets) (octets_small lent b)))) (simp (length-take, length-drop) (omega arith)))
    (all_decoded lent b long m (suc i) (omega arith))

entries_count : (lent : List ℕ) (m i : ℕ) → length (entries_from lent i m) ≡ m
unfolding entries_from
entries_count lent zero i = refl
entries_count lent (suc m) i = ap suc (entries_count lent m (suc i))

-- a log in lent octets that passes
state_made : (l : Log) (lent : List ℕ) → Octets lent → length lent ≡ log_octets → state_formed (state_in l lent) ≡ true → LogMadeIn l.slots l.kind lent (state_in l lent).log
unfolding state_formed
state_made l lent b long h =
    let log : List Entry = (state_in l lent).log in
    let (h₁, formed) = both (eqb (length lent) log_octets && leb (length (state_in l lent).log) most_entries) (log_formed l.slots l.kind (state_in l lent).log) h in
    let few : length (state_in l lent).log ≤ most_entries = leb-true (length (state_in l lent).log) most_entries (both (eqb (length lent) log_octets) (leb (length (state_in l lent).log) most_entries) h₁).1 in
    let ok = (log_formed_tells l.slots l.kind (state_in l lent).log formed).0 in
    let decode = all_decoded lent b long l.count 0 (omega (arith, few, entries_count lent l.count 0)) in
    made l.slots l.kind (state_in l lent).log formed few
    (all_weaker (λ e. Ok l.slots l.kind (state_in l lent).log e × Decoded e) EntryInType (state_in l lent).log (all_and (Ok l.slots l.kind (state_in l lent).log) Decoded (state_in l lent).log ok decode)
    (λ e q. record { key = q.1.key; octets = q.1.octets; size = q.1.size (short e.key e.number e.size q.0.length) })) lent long

-- and one that was made passes
made_state : (l : Log) (lent : List ℕ) → length lent ≡ log_octets → Slots l.slots → LogMadeIn l.slots l.kind lent (state_in l lent).log → state_formed (state_in l lent) ≡ true
unfolding state_formed
made_state l lent long good m =
    let (formed, few) = made_formed l.slots l.kind (state_in l lent).log good lent long m in
    rw (eq-eqb (length lent) log_octets long, le-leb (length (state_in l lent).log) most_entries (omega (arith, few)), formed)

slots_of : (l : Log) (lent : List ℕ) → state_formed (state_in l lent) ≡ true → Slots l.slots
unfolding state_formed
slots_of l lent h = of_formed l.slots l.kind (state_in l lent).log (both (eqb (length lent) log_octets && leb (length (state_in l lent).log) most_entries) (log_formed l.slots l.kind (state_in l lent).log) h).1

-- ---- the calls: a log that passes is not refused 1, and another is
handed_other : (log : List Entry) (output : List ℕ) (o : Option (List ℕ)) → answers_one (log_hand_out log output o).answer ≡ false
handed_other log output none = refl
handed_other log output (some p) = refl

module _ (n : ℕ) (k : Kind) (log : List Entry) (output : List ℕ) (key : Key) (total number : ℕ) (octets : List ℕ) where
  in_part_other : (e : Entry) (r : Option Entry) → answers_one (in_part n k log output key total number octets e r).answer ≡ false
  in_part_other e (some p) = go (same_octets p.octets octets)
    where
      go : (b : Bool) → answers_one (cond b (result_of (held_already e.slot) (touch e.slot e.rank log) output) (result_of (refused_by 8) log output)).answer ≡ false
      go true = refl
      go false = refl
  in_part_other e none = go (log_complete n k log output key total number octets e.slot)
    where
      go : (b : Bool) → answers_one (cond b (log_hand_out (close e.rank (without e.slot log)) output (packet_in k (of_pages key) total (whole n k log output key total number octets e.slot)))
          (result_of (kept e.slot false) (touch e.slot e.rank log ++ new_entry n k log output key total number octets e.slot ∷ []) output)).answer ≡ false
      go true = handed_other (close e.rank (without e.slot log)) output (packet_in k (of_pages key) total (whole n k log output key total number octets e.slot))
      go false = refl

  new_other : (r : Option ℕ) (o : Option Entry) → first_entry (of_rank n) log ≡ o → answers_one (new_series n k log output key total number octets r).answer ≡ false
  new_other (some i) o e = refl
  new_other none none e = rw e
  new_other none (some x) e = rw e

  for_other : (r : Option Entry) → answers_one (for_series n k log output key total number octets r).answer ≡ false
  for_other none = new_other (free_from log 0 n) (first_entry (of_rank n) log) refl
  for_other (some e) = go (not (eqb e.total total))
    where
      go : (b : Bool) → answers_one (cond b (result_of (refused_by 7) log output) (in_part n k log output key total number octets e (first_entry (is_part e.slot number) log))).answer ≡ false
      go true = refl
      go false = in_part_other e (first_entry (is_part e.slot number) log)

  part_other : answers_one (log_take_part n k log output key total number octets).answer ≡ false
  unfolding log_take_part
  part_other = for_other (first_entry (has_key key) log)

taken_other : (n : ℕ) (k : Kind) (log : List Entry) (output : List ℕ) (paged : Bool) (o : List ℕ) (b : reading.Outcome Brought) → by_one b ≡ false → answers_one (log_taken n k log output paged o b).answer ≡ false
taken_other n k log output paged o (reading.refused m) e = e
taken_other n k log output paged o (reading.gives (single start)) e = handed_other log output (packet_in k paged 1 (drop start o))
taken_other n k log output paged o (reading.gives (part key total number start)) e = part_other n k log output key total number (drop start o)

taking_other : (s : LogState) (output : List ℕ) (i : Input) → length output ≡ most_octets → state_formed s ≡ true → answers_one (log_take_input s output i).answer ≡ false
taking_other s output i long f =
    ap (λ (a : AfterLog). answers_one a.answer) (plain_comes s output i)
    ∙ rw (f, eq-eqb (length output) most_octets long) (taken_other s.slots s.kind s.log output (is_page i) (octets_of i) (read s.kind i) (read_other s.kind i))

taking_one : (s : LogState) (output : List ℕ) (i : Input) → state_formed s ≡ false → (log_take_input s output i).answer ≡ refused_by 1
taking_one s output i f = ap (λ (a : AfterLog). a.answer) (plain_comes s output i) ∙ rw f

beat_other : (s : LogState) (limit : ℕ) → state_formed s ≡ true → by_one (log_beat s limit).answer ≡ false
unfolding log_beat
beat_other s limit f = rw f (go (eqb limit 0))
  where
    go : (z : Bool) → by_one (leaves_log_beat s limit (refuse 18 when z otherwise reading.gives (log_dropped s.slots limit s.log))).answer ≡ false
    go true = refl
    go false = refl

beat_one : (s : LogState) (limit : ℕ) → state_formed s ≡ false → (log_beat s limit).answer ≡ reading.refused 1
unfolding log_beat
beat_one s limit f = rw f

module _ (l : Log) (lent : List ℕ) (b : Octets lent) (long : length lent ≡ log_octets) where
  tested : Exactly (state_formed (state_in l lent) ≡ false) (LogNeverMade l lent)
  tested = (
    (λ h good m. clash (state_formed (state_in l lent)) (made_state l lent long good m) h),
    (λ never. by_test (state_formed (state_in l lent)) (λ h. absurd (never (slots_of l lent h) (state_made l lent b long h))) (λ h. h)),
  )

  -- a call says it exactly if the test does
  by_formed : {This : Type 0} → (This → state_formed (state_in l lent) ≡ true → ⊥) → (state_formed (state_in l lent) ≡ false → This) → Exactly This (LogNeverMade l lent)
  by_formed out back = (λ this. tested.0 (by_test (state_formed (state_in l lent)) (λ t. absurd (out this t)) (λ e. e)), λ never. back (tested.1 never))

zeros : List ℕ
zeros = replicate log_octets 0

zeros_long : length zeros ≡ log_octets
unfolding zeros
zeros_long = length-replicate {A = ℕ} log_octets 0

pub log_acceptance : LogAcceptance
log_acceptance = record {
  formed_is_made = made;
  made_is_formed = made_formed;
  formed_is_same = λ n k log formed few types.
      let good = of_formed n k log formed in
      known n good k zeros zeros_long log (reach_of n k log good zeros zeros_long (made n k log formed few types zeros zeros_long));
  tested = tested;
  taking = λ l lent b long output size i.
      by_formed l lent b long (λ once_more t. clash (answers_one (log_take_input (state_in l lent) output i).answer) (ap answers_one once_more) (taking_other (state_in l lent) output i size t)) (taking_one (state_in l lent) output i);
  beating = λ l lent b long limit.
      by_formed l lent b long (λ once_more t. clash (by_one (log_beat (state_in l lent) limit).answer) (ap by_one once_more) (beat_other (state_in l lent) limit t)) (beat_one (state_in l lent) limit);
}
