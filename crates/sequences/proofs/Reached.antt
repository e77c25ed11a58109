-- The premises of the wake window can be met, and its number is the right one. Each call of the crowd brings a key that is not held, so it comes
-- to the front of a free slot, or of the least recent one: after m of them the first key has a rank above m, and with n slots there is none
-- above n. Between the two parts the other keys are as many as their calls.
use Prim.Native.Nat.{ℕ, zero, suc, ◌+◌, ◌-◌, ◌≤◌, ◌<◌}
use mathlib.Core.Path.{◌≡◌, refl, sym, ap, ◌∙◌, subst}
use mathlib.Core.Bool.{Bool, true, false, cond}
use mathlib.Core.List.{List, [], ◌∷◌, ◌++◌}
use mathlib.Core.Logic.{⊎_elim}
use native.Mathlib.Nat.{eq-or-lt_of_le}
use native.Mathlib.Omega.{arith}
use lib.ListN.{length, drop, get_or, length-replicate, get_or-eq_default}
use lib.Dec.{ltb}
use borrow.Author.Tests.{ltb-true, ltb-false, ne_eqb}
use Rattle.octets.specs.Octets.{Octets}
use Rattle.octets.specs.Tests.{clash, Same, same, other, same?}
use Rattle.types.specs.declared.Kind.{Kind}
use Rattle.types.specs.declared.Kind.TheVariants.{Command}
use Rattle.types.specs.Refusals as reading
use Rattle.packet.specs.Packets.{most_octets}
use Rattle.types.specs.declared.Key.{Key}
use Rattle.types.specs.declared.Slot.{Slot}
use Rattle.arrival.specs.Arrivals.{part}
use Rattle.header.specs.Header.{elements_after, summary}
use Rattle.arrival.specs.Message.{judged, read_message}
use Rattle.slots.specs.Below.{all_below}
use Rattle.slots.specs.BelowLaws.{all_at, count_at_most}
use Rattle.slots.specs.RankLaws.{has_rank, rank_bound, ranks_differ, Aged, free, moves, yields, stays}
use Rattle.slots.proofs.AgedLaws.{aged?}
use Rattle.slots.specs.FrontLaws.{front_here, front_there}
use Rattle.slots.specs.Slots.{slot_at, opened, at_front, with_part, with_slots, aged, aged_slot, to_front}
use Rattle.formed.specs.Laws.{Formed, array_holds}
use Rattle.cells.specs.Cells.{cells_size}
use Rattle.series.specs.Taking as Taking
use Rattle.series.specs.Taking.{State, After, state, after, Step, acted, step, take_part, taken, packet}
use Rattle.series.specs.CaseLaws.{Lacks, Case, other_total, other_octets, held_so, last, more, takes_free, displaces, case_of}
use Rattle.series.specs.Calls.{Input, octets_of, read}
use Rattle.sequences.specs.Examples.{M}
use Rattle.sequences.specs.Lists.{elem_key, add_key}
use Rattle.sequences.specs.Runs.{Slots, Call, Event, takes, Store, fresh, outcome, left, run, ProperCall, Proper}
use Rattle.sequences.specs.Wake as window
use Rattle.sequences.specs.Timely.{InTime}
use Rattle.sequences.specs.Wake.{in_messages, History, history_by, counts, follow, Fair, begin}
use Rattle.sequences.specs.Reached as reached
use Rattle.sequences.specs.Reached.{key, halves, call_from, first, second, strangers, crowd, cells, Met, Missed, longest, longest_paged, as_message, as_page, in_order, Longest}
use Rattle.sequences.specs.SplitTaken.{listed, key_under}
use Rattle.sequences.specs.Delivery.{Brings, nothing_more, next}
use Rattle.sequences.proofs.Calls.{is_page, taking, fresh_free, Kept, kept_proper, kept_fresh}
use Rattle.sequences.proofs.Along.{All, each, Here, Along, each_with, store_run}
use Rattle.sequences.proofs.Written.{and, small_octets, zero_small}
use Rattle.sequences.proofs.Wake.{admits, wake_window}
use Rattle.sequences.proofs.Delivery.{messages_delivered, pages_delivered}

-- ---- the premises
pub octets_of_lem : (l : List ℕ) → all_below (length l) (λ i. ltb (get_or l i 0) 256) ≡ true → Octets l
octets_of_lem l e i = go (ltb i (length l)) refl
  where
    go : (t : Bool) → ltb i (length l) ≡ t → get_or l i 0 < 256
    go true f = ltb-true (get_or l i 0) 256 (all_at (length l) (λ i. ltb (get_or l i 0) 256) e i (ltb-true i (length l) f))
    go false f = let z : get_or l i 0 ≡ 0 = get_or-eq_default l 0 {n = i} (ltb-false i (length l) f) in omega arith

pub same_part : {K₁ K₂ : Key} {t₁ t₂ m₁ m₂ s₁ s₂ : ℕ} → reading.gives (part K₁ t₁ m₁ s₁) ≡ reading.gives (part K₂ t₂ m₂ s₂) → (K₁ ≡ K₂) × (t₁ ≡ t₂) × (m₁ ≡ m₂) × (s₁ ≡ s₂)
same_part e = (cc, cc, cc, cc)

-- a key that is put in is one more at most
add_most : (X : Key) (l : List Key) → length (add_key X l) ≤ suc (length l)
add_most X l = go (elem_key X l)
  where
    go : (t : Bool) → length (cond t l (X ∷ l)) ≤ suc (length l)
    go true = omega arith
    go false = omega arith

module _ (n : ℕ) (good : Slots n) (b : ℕ) where
  -- the key of a sender with the reference 2A
  abbrev key_of : ℕ → Key
  key_of sender = key_under sender 8 0x2A

  abbrev ranks : Store → ℕ → ℕ
  ranks st j = (slot_at st.rec.slots j).rank

  abbrev keys : Store → ℕ → Key
  keys st j = (slot_at st.rec.slots j).key

  -- ---- n other keys
  -- after m keys, those of the senders 1 to m: key 1 has a rank of at least m, and the first m slots are used
  record Crowd (m : ℕ) (st : Store) : Type 0 where
    kept : Kept n Command st
    behind : (j : ℕ) → j < n → 0 < ranks st j → keys st j ≡ key → m ≤ ranks st j
    low : (j : ℕ) → j < n → 0 < ranks st j → (keys st j).sender ≤ m
    filled : (j : ℕ) → j < n → j < m → 0 < ranks st j

  -- a call with a key that is not held: where its series goes
  module _ (st : Store) (w : Kept n Command st) (c : Call) (p : ProperCall c) (X : Key) (total number start : ℕ)
      (reads : read Command c.input ≡ reading.gives (part X total number start)) (lacks : Lacks n st.rec.slots X) where
    abbrev xs : List Slot
    xs = st.rec.slots

    abbrev s : State
    s = state st.rec st.cells c.output

    formed_here : Formed n Command xs
    formed_here = subst (λ (x : Kind). Formed n x xs) w.kind w.sound.formed

    -- the slot that comes to the front was free, with all before it used; or it was the least recent, with all used
    data Goes (i : ℕ) : Bool → Type 0 where
      to_free : (slot_at xs i).rank ≡ 0 → ((j : ℕ) → j < i → 0 < (slot_at xs j).rank) → Goes i false
      to_last : (slot_at xs i).rank ≡ n → ((j : ℕ) → j < n → 0 < (slot_at xs j).rank) → Goes i true

    data Came : After → Type 0 where
      came : (i : ℕ) (y : Slot) (d : Bool) (cells : List ℕ) → i < n → y.key ≡ X → Goes i d
          → Came (after (Taking.kept i d) (with_slots st.rec (to_front xs i y)) cells c.output)

    by_case : (z : Step) → Case n s X total number (drop start (octets_of c.input)) z → Came (acted n s X total number (drop start (octets_of c.input)) z)
    by_case z (other_total i a t) = absurd (lacks i a.inside a.used a.key)
    by_case z (other_octets i a t h e) = absurd (lacks i a.inside a.used a.key)
    by_case z (held_so i a t h e) = absurd (lacks i a.inside a.used a.key)
    by_case z (last i a t h e) = absurd (lacks i a.inside a.used a.key)
    by_case z (more i a t h e) = absurd (lacks i a.inside a.used a.key)
    by_case z (takes_free i none_held l e lower) = came i (with_part (opened X total) number (length (drop start (octets_of c.input)))) false _ l refl (to_free e lower)
    by_case z (displaces i none_held l e all) = came i (with_part (opened X total) number (length (drop start (octets_of c.input)))) true _ l refl (to_last e all)

    it_came : Came (outcome n st c)
    unfolding take_part
    it_came =
        subst Came (sym (taking n s w.sound p.output c.input ∙ ap (λ (x : Kind). taken n s (is_page c.input) (octets_of c.input) (read x c.input)) w.kind ∙ rw reads))
        (by_case (step n s X total number (drop start (octets_of c.input))) (case_of n s X total number (drop start (octets_of c.input)) w.sound.formed))

    -- one key more
    module _ (m : ℕ) (f : Crowd m st) (follows : X.sender ≡ suc m) (i : ℕ) (y : Slot) (inside : i < n) (is : y.key ≡ X) where
      here : slot_at (to_front xs i y) i ≡ at_front y
      here = front_here xs i y (omega (arith, array_holds n Command xs formed_here))

      module _ (j : ℕ) (l : j < n) (ne : j ≡ i → ⊥) where
        there : slot_at (to_front xs i y) j ≡ aged_slot (slot_at xs i).rank (slot_at xs j)
        there = front_there xs i y j ne

        rank_there : (slot_at (to_front xs i y) j).rank ≡ aged (slot_at xs i).rank (slot_at xs j).rank
        rank_there = ap (λ (x : Slot). x.rank) there

        was_used : 0 < (slot_at (to_front xs i y) j).rank → 0 < (slot_at xs j).rank
        was_used u = go (aged? (slot_at xs i).rank (slot_at xs j).rank)
          where
            go : Aged (slot_at xs i).rank (slot_at xs j).rank → 0 < (slot_at xs j).rank
            go (free z e) = absurd (omega (arith, rank_there))
            go (moves v z k e) = v
            go (yields v z e) = v
            go (stays v z k e) = v

        still_used : 0 < (slot_at xs j).rank → 0 < (slot_at (to_front xs i y) j).rank
        still_used u = go (aged? (slot_at xs i).rank (slot_at xs j).rank)
          where
            go : Aged (slot_at xs i).rank (slot_at xs j).rank → 0 < (slot_at (to_front xs i y) j).rank
            go (free z e) = absurd (omega arith)
            go (moves v z k e) = omega (arith, rank_there)
            go (yields v z e) = omega (arith, rank_there)
            go (stays v z k e) = omega (arith, rank_there)

        -- a used slot is one rank further back
        further : {d : Bool} → Goes i d → 0 < (slot_at xs j).rank → (slot_at (to_front xs i y) j).rank ≡ suc (slot_at xs j).rank
        further g u = go g (aged? (slot_at xs i).rank (slot_at xs j).rank)
          where
            go : {d : Bool} → Goes i d → Aged (slot_at xs i).rank (slot_at xs j).rank → (slot_at (to_front xs i y) j).rank ≡ suc (slot_at xs j).rank
            go g (free z e) = absurd (omega arith)
            go g (moves v z k e) = rank_there ∙ e
            go g (yields v z e) = rank_there ∙ e
            go (to_free e lower) (stays v z k h) = absurd (omega arith)
            go (to_last e all) (stays v z k h) =
                let most = rank_bound n (λ j. (slot_at xs j).rank) formed_here.ranks j l in
                let few = count_at_most n (has_rank (λ j. (slot_at xs j).rank)) in
                absurd (ne (ranks_differ n (λ j. (slot_at xs j).rank) formed_here.ranks j i l inside (omega arith) (omega arith)))

      more_behind : {d : Bool} → Goes i d → (j : ℕ) → j < n → Same j i → 0 < (slot_at (to_front xs i y) j).rank → (slot_at (to_front xs i y) j).key ≡ key
          → suc m ≤ (slot_at (to_front xs i y) j).rank
      more_behind g j l (same e q) u k =
          let first_key : X ≡ key = sym (ap (λ (o : ℕ). (slot_at (to_front xs i y) o).key) q ∙ ap (λ (x : Slot). x.key) here ∙ is) ∙ k in
          omega (arith, follows, ap (λ (z : Key). z.sender) first_key)
      more_behind g j l (other e ne) u k =
          omega (arith, further j l ne g (was_used j l ne u), f.behind j l (was_used j l ne u) (sym (ap (λ (x : Slot). x.key) (there j l ne)) ∙ k))

      more_low : (j : ℕ) → j < n → Same j i → 0 < (slot_at (to_front xs i y) j).rank → (slot_at (to_front xs i y) j).key.sender ≤ suc m
      more_low j l (same e q) u = omega (arith, follows, ap (λ (z : Key). z.sender) (ap (λ (o : ℕ). (slot_at (to_front xs i y) o).key) q ∙ ap (λ (x : Slot). x.key) here ∙ is))
      more_low j l (other e ne) u = omega (arith, f.low j l (was_used j l ne u), ap (λ (x : Slot). x.key.sender) (there j l ne))

      more_filled : {d : Bool} → Goes i d → (j : ℕ) → j < n → j < suc m → Same j i → 0 < (slot_at (to_front xs i y) j).rank
      more_filled g j l h (same e q) = omega (arith, ap (λ (o : ℕ). (slot_at (to_front xs i y) o).rank) q, ap (λ (x : Slot). x.rank) here)
      more_filled (to_free z lower) j l h (other e ne) = still_used j l ne (go (ltb j m) refl)
        where
          go : (t : Bool) → ltb j m ≡ t → 0 < (slot_at xs j).rank
          go true t = f.filled j l (ltb-true j m t)
          go false t =
              let last_one : m ≤ j = ltb-false j m t in
              lower j (before_free (ltb i j) refl)
            where
              before_free : (t : Bool) → ltb i j ≡ t → j < i
              before_free true t = absurd (omega (arith, f.filled i inside (omega (arith, ltb-true i j t))))
              before_free false t = lt_of (ltb-false i j t)
                where
                  lt_of : j ≤ i → j < i
                  lt_of k = ⊎_elim (λ (q : j ≡ i). absurd (ne q)) (λ (q : j < i). q) (eq-or-lt_of_le k)
      more_filled (to_last z all) j l h (other e ne) = still_used j l ne (all j l)

    key_more : (m : ℕ) → Crowd m st → X.sender ≡ suc m → Crowd (suc m) (left (outcome n st c))
    key_more m f follows = go (outcome n st c) it_came (kept_proper n good Command (admits Command) st w c p)
      where
        go : (a : After) → Came a → Kept n Command (left a) → Crowd (suc m) (left a)
        go a (came i y d cs inside is g) kept = record {
          kept = kept;
          behind = λ j l u k. more_behind m f follows i y inside is g j l (same? j i) u k;
          low = λ j l u. more_low m f follows i y inside is j l (same? j i) u;
          filled = λ j l h. more_filled m f follows i y inside is g j l h (same? j i);
        }

  one_more_lem : (m : ℕ) (st : Store) → Crowd m st → (c : Call) → ProperCall c → (X : Key) (total number start : ℕ)
      → read Command c.input ≡ reading.gives (part X total number start) → X.sender ≡ suc m → Crowd (suc m) (left (outcome n st c))
  one_more_lem m st f c p X total number start reads follows =
      key_more st f.kept c p X total number start reads (λ j l u e. omega (arith, follows, f.low j l u, ap (λ (z : Key). z.sender) e)) m f follows

  proper : (sender : ℕ) (ud : List ℕ) → all_below (length ud) (λ i. ltb (get_or ud i 0) 256) ≡ true → ProperCall (call_from b sender ud)
  proper sender ud e = record { output = length-replicate most_octets b; octets = octets_of_lem ud e }

  proper_other : (sender : ℕ) → ProperCall (reached.stranger b sender)
  unfolding all_below
  proper_other sender = proper sender _ refl

  pub proper_first : ProperCall (first b)
  unfolding all_below
  proper_first = proper 1 _ refl

  pub proper_second : ProperCall (second b)
  unfolding all_below
  proper_second = proper 1 _ refl

  pub reads_first : read Command (first b).input ≡ reading.gives (part key 2 1 8)
  unfolding elements_after summary judged read_message
  reads_first = refl

  pub reads_second : read Command (second b).input ≡ reading.gives (part key 2 2 6)
  unfolding elements_after summary judged read_message
  reads_second = refl

  pub reads_other : (sender : ℕ) → read Command (reached.stranger b sender).input ≡ reading.gives (part (key_of sender) 2 2 6)
  unfolding elements_after summary judged read_message
  reads_other sender = refl

  crowd_start : Crowd 0 (fresh n Command (cells n b))
  crowd_start = record {
    kept = kept_fresh n good Command (admits Command) (cells n b) (length-replicate (cells_size n) b) [] (each Proper [] tt);
    behind = λ j l u k. omega arith;
    low = λ j l u. absurd (fresh_free n Command good j l u);
    filled = λ j l h. absurd (omega arith);
  }

  crowd_others : (m k : ℕ) (st : Store) → Crowd k st → Crowd (m + k) (run n st (strangers b (suc k) m))
  crowd_others zero k st f = let e : k ≡ 0 + k = omega arith in subst (λ (o : ℕ). Crowd o st) e f
  crowd_others (suc m) k st f =
      let e : m + suc k ≡ suc m + k = omega arith in
      subst (λ (o : ℕ). Crowd o (run n st (strangers b (suc k) (suc m)))) e
      (crowd_others m (suc k) (left (outcome n st (reached.stranger b (suc k)))) (one_more_lem k st f (reached.stranger b (suc k)) (proper_other (suc k)) (key_of (suc k)) 2 2 6 (reads_other (suc k)) refl))

  after_crowd : (m : ℕ) → Crowd (m + 1) (run n (fresh n Command (cells n b)) (crowd b m))
  after_crowd m =
      crowd_others m 1 (left (outcome n (fresh n Command (cells n b)) (first b)))
      (one_more_lem 0 (fresh n Command (cells n b)) crowd_start (first b) proper_first key 2 1 8 reads_first refl)

  -- with n + 1 keys the first has no rank
  gone : (st : Store) → Crowd (n + 1) st → Lacks n st.rec.slots key
  gone st f j l u e =
      omega (
        arith,
        f.behind j l u e,
        rank_bound n (ranks st) f.kept.sound.formed.ranks j l,
        count_at_most n (has_rank (ranks st)),
      )

  pub missed : Missed n b
  missed = go (outcome n st (second b)) (it_came st f.kept (second b) proper_second key 2 2 6 reads_second (gone st f)) refl
    where
      st : Store
      st = run n (fresh n Command (cells n b)) (crowd b n)

      f : Crowd (n + 1) (run n (fresh n Command (cells n b)) (crowd b n))
      f = after_crowd n

      go : (a : After) → Came (run n (fresh n Command (cells n b)) (crowd b n)) f.kept (second b) proper_second key 2 2 6 reads_second (gone (run n (fresh n Command (cells n b)) (crowd b n)) f) a
          → outcome n (run n (fresh n Command (cells n b)) (crowd b n)) (second b) ≡ a → Missed n b
      go a (came i y d cs inside is (to_free z lower)) e = absurd (omega (arith, f.filled i inside (omega arith)))
      go a (came i y d cs inside is (to_last z all)) e = record { lost = gone (run n (fresh n Command (cells n b)) (crowd b n)) f; slot = i; kept_anew = ap (λ (x : After). x.answer) e }

  -- ---- n − 1 other keys
  abbrev seen : History → Call → History
  seen q c = history_by n Command key q (takes c)

  -- a call with another key leaves what has arrived, and is counted once at most
  record Waits (m : ℕ) (q : History) : Type 0 where
    arrived : q.arrived ≡ 1 ∷ []
    few : length q.others_since ≤ m
    no_beat : q.beats_since ≡ []

  waits_more : (m sender : ℕ) (q : History) → 2 ≤ sender → Waits m q → Waits (suc m) (seen q (reached.stranger b sender))
  waits_more m sender q l w = rw (reads_other sender, ne_eqb sender 1 (λ e. omega arith)) (record { arrived = w.arrived; few = go (counts (outcome n q.store (reached.stranger b sender))); no_beat = w.no_beat })
    where
      go : (t : Bool) → length (cond t (add_key (key_of sender) q.others_since) q.others_since) ≤ suc m
      go true = let more-keys : length (add_key (key_of sender) q.others_since) ≤ suc (length q.others_since) = add_most (key_of sender) q.others_since in omega (arith, w.few)
      go false = omega (arith, w.few)

  abbrev Fair' : History → Call → Type 0
  Fair' = Here n Command key 2 (Fair n Command key M halves InTime)

  fair_first : (q : History) → q.arrived ≡ [] → Fair' q (first b)
  fair_first q z total number start e o =
      let (k, t, m, s) = same_part (sym reads_first ∙ e) in record { counted = sym t; brought = rw (← m, ← s); few_others = λ ne. absurd (ne z); in_time = λ ne. absurd (ne z) }

  fair_other : (q : History) (sender : ℕ) → 2 ≤ sender → Fair' q (reached.stranger b sender)
  fair_other q sender l total number start e o = absurd (omega (arith, ap (λ (k : Key). k.sender) (same_part (sym (reads_other sender) ∙ e)).0))

  fair_second : (q : History) → length q.others_since < n → InTime q.beats_since → Fair' q (second b)
  fair_second q few soon total number start e o =
      let (k, t, m, s) = same_part (sym reads_second ∙ e) in record { counted = sym t; brought = rw (← m, ← s); few_others = λ ne. few; in_time = λ ne. soon }

  -- the others and the second part, where k others were before
  fair_rest : (m sender k : ℕ) (q : History) → 2 ≤ sender → Waits k q → k + m < n → Along n Command key 2 (Fair n Command key M halves InTime) q (strangers b sender m ++ takes (second b) ∷ [])
  fair_rest zero sender k q l w few = (fair_second q (omega (arith, w.few)) (rw w.no_beat tt), tt)
  fair_rest (suc m) sender k q l w few = (fair_other q sender l, fair_rest m (suc sender) (suc k) (seen q (reached.stranger b sender)) (omega arith) (waits_more k sender q l w) (omega arith))

  waits_all : (m sender k : ℕ) (q : History) → 2 ≤ sender → Waits k q → Waits (m + k) (follow n Command key q (strangers b sender m))
  waits_all zero sender k q l w = let e : k ≡ 0 + k = omega arith in subst (λ (o : ℕ). Waits o q) e w
  waits_all (suc m) sender k q l w =
      let e : m + suc k ≡ suc m + k = omega arith in
      subst (λ (o : ℕ). Waits o (follow n Command key q (strangers b sender (suc m)))) e
      (waits_all m (suc sender) (suc k) (seen q (reached.stranger b sender)) (omega arith) (waits_more k sender q l w))

  abbrev w₀ : History
  w₀ = begin n Command (cells n b) []

  waits_first : Waits 0 (seen w₀ (first b))
  waits_first = rw reads_first (record { arrived = refl; few = omega arith; no_beat = refl })

  proper_rest : (m sender : ℕ) → All Proper (strangers b sender m ++ takes (second b) ∷ [])
  proper_rest zero sender = (proper_second, tt)
  proper_rest (suc m) sender = (proper_other sender, proper_rest m (suc sender))

  starts : window.Start n Command key M halves InTime (cells n b) [] (crowd b (n - 1) ++ takes (second b) ∷ [])
  starts = record {
    formed = refl;
    cut = in_messages refl refl;
    two = omega arith;
    size = length-replicate (cells_size n) b;
    before = each Proper [] tt;
    proper = each Proper (crowd b (n - 1) ++ takes (second b) ∷ []) (proper_first, proper_rest (n - 1) 2);
    lacks = λ j l u e. fresh_free n Command good j l u;
    fair = each_with n Command key 2 (Fair n Command key M halves InTime) (crowd b (n - 1) ++ takes (second b) ∷ []) w₀
        (fair_first w₀ refl, fair_rest (n - 1) 2 0 (seen w₀ (first b)) (omega arith) waits_first (omega (arith, good.some)));
  }

  pub met : Met n b
  unfolding all_below
  met = record { start = starts; comes = ap (λ (st : Store). (outcome n st (second b)).answer) (sym (store_run n Command key (crowd b (n - 1)) w₀)) ∙ handed served }
    where
      q : History
      q = follow n Command key w₀ (crowd b (n - 1))

      waits : Waits (n - 1 + 0) (follow n Command key w₀ (crowd b (n - 1)))
      waits = waits_all (n - 1) 2 0 (seen w₀ (first b)) (omega arith) waits_first

      served : window.Served n Command key M halves (follow n Command key w₀ (crowd b (n - 1))) (second b) 2 2 6
      served = wake_window n good Command key M halves (cells n b) [] (crowd b (n - 1) ++ takes (second b) ∷ []) starts (crowd b (n - 1)) (second b) [] refl 2 2 6 reads_second (rw waits.arrived)

      handed : window.Served n Command key M halves (follow n Command key w₀ (crowd b (n - 1))) (second b) 2 2 6
          → (outcome n (follow n Command key w₀ (crowd b (n - 1))).store (second b)).answer ≡ packet 16
      handed (window.again r old bears e) = absurd (clash false (rw waits.arrived at old) refl)
      handed (window.waits r i d new open' e place bears) = absurd (clash true refl (rw waits.arrived at open'))
      handed (window.wakes r new all lacks e) = ap (λ (x : After). x.answer) e

-- ---- the longest packets
brings_both : {t : ℕ} {written : ℕ → Input} {o p : List ℕ} {u v : List Event} → Brings t written o u → Brings t written p v → Brings t written (o ++ p) (u ++ v)
brings_both nothing_more behind = behind
brings_both (next m low high c is size rest) behind = next m low high c is size (brings_both rest behind)

in_order_lem : (b t : ℕ) (written : ℕ → Input) (m : ℕ) → m ≤ t → Brings t written (listed (λ i. i) m) (in_order b m written)
in_order_lem b t written zero l = nothing_more
in_order_lem b t written (suc m) l =
    brings_both (in_order_lem b t written m (omega arith)) (next (suc m) (omega arith) l _ refl (length-replicate most_octets b) nothing_more)

pub longest_reached : (n : ℕ) → Slots n → (b : ℕ) → Longest n b
unfolding all_below
longest_reached n good b = record {
  sixteen = refl;
  in_sixteen = (messages_delivered n good Command 1 8 0x2A longest long_octets refl refl (omega arith) (cells n b) [] (length-replicate (cells_size n) b) (each Proper [] tt)
      ).in_parts (λ e. omega arith) (λ j l u e. fresh_free n Command good j l u) (listed (λ i. i) 16) (in_order b 16 as_message) (in_order_lem b 16 as_message 16 (omega arith)) refl;
  fifteen = refl;
  in_fifteen = (pages_delivered n good 0 0x1080 (λ number. 0x96) longest_paged (omega arith) (λ number. omega arith) paged_octets refl refl (omega arith) (cells n b) [] (length-replicate (cells_size n) b) (each Proper [] tt)
      ).in_parts (λ e. omega arith) (λ j l u e. fresh_free n Command good j l u) (listed (λ i. i) 15) (in_order b 15 as_page) (in_order_lem b 15 as_page 15 (omega arith)) refl;
}
  where
    long_octets : Octets longest
    long_octets = small_octets (and 0x08 (omega arith) (and 0x5C (omega arith) (and 0x0D (omega arith) (zero_small 2139))))

    paged_octets : Octets longest_paged
    paged_octets = small_octets (and 0x04 (omega arith) (and 0xCC (omega arith) (and 0x0D (omega arith) (zero_small 1227))))
