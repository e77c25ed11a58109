-- What shuffling can and cannot change. A call that brings a part does what the part does to the slot of its key (`Seats`): so a part that was kept is held
-- when it comes again, two parts change places, and whole orders lead to the same (`Folds`).
use Prim.Native.Nat.{ℕ}
use mathlib.Core.Path.{◌≡◌, refl, sym, ap, ◌∙◌, subst}
use mathlib.Core.Bool.{Bool, true, false, cond, ◌||◌}
use mathlib.Core.List.{List, [], ◌∷◌}
use native.Mathlib.Omega.{arith}
use lib.ListN.{length-replicate}
use lib.Dec.{eqb}
use borrow.Author.Tests.{eqb-true}
use Rattle.octets.specs.Tests.{both, both_hold, Same, same, other, same?}
use Rattle.types.specs.declared.Kind.{Kind}
use Rattle.types.specs.declared.Kind.TheVariants.{Command}
use Rattle.types.specs.declared.Key.{Key}
use Rattle.arrival.specs.Laws.{Admitted}
use Rattle.formed.specs.Formed.{slots_formed, all_zero, used_formed, slot_formed, keys_differ, ranked, counts_follow}
use Rattle.formed.specs.Laws.{formed_tells}
use Rattle.series.specs.Taking.{After, Answer, kept, held_already, packet, refused_by, state, after, step, take_part, take_message}
use Rattle.slots.specs.Below.{all_below, any_below, count_below}
use Rattle.slots.specs.Slots.{find, aged, to_front}
use Rattle.arrival.specs.Keys.{key_formed, length_fits}
use Rattle.arrival.specs.Message.{judged, read_message}
use Rattle.header.specs.Header.{elements_after, summary}
use Rattle.octets.specs.Octets.{placed}
use Rattle.packet.specs.Packets.{most_octets}
use Rattle.series.specs.Calls.{octets_of}
use Rattle.sequences.specs.Lists.{elem}
use Rattle.sequences.specs.Runs.{Call, Store, outcome, left}
use Rattle.sequences.specs.Reached.{key}
use Rattle.shuffles.specs.Shuffled.{AnyStore, BringsPart, KeptThenHeld, Exchanged, EitherOrder, answers_of, left_after, not_complete, none_complete, unmarked, repeated, answered_behind, BringInOrder, none_brought, first_brought, all_answered, Names, AllName, Shuffled, AnyOrder, occupied, of_three, one_order, other_order, ShuffledSo}
use Rattle.sequences.proofs.Calls.{Kept, taking}
use Rattle.sequences.proofs.Wake.{admits}
use Rattle.sequences.proofs.Reached.{octets_of_lem}
use Rattle.shuffles.proofs.Folds as folds
use Rattle.shuffles.proofs.Seats.{asked, May, next, answer_to, again, swap, any_output, kept_total, kept_asked, Said, OneSeat, one_seat, seat_of_lem, kept_bears}

-- ---- what is left of an answer behind other parts
behind_again : (b : Bool) (a : Answer) → repeated (cond b (repeated a) (unmarked a)) ≡ repeated a
behind_again true (kept i d) = refl
behind_again true (held_already i) = refl
behind_again true (packet m) = refl
behind_again true (refused_by m) = refl
behind_again false (kept i d) = refl
behind_again false (held_already i) = refl
behind_again false (packet m) = refl
behind_again false (refused_by m) = refl

behind_other : (b : Bool) (a : Answer) → unmarked (cond b (repeated a) (unmarked a)) ≡ cond b (repeated a) (unmarked a)
behind_other true (kept i d) = refl
behind_other true (held_already i) = refl
behind_other true (packet m) = refl
behind_other true (refused_by m) = refl
behind_other false (kept i d) = refl
behind_other false (held_already i) = refl
behind_other false (packet m) = refl
behind_other false (refused_by m) = refl

behind_same : (behind : List ℕ) (m : ℕ) (a : Answer) → repeated (answered_behind behind m a) ≡ repeated a
behind_same [] m a = refl
behind_same (i ∷ behind) m a = behind_again (elem m (i ∷ behind)) a

behind_more : (behind : List ℕ) (m : ℕ) (a : Answer) → unmarked (answered_behind behind m a) ≡ cond (elem m behind) (repeated a) (unmarked a)
behind_more [] m a = refl
behind_more (i ∷ behind) m a = behind_other (elem m (i ∷ behind)) a

-- ---- the slot that answers name
said_names : (slot : ℕ) (mark : Bool) (a : Answer) → Said slot mark a → (behind : List ℕ) (m : ℕ) → Names slot (answered_behind behind m a)
said_names slot mark (kept i d) s [] m = s.0
said_names slot mark (held_already i) s [] m = s
said_names slot mark (packet p) s [] m = tt
said_names slot mark (refused_by p) s [] m = tt
said_names slot mark a s (j ∷ behind) m = go (elem m (j ∷ behind)) a s
  where
    go : (b : Bool) (a : Answer) → Said slot mark a → Names slot (cond b (repeated a) (unmarked a))
    go true (kept i d) s = s.0
    go true (held_already i) s = s
    go true (packet p) s = tt
    go true (refused_by p) s = tt
    go false (kept i d) s = s.0
    go false (held_already i) s = s
    go false (packet p) s = tt
    go false (refused_by p) s = tt

-- an answer without its mark says "kept"
unmarked_kept : (slot : ℕ) (mark : Bool) (a : Answer) → Said slot mark a → (j : ℕ) (e : Bool) → unmarked a ≡ kept j e
    → (a ≡ kept slot mark) × (j ≡ slot) × (e ≡ false)
unmarked_kept slot mark (kept i d) s j e q =
    let p : i ≡ j = cc in
    let r : false ≡ e = cc in
    let x = s.0 in
    let y = s.1 in ((λ z. kept (x z) (y z)), sym p ∙ x, sym r)
unmarked_kept slot mark (held_already i) s j e q = let z : ◌≡◌ {A = ℕ} 0 1 = cc in absurd (omega arith)
unmarked_kept slot mark (packet i) s j e q = let z : ◌≡◌ {A = ℕ} 0 1 = cc in absurd (omega arith)
unmarked_kept slot mark (refused_by i) s j e q = let z : ◌≡◌ {A = ℕ} 0 1 = cc in absurd (omega arith)

module _ (n : ℕ) (k : Kind) where
  kept_of : (st : Store) → AnyStore n k st → Kept n k st
  kept_of st a =
      let (c, f) = both (eqb st.rec.count n) (slots_formed n st.rec.kind st.rec.slots) a.formed in
      record { kind = a.kind; sound = record { number = eqb-true st.rec.count n c; formed = formed_tells n st.rec.kind st.rec.slots f; size = a.size } }

  -- ---- a call that brings a part
  module _ (K : Key) (t m : ℕ) (o : List ℕ) (c : Call) (b : BringsPart k K t m o c) where
    part_of : Admitted k K t m o
    part_of = subst (λ (z : List ℕ). Admitted k K t m z) b.brings (admits k c b.proper.octets K t m b.start b.reads)

    called : (st : Store) → Kept n k st → outcome n st c ≡ asked n k K t st c.output m o
    called st w = taking n (state st.rec st.cells c.output) w.sound b.proper.output c.input ∙ rw (w.kind, b.reads, b.brings)

    does_so : (st : Store) → May n k K t st m o
        → outcome n st c ≡ after (answer_to n k K t st m o) (next n k K t st m o).rec (next n k K t st m o).cells c.output
    does_so st may = called st may.store ∙ any_output n k K t st may.store m o part_of [] c.output may.waiting

    leaves_so : (st : Store) → May n k K t st m o → left (outcome n st c) ≡ next n k K t st m o
    leaves_so st may = ap (λ (z : After). left z) (does_so st may)

    answers_so : (st : Store) → May n k K t st m o → (outcome n st c).answer ≡ answer_to n k K t st m o
    answers_so st may = ap (λ (z : After). z.answer) (does_so st may)

    may_of : (st : Store) → Kept n k st → not_complete (outcome n st c).answer ≡ true → May n k K t st m o
    may_of st w e =
        let f = ap (λ (z : After). not_complete z.answer) (sym (called st w)) ∙ e in
        record { store = w; is_part_lem = part_of; waiting = ap (λ (z : After). not_complete z.answer) (any_output n k K t st w m o part_of c.output [] f) ∙ f }

    may_next : (st : Store) → May n k K t st m o → Kept n k (next n k K t st m o)
    may_next st may = kept_asked n k K t st may.store [] m o part_of

  -- ---- twice
  twice : (st : Store) → AnyStore n k st → (K : Key) (t m : ℕ) (o : List ℕ) (c d : Call) → BringsPart k K t m o c → BringsPart k K t m o d
      → (slot : ℕ) (mark : Bool) → (outcome n st c).answer ≡ kept slot mark
      → outcome n (left (outcome n st c)) d ≡ after (held_already slot) (left (outcome n st c)).rec (left (outcome n st c)).cells d.output
  twice st a K t m o c d bc bd slot mark e =
      let may = may_of K t m o c bc st (kept_of st a) (ap not_complete e) in
      let ag = again n k K t st m o may in
      let x : answer_to n k K t (next n k K t st m o) m o ≡ held_already slot = ag.answered ∙ ap repeated (sym (answers_so K t m o c bc st may) ∙ e) in
      let y = ag.stays_so in
      subst (λ (z : Store). outcome n z d ≡ after (held_already slot) z.rec z.cells d.output) (sym (leaves_so K t m o c bc st may))
      (does_so K t m o d bd (next n k K t st m o) (record { store = may_next K t m o c bc st may; is_part_lem = may.is_part_lem; waiting = ag.still_open })
      ∙ (λ j. after (x j) (y j).rec (y j).cells d.output))

  -- ---- in either order
  module _ (st : Store) (a : AnyStore n k st) (K : Key) (t m p : ℕ) (om op : List ℕ) (c d : Call) (bc : BringsPart k K t m om c) (bd : BringsPart k K t p op d)
      (ne : m ≡ p → ⊥) (slot : ℕ) (mark : Bool) (e : (outcome n st c).answer ≡ kept slot mark) (slot' : ℕ) (mark' : Bool)
      (e' : (outcome n (left (outcome n st c)) d).answer ≡ kept slot' mark') where
    exchanged : Exchanged n st c d slot mark slot' mark'
    exchanged = go (seat_of_lem n k K t st (kept_of st a))
      where
        go : OneSeat n k K t st → Exchanged n st c d slot mark slot' mark'
        go (one_seat i f says) =
            let mc = may_of K t m om c bc st (kept_of st a) (ap not_complete e) in
            let lc = leaves_so K t m om c bc st mc in
            let ec = sym (answers_so K t m om c bc st mc) ∙ e in
            let f' : (outcome n (next n k K t st m om) d).answer ≡ kept slot' mark' = subst (λ (z : Store). (outcome n z d).answer ≡ kept slot' mark') lc e' in
            let md = may_of K t p op d bd (next n k K t st m om) (may_next K t m om c bc st mc) (ap not_complete f') in
            let sw = swap n k K t st m om p op ne mc md in
            let md' : May n k K t st p op = record { store = mc.store; is_part_lem = md.is_part_lem; waiting = sw.first } in
            let mc' : May n k K t (next n k K t st p op) m om = record { store = may_next K t p op d bd st md'; is_part_lem = mc.is_part_lem; waiting = sw.second } in
            let sw' = swap n k K t st p op m om (λ z. ne (sym z)) md' mc' in
            let (kd, sd, nd) = unmarked_kept i f (answer_to n k K t st p op) (says p op md') slot' mark' (sym sw.answered ∙ sym (answers_so K t p op d bd (next n k K t st m om) md) ∙ f') in
            let (si, fi) = subst (Said i f) ec (says m om mc) in
            let ld = leaves_so K t p op d bd st md' in
            record {
              same_slot = sd ∙ sym si;
              no_second_mark = nd;
              first_answer = answers_so K t p op d bd st md' ∙ kd ∙ (λ j. kept (sym si j) (sym fi j));
              second_answer = subst (λ (z : Store). (outcome n z c).answer ≡ kept slot false) (sym ld) (answers_so K t m om c bc (next n k K t st p op) mc' ∙ sw'.answered ∙ ap unmarked ec);
              equal = ap (λ (z : Store). left (outcome n z c)) ld ∙ leaves_so K t m om c bc (next n k K t st p op) mc' ∙ sw.equal
                  ∙ sym (ap (λ (z : Store). left (outcome n z d)) lc ∙ leaves_so K t p op d bd (next n k K t st m om) md);
            }

  -- ---- any orders
  module _ (K : Key) (t : ℕ) (own : ℕ → List ℕ) where
    abbrev next_by : Store → ℕ → Store
    next_by st m = next n k K t st m (own m)

    abbrev MayBy : Store → ℕ → Type 0
    MayBy st m = May n k K t st m (own m)

    abbrev answer_by : Store → ℕ → Answer
    answer_by st m = answer_to n k K t st m (own m)

    may_after : (st : Store) (m : ℕ) → MayBy st m → Kept n k (next_by st m)
    may_after st m may = kept_asked n k K t st may.store [] m (own m) may.is_part_lem

    again_by : (s : Store) (a : ℕ) → MayBy s a → MayBy (next_by s a) a × (next_by (next_by s a) a ≡ next_by s a)
    again_by s a may =
        let ag = again n k K t s a (own a) may in
        (record { store = may_after s a may; is_part_lem = may.is_part_lem; waiting = ag.still_open }, ag.stays_so)

    -- another part behind this one: it could come before, and how its answer differs
    pub record Turned (s : Store) (a b : ℕ) : Type 0 where
      pub earlier : MayBy s b
      pub later : MayBy (next_by s b) a
      pub equal : next_by (next_by s b) a ≡ next_by (next_by s a) b
      pub answered : answer_by (next_by s a) b ≡ cond (eqb b a) (repeated (answer_by s b)) (unmarked (answer_by s b))

    turned : (s : Store) (a b : ℕ) → MayBy s a → MayBy (next_by s a) b → Turned s a b
    turned s a b ma mb = go (same? b a)
      where
        go : Same b a → Turned s a b
        go (same e p) = record {
          earlier = subst (MayBy s) (sym p) ma;
          later = subst (λ (z : ℕ). MayBy (next_by s z) a) (sym p) (again_by s a ma).0;
          equal = ap (λ (z : ℕ). next_by (next_by s z) a) p ∙ ap (λ (z : ℕ). next_by (next_by s a) z) (sym p);
          answered = rw (e, p) (again n k K t s a (own a) ma).answered;
        }
        go (other e p) =
            let sw = swap n k K t s a (own a) b (own b) (λ z. p (sym z)) ma mb in
            let early : MayBy s b = record { store = ma.store; is_part_lem = mb.is_part_lem; waiting = sw.first } in record {
              earlier = early;
              later = record { store = may_after s b early; is_part_lem = ma.is_part_lem; waiting = sw.second };
              equal = sw.equal;
              answered = rw e sw.answered;
            }

    swap_by : (s : Store) (a b : ℕ) → MayBy s a → MayBy (next_by s a) b → MayBy s b × MayBy (next_by s b) a × (next_by (next_by s b) a ≡ next_by (next_by s a) b)
    swap_by s a b ma mb = let x = turned s a b ma mb in (x.earlier, x.later, x.equal)

    abbrev Leads : Store → List ℕ → Store → Type 0
    Leads = folds.Leads next_by MayBy

    -- calls that complete nothing are steps that may be made
    leads_of : (cs : List Call) (l : List ℕ) → BringInOrder k K t own cs l → (st : Store) → Kept n k st → none_complete (answers_of n st cs) ≡ true → Leads st l (left_after n st cs)
    leads_of cs l none_brought st w h = refl
    leads_of cs l (first_brought c cs' m l' b r) st w h =
        let (x, y) = both (not_complete (outcome n st c).answer) (none_complete (answers_of n (left (outcome n st c)) cs')) h in
        let may = may_of K t m (own m) c b st w x in
        let lc = leaves_so K t m (own m) c b st may in
        (may, subst (λ (z : Store). Leads z l' (left_after n (left (outcome n st c)) cs')) lc (leads_of cs' l' r (left (outcome n st c)) (subst (Kept n k) (sym lc) (may_after st m may)) y))

    -- and the other way round
    ends_of : (cs : List Call) (l : List ℕ) → BringInOrder k K t own cs l → (st e : Store) → Leads st l e → (none_complete (answers_of n st cs) ≡ true) × (left_after n st cs ≡ e)
    ends_of cs l none_brought st e r = (refl, r)
    ends_of cs l (first_brought c cs' m l' b r) st e (may, q) =
        let (x, y) = subst (λ (z : Store). (none_complete (answers_of n z cs') ≡ true) × (left_after n z cs' ≡ e)) (sym (leaves_so K t m (own m) c b st may)) (ends_of cs' l' r (next_by st m) e q) in
        (both_hold (not_complete (outcome n st c).answer) (none_complete (answers_of n (left (outcome n st c)) cs')) (ap not_complete (answers_so K t m (own m) c b st may) ∙ may.waiting) x, y)

    -- ---- the answers
    module _ (st : Store) (slot : ℕ) (mark : Bool) (says : (m : ℕ) (o : List ℕ) → May n k K t st m o → Said slot mark (answer_to n k K t st m o)) where
      -- what may come to s, behind these, might have come first of all, with the answer that is told
      abbrev Reached : Store → List ℕ → Type 0
      Reached s behind = (m : ℕ) → MayBy s m → MayBy st m × (answer_by s m ≡ answered_behind behind m (answer_by st m))

      reached_more : (s : Store) (behind : List ℕ) (j : ℕ) → MayBy s j → Reached s behind → Reached (next_by s j) (j ∷ behind)
      reached_more s behind j mj know m mm =
          let x = turned s j m mj mm in
          let (first, is) = know m x.earlier in
          (first, x.answered ∙ go first is (same? m j))
        where
          go : MayBy st m → answer_by s m ≡ answered_behind behind m (answer_by st m) → Same m j
              → cond (eqb m j) (repeated (answer_by s m)) (unmarked (answer_by s m)) ≡ answered_behind (j ∷ behind) m (answer_by st m)
          go first is (same e p) = rw (e, is) (behind_same behind m (answer_by st m))
          go first is (other e p) = rw (e, is) (behind_more behind m (answer_by st m))

      answered_of : (cs : List Call) (l : List ℕ) → BringInOrder k K t own cs l → (s e : Store) (behind : List ℕ) → Reached s behind → Leads s l e
          → (answers_of n s cs ≡ all_answered (λ c. (outcome n st c).answer) behind cs l) × AllName slot (answers_of n s cs)
      answered_of cs l none_brought s e behind know q = (refl, tt)
      answered_of cs l (first_brought c cs' m l' b r) s e behind know (may, q) =
          let (first, is) = know m may in
          let here : (outcome n s c).answer ≡ answered_behind behind m (outcome n st c).answer =
          answers_so K t m (own m) c b s may ∙ is ∙ ap (answered_behind behind m) (sym (answers_so K t m (own m) c b st first)) in
          let (x, y) = subst (λ (z : Store). (answers_of n z cs' ≡ all_answered (λ c. (outcome n st c).answer) (m ∷ behind) cs' l') × AllName slot (answers_of n z cs'))
          (sym (leaves_so K t m (own m) c b s may)) (answered_of cs' l' r (next_by s m) e (m ∷ behind) (reached_more s behind m may know) q) in
          ((λ z. here z ∷ x z), (subst (Names slot) (sym (answers_so K t m (own m) c b s may ∙ is)) (said_names slot mark (answer_by st m) (says m (own m) first) behind m), y))

pub kept_then_held : (n : ℕ) → KeptThenHeld n
kept_then_held n k = twice n k

pub either_order : (n : ℕ) → EitherOrder n
either_order n k st a K t t' m p om op c d bc bd ne slot mark e slot' mark' e' =
    let mc = may_of n k K t m om c bc st (kept_of n k st a) (ap not_complete e) in
    let lc = leaves_so n k K t m om c bc st mc in
    let w = may_next n k K t m om c bc st mc in
    let (i, b, is) = kept_bears n k K t st m om mc slot mark (sym (answers_so n k K t m om c bc st mc) ∙ e) in
    let f = subst (λ (z : Store). (outcome n z d).answer ≡ kept slot' mark') lc e' in
    let is' = kept_total n k K t' (next n k K t st m om) w i b d.output p op slot' mark' (ap (λ (z : After). z.answer) (sym (called n k K t' p op d bd (next n k K t st m om) w)) ∙ f) in
    exchanged n k st a K t m p om op c d bc (subst (λ (z : ℕ). BringsPart k K z p op d) (sym is' ∙ is) bd) ne slot mark e slot' mark' e'

pub any_order : (n : ℕ) → AnyOrder n
any_order n k st a K t own cs ds l m bcs bds alike h = go (seat_of_lem n k K t st (kept_of n k st a))
  where
    go : OneSeat n k K t st → Shuffled n st cs ds m
    go (one_seat slot mark says) =
        let r = leads_of n k K t own cs l bcs st (kept_of n k st a) h in
        let r' = folds.same_end (next_by n k K t own) (MayBy n k K t own) (again_by n k K t own) (swap_by n k K t own) l m st (left_after n st cs) alike r in
        let (x, y) = ends_of n k K t own ds m bds st (left_after n st cs) r' in
        let (u, v) = answered_of n k K t own st slot mark says ds m bds st (left_after n st cs) [] (λ j may. (may, refl)) r' in
        let (u', v') = answered_of n k K t own st slot mark says cs l bcs st (left_after n st cs) [] (λ j may. (may, refl)) r in
        record { none_complete_lem = x; equal = y; answered = u; slot = slot; one_slot = v'; same_slot = v }

-- ---- the example
module _ (b : ℕ) where
  occupied_any : AnyStore 1 Command (occupied b)
  unfolding elements_after summary judged read_message key_formed length_fits all_below any_below count_below find aged to_front all_zero used_formed slot_formed keys_differ ranked counts_follow slots_formed step take_part take_message placed
  occupied_any = record { formed = refl; kind = refl; size = refl }

  brings_two : BringsPart Command key 3 2 (2 ∷ []) (of_three b 2)
  unfolding elements_after summary judged read_message all_below
  brings_two = record { proper = record { output = length-replicate most_octets b; octets = octets_of_lem (octets_of (of_three b 2).input) refl }; start = 6; reads = refl; brings = refl }

  brings_three : BringsPart Command key 3 3 (3 ∷ []) (of_three b 3)
  unfolding elements_after summary judged read_message all_below
  brings_three = record { proper = record { output = length-replicate most_octets b; octets = octets_of_lem (octets_of (of_three b 3).input) refl }; start = 6; reads = refl; brings = refl }

  one_brings_so : BringInOrder Command key 3 (λ number. number ∷ []) (one_order b) (2 ∷ 3 ∷ 2 ∷ [])
  one_brings_so = first_brought (of_three b 2) _ 2 _ brings_two (first_brought (of_three b 3) _ 3 _ brings_three (first_brought (of_three b 2) _ 2 _ brings_two none_brought))

  other_brings_so : BringInOrder Command key 3 (λ number. number ∷ []) (other_order b) (3 ∷ 3 ∷ 2 ∷ [])
  other_brings_so = first_brought (of_three b 3) _ 3 _ brings_three (first_brought (of_three b 3) _ 3 _ brings_three (first_brought (of_three b 2) _ 2 _ brings_two none_brought))

  -- the answers to 2 and then 3 are computed, and all others follow from them
  two_told : (outcome 1 (occupied b) (of_three b 2)).answer ≡ kept 0 true
  unfolding elements_after summary judged read_message key_formed length_fits all_below any_below count_below find aged to_front all_zero used_formed slot_formed keys_differ ranked counts_follow slots_formed step take_part take_message placed
  two_told = refl

  then_three : (outcome 1 (left (outcome 1 (occupied b) (of_three b 2))) (of_three b 3)).answer ≡ kept 0 false
  unfolding elements_after summary judged read_message key_formed length_fits all_below any_below count_below find aged to_front all_zero used_formed slot_formed keys_differ ranked counts_follow slots_formed step take_part take_message placed
  then_three = refl

  three_told : (outcome 1 (occupied b) (of_three b 3)).answer ≡ kept 0 true
  three_told =
      (either_order 1 Command (occupied b) occupied_any key 3 3 2 3 (2 ∷ []) (3 ∷ []) (of_three b 2) (of_three b 3) brings_two brings_three (λ e. omega arith) 0 true two_told 0 false then_three).first_answer

  by_both : (ds : List Call) (m : List ℕ) → BringInOrder Command key 3 (λ number. number ∷ []) ds m → ((number : ℕ) → elem number (2 ∷ 3 ∷ []) ≡ elem number m)
      → Shuffled 1 (occupied b) (of_three b 2 ∷ of_three b 3 ∷ []) ds m
  by_both ds m brings alike =
      any_order 1 Command (occupied b) occupied_any key 3 (λ number. number ∷ []) _ ds _ m (first_brought (of_three b 2) _ 2 _ brings_two (first_brought (of_three b 3) _ 3 _ brings_three none_brought)) brings alike
      (both_hold (not_complete (outcome 1 (occupied b) (of_three b 2)).answer) _ (ap not_complete two_told)
      (both_hold (not_complete (outcome 1 (left (outcome 1 (occupied b) (of_three b 2))) (of_three b 3)).answer) true (ap not_complete then_three) refl))

  one_so : Shuffled 1 (occupied b) (of_three b 2 ∷ of_three b 3 ∷ []) (one_order b) (2 ∷ 3 ∷ 2 ∷ [])
  one_so = by_both (one_order b) (2 ∷ 3 ∷ 2 ∷ []) one_brings_so (λ number. again_two (eqb number 2) (eqb number 3))
    where
      again_two : (x y : Bool) → x || (y || false) ≡ x || (y || (x || false))
      again_two true y = refl
      again_two false true = refl
      again_two false false = refl

  other_so : Shuffled 1 (occupied b) (of_three b 2 ∷ of_three b 3 ∷ []) (other_order b) (3 ∷ 3 ∷ 2 ∷ [])
  other_so = by_both (other_order b) (3 ∷ 3 ∷ 2 ∷ []) other_brings_so (λ number. again_three (eqb number 2) (eqb number 3))
    where
      again_three : (x y : Bool) → x || (y || false) ≡ y || (y || (x || false))
      again_three true true = refl
      again_three true false = refl
      again_three false true = refl
      again_three false false = refl

  pub shuffled_so : ShuffledSo b
  shuffled_so = record {
    any_store = occupied_any;
    one_brings = one_brings_so;
    other_brings = other_brings_so;
    one_answered = one_so.answered ∙ (λ z. two_told z ∷ unmarked (three_told z) ∷ repeated (two_told z) ∷ []);
    other_answered = other_so.answered ∙ (λ z. three_told z ∷ repeated (three_told z) ∷ unmarked (two_told z) ∷ []);
    equal = other_so.equal ∙ sym one_so.equal;
  }
