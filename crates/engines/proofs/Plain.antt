-- The engines are equal over every list of events: what holds between log and record is kept by each call and each beat (`plain/specs/Equal.antt`, `plain/proofs/CallEqual.antt`), so each
-- event tells the same. What is claimed of the plain engine besides is claimed of the first one already, and carried over by this.
use Prim.Native.Nat.{ℕ}
use mathlib.Core.Path.{◌≡◌, refl, sym, ap, ◌∙◌, subst}
use mathlib.Core.Bool.{Bool, true, false, cond}
use mathlib.Core.List.{List, [], ◌∷◌, ◌++◌, map, append_assoc}
use lib.ListN.{length, replicate, length-replicate}
use borrow.Author.Tests.{eq-eqb}
use Rattle.types.specs.declared.Kind.{Kind}
use Rattle.types.specs.declared.Key.{Key}
use Rattle.formed.specs.Laws.{formed_told}
use Rattle.beats.specs.Beats as first
use Rattle.cells.specs.Cells.{cells_size}
use Rattle.series.specs.Taking.{After, kept, held_already, state}
use Rattle.series.specs.Calls.{take_input}
use Rattle.plain.specs.Entries.{log_octets, LogState}
use Rattle.plain.specs.Engine.{log_beat}
use Rattle.plain.specs.Equal.{Together, EqualCall, EqualBeat, fresh_together, at_most, together_formed, together_read, beat_equal, taking_slots, beat_slots}
use Rattle.plain.proofs.CallEqual.{call_equal}
use Rattle.sequences.specs.Runs.{Slots, Call, Event, takes, beats, Store, fresh, outcome, left, left_by, run, ProperCall, Proper, Each}
use Rattle.sequences.specs.Lists.{elem}
use Rattle.sequences.specs.Timely.{FewerThanLeast, InTime}
use Rattle.sequences.specs.Wake.{History, begin, follow, Start, WakeWindow, Served, again, waits, wakes}
use Rattle.shuffles.specs.Others.{View, of_another, without_others, OfSeries, OthersUnseen, Isolated}
use Rattle.shuffles.specs.Shuffled.{AnyStore, BringsPart, BringInOrder, none_brought, first_brought, Exchanged, none_complete, answers_of, answered_behind, all_answered, AllName, Shuffled}
use Rattle.engines.specs.Plain as plain
use Rattle.engines.specs.Plain.{heard, heard_of_beat, heard_by, heard_over, plain_outcome, plain_by, plain_run, plain_heard_by, plain_heard_over, plain_fresh, plain_after, LentBoth, EnginesEqual, AlwaysInStep, ServedPlainly, PlainWakeWindow, PlainOthersUnseen, PlainIsolated, PlainKeptThenHeld, PlainExchanged, PlainEitherOrder, plain_answers_of, PlainShuffled, PlainAnyOrder, PlainEngine}
use Rattle.sequences.proofs.Along.{All, each, all_of_lem, run_more, store_run}
use Rattle.sequences.proofs.Calls.{Kept, kept_fresh}
use Rattle.sequences.proofs.Wake as wake
use Rattle.shuffles.proofs.Others as others
use Rattle.shuffles.proofs.Shuffled as shuffled

-- ---- lists of events
all_both : (Claim : Event → Type 0) (u v : List Event) → All Claim u → All Claim v → All Claim (u ++ v)
all_both Claim [] v a b = b
all_both Claim (e ∷ u) v a b = (a.0, all_both Claim u v a.1 b)

each_both : (Claim : Event → Type 0) (u v : List Event) → Each Claim u → Each Claim v → Each Claim (u ++ v)
each_both Claim u v a b = each Claim (u ++ v) (all_both Claim u v (all_of_lem Claim u a) (all_of_lem Claim v b))

each_front : (Claim : Event → Type 0) (u v : List Event) → Each Claim (u ++ v) → Each Claim u
each_front Claim u v all a e b q = all a e (b ++ v) (ap (λ (l : List Event). l ++ v) q ∙ append_assoc a (e ∷ b) v)

all_without : (k : Kind) (K : Key) (Claim : Event → Type 0) (u : List Event) → All Claim u → All Claim (without_others k K u)
all_without k K Claim [] a = tt
all_without k K Claim (e ∷ u) a = go (of_another k K e) (all_without k K Claim u a.1)
  where
    go : (b : Bool) → All Claim (without_others k K u) → All Claim (cond b (without_others k K u) (e ∷ without_others k K u))
    go true r = r
    go false r = (a.0, r)

-- ---- one event
pub record Joint (n : ℕ) (s : LogState) (st : Store) : Type 0 where
  pub slots : s.slots ≡ n
  pub together : Together s st.rec st.cells

module _ (n : ℕ) (s : LogState) (st : Store) (j : Joint n s st) where
  equal_call : (c : Call) → ProperCall c → EqualCall (plain_outcome s c) (outcome n st c)
  equal_call c p =
      subst (λ (m : ℕ). EqualCall (plain_outcome s c) (take_input m (state st.rec st.cells c.output) c.input)) j.slots
      (call_equal s st.rec st.cells j.together c.output p.output c.input p.octets)

  equal_beat : (limit : ℕ) → Proper (beats limit) → EqualBeat (log_beat s limit) (first.beat n st.rec limit) st.cells
  equal_beat limit p =
      subst (λ (m : ℕ). EqualBeat (log_beat s limit) (first.beat m st.rec limit) st.cells) j.slots (beat_equal s st.rec st.cells j.together limit p)

  joint_by : (e : Event) → Proper e → Joint n (plain_by s e) (left_by n st e)
  joint_by (takes c) p = record { slots = taking_slots s c.output c.input ∙ j.slots; together = (equal_call c p).together }
  joint_by (beats limit) p = record { slots = beat_slots s limit ∙ j.slots; together = (equal_beat limit p).together }

  heard_by_lem : (e : Event) → Proper e → plain_heard_by s e ≡ heard_by n st e
  heard_by_lem (takes c) p =
      let a = (equal_call c p).answer in
      let o = (equal_call c p).output in
      λ i. heard (a i) (o i)
  heard_by_lem (beats limit) p = ap heard_of_beat (equal_beat limit p).answer

  read_joint : plain.read_of n st.rec.kind s ≡ st.rec
  read_joint = together_read s st.rec st.cells j.together

-- ---- all events
joint_run : (n : ℕ) (events : List Event) (s : LogState) (st : Store) → Joint n s st → All Proper events → Joint n (plain_run s events) (run n st events)
joint_run n [] s st j a = j
joint_run n (e ∷ es) s st j a = joint_run n es (plain_by s e) (left_by n st e) (joint_by n s st j e a.0) a.1

heard_over_lem : (n : ℕ) (events : List Event) (s : LogState) (st : Store) → Joint n s st → All Proper events → plain_heard_over s events ≡ heard_over n st events
heard_over_lem n [] s st j a = refl
heard_over_lem n (e ∷ es) s st j a =
    let here = heard_by_lem n s st j e a.0 in
    let rest = heard_over_lem n es (plain_by s e) (left_by n st e) (joint_by n s st j e a.0) a.1 in
    λ i. here i ∷ rest i

-- ---- calls in a row that bring the parts of one key
module _ (n : ℕ) (k : Kind) (K : Key) (total : ℕ) (own : ℕ → List ℕ) where
  same_answers : (cs : List Call) (l : List ℕ) → BringInOrder k K total own cs l → (s : LogState) (st : Store) → Joint n s st → plain_answers_of n k s cs ≡ answers_of n st cs
  same_answers cs l none_brought s st j = refl
  same_answers cs l (first_brought c rest number m b more) s st j =
      let here = (equal_call n s st j c b.proper).answer in
      let next = same_answers rest m more (plain_outcome s c).state (left (outcome n st c)) (joint_by n s st j (takes c) b.proper) in
      λ i. here i ∷ next i

  -- what each would be answered first of all
  same_alone : (s : LogState) (st : Store) → Joint n s st → (cs : List Call) (l : List ℕ) → BringInOrder k K total own cs l → (behind : List ℕ)
      → all_answered (λ c. (plain_outcome s c).answer) behind cs l ≡ all_answered (λ c. (outcome n st c).answer) behind cs l
  same_alone s st j cs l none_brought behind = refl
  same_alone s st j cs l (first_brought c rest number m b more) behind =
      let here = ap (answered_behind behind number) (equal_call n s st j c b.proper).answer in
      let next = same_alone s st j rest m more (number ∷ behind) in
      λ i. here i ∷ next i

all_brought : (k : Kind) (K : Key) (total : ℕ) (own : ℕ → List ℕ) (cs : List Call) (l : List ℕ) → BringInOrder k K total own cs l → All Proper (map takes cs)
all_brought k K total own cs l none_brought = tt
all_brought k K total own cs l (first_brought c rest number m b more) = (b.proper, all_brought k K total own rest m more)

module _ (n : ℕ) (good : Slots n) (k : Kind) where
  joint_fresh : (cells lent : List ℕ) → LentBoth n k cells lent → Joint n (plain_fresh n k lent) (fresh n k cells)
  joint_fresh cells lent l = record { slots = refl; together = fresh_together n k cells lent good.some good.most l.for_cells l.for_log }

  pub joint_after : (cells lent : List ℕ) → LentBoth n k cells lent → (events : List Event) → Each Proper events → Joint n (plain_after n k lent events) (run n (fresh n k cells) events)
  joint_after cells lent l events all = joint_run n events (plain_fresh n k lent) (fresh n k cells) (joint_fresh cells lent l) (all_of_lem Proper events all)

  pub engines_equal : EnginesEqual n k
  engines_equal cells lent l events all = heard_over_lem n events (plain_fresh n k lent) (fresh n k cells) (joint_fresh cells lent l) (all_of_lem Proper events all)

  pub always_in_step : AlwaysInStep n k
  always_in_step cells lent l events all =
      let t = (joint_after cells lent l events all).together in
      let s : LogState = plain_after n k lent events in
      let st : Store = run n (fresh n k cells) events in record {
        accepted = together_formed s st.rec st.cells t;
        few = at_most s st.rec st.cells t;
        read_off = together_read s st.rec st.cells t;
      }

  -- ---- demand 3, and others
  module _ (Timely : List ℕ → Type 0) (K : Key) (P : List ℕ) (parts : List (List ℕ)) where
    plain_window : WakeWindow n k K P parts (λ events. Timely) → PlainWakeWindow n k K P parts Timely
    plain_window window cells lent l earlier calls start u c v split total number from reads missing =
        by_case (window cells earlier calls start u c v split total number from reads missing)
      where
        w : History
        w = follow n k K (begin n k cells earlier) u

        proper_before : Each Proper (earlier ++ u)
        proper_before = each_both Proper earlier u start.before (each_front Proper u (takes c ∷ v) (subst (Each Proper) split start.proper))

        q : EqualCall (plain_outcome (plain_after n k lent (earlier ++ u)) c) (outcome n (run n (fresh n k cells) (earlier ++ u)) c)
        q = equal_call n (plain_after n k lent (earlier ++ u)) (run n (fresh n k cells) (earlier ++ u)) (joint_after cells lent l (earlier ++ u) proper_before) c (start.proper u (takes c) v split)

        same_store : outcome n (run n (fresh n k cells) (earlier ++ u)) c ≡ outcome n (follow n k K (begin n k cells earlier) u).store c
        same_store = ap (λ (st : Store). outcome n st c) (run_more n earlier u (fresh n k cells) ∙ sym (store_run n k K u (begin n k cells earlier)))

        says : (a : After) → outcome n (follow n k K (begin n k cells earlier) u).store c ≡ a → (plain_outcome (plain_after n k lent (earlier ++ u)) c).answer ≡ a.answer
        says a e = q.answer ∙ ap (λ (b : After). b.answer) (same_store ∙ e)

        leaves : (a : After) → outcome n (follow n k K (begin n k cells earlier) u).store c ≡ a → (plain_outcome (plain_after n k lent (earlier ++ u)) c).output ≡ a.state.output
        leaves a e = q.output ∙ ap (λ (b : After). b.state.output) (same_store ∙ e)

        by_case : Served n k K P parts (follow n k K (begin n k cells earlier) u) c total number from
            → ServedPlainly n k K P parts (follow n k K (begin n k cells earlier) u) c number (plain_outcome (plain_after n k lent (earlier ++ u)) c)
        by_case (again r a b e) = plain.again a (says _ e) (leaves _ e)
        by_case (waits r i d a b e f g) = plain.waits i d a b (says _ e) (leaves _ e)
        by_case (wakes r a b f e) = plain.wakes a b (says _ e) (leaves _ e)

    -- what a call of the series behind its window hears, through either engine
    module _ (cells lent : List ℕ) (l : LentBoth n k cells lent) (earlier : List Event) (opening : Call) (calls : List Event)
        (start : Start n k K P parts Timely cells earlier (takes opening ∷ calls)) (u : List Event) (c : Call) (v : List Event)
        (of : OfSeries n k K P parts cells earlier opening calls u c v) where
      proper_u : Each Proper u
      proper_u = each_front Proper u (takes c ∷ v) (subst (Each Proper) of.split start.proper)

      proper_c : ProperCall c
      proper_c = start.proper u (takes c) v of.split

      both_hear : (w : List Event) → Each Proper w → plain_heard_by (plain_after n k lent (earlier ++ w)) (takes c) ≡ heard_by n (run n (fresh n k cells) (earlier ++ w)) (takes c)
      both_hear w all =
          heard_by_lem n (plain_after n k lent (earlier ++ w)) (run n (fresh n k cells) (earlier ++ w)) (joint_after cells lent l (earlier ++ w) (each_both Proper earlier w start.before all)) (takes c) proper_c

    seen : View → plain.Heard
    seen x = heard x.answer x.output

    plain_unseen : OthersUnseen n k K P parts Timely → PlainOthersUnseen n k K P parts Timely
    unfolding seen
    plain_unseen unseen cells lent l earlier opening calls start u c v of =
        let hear = both_hear cells lent l earlier opening calls start u c v of in
        let proper = proper_u cells lent l earlier opening calls start u c v of in
        hear u proper ∙ ap seen (unseen cells earlier opening calls start u c v of).same
        ∙ sym (hear (without_others k K u) (each Proper (without_others k K u) (all_without k K Proper u (all_of_lem Proper u proper))))

    plain_isolated : Isolated n k K P parts Timely → PlainIsolated n k K P parts Timely
    unfolding seen
    plain_isolated isolated cells lent l earlier opening calls calls' start start' c u v u' v' of of' same =
        both_hear cells lent l earlier opening calls start u c v of u (proper_u cells lent l earlier opening calls start u c v of)
        ∙ ap seen (isolated cells earlier opening calls calls' start start' c u v u' v' of of' same)
        ∙ sym (both_hear cells lent l earlier opening calls' start' u' c v' of' u' (proper_u cells lent l earlier opening calls' start' u' c v' of'))

  -- ---- order and repetition
  module _ (lent : List ℕ) (long : length lent ≡ log_octets) (events : List Event) (all : Each Proper events) where
    cells : List ℕ
    cells = replicate (cells_size n) 0

    both_lent : LentBoth n k cells lent
    unfolding cells
    both_lent = record { for_cells = length-replicate {A = ℕ} (cells_size n) 0; for_log = long }

    s₀ : LogState
    s₀ = plain_after n k lent events

    st₀ : Store
    st₀ = run n (fresh n k cells) events

    j₀ : Joint n s₀ st₀
    unfolding s₀ st₀
    j₀ = joint_after cells lent both_lent events all

    any_store : AnyStore n k st₀
    unfolding st₀
    any_store =
        let w : Kept n k (run n (fresh n k cells) events) = kept_fresh n good k (wake.admits k) cells both_lent.for_cells events all in
        let st : Store = run n (fresh n k cells) events in record {
          formed = rw (eq-eqb st.rec.count n w.sound.number, formed_told n st.rec.kind st.rec.slots w.sound.formed);
          kind = w.kind;
          size = w.sound.size;
        }

    repeated_part : (K : Key) (total number : ℕ) (own : List ℕ) (c d : Call) → BringsPart k K total number own c → BringsPart k K total number own d → (slot : ℕ) (mark : Bool)
        → (plain_outcome s₀ c).answer ≡ kept slot mark
        → (plain_heard_by (plain_outcome s₀ c).state (takes d) ≡ heard (held_already slot) d.output)
        × (plain.read_of n k (plain_outcome (plain_outcome s₀ c).state d).state ≡ plain.read_of n k (plain_outcome s₀ c).state)
    repeated_part K total number own c d b b' slot mark e =
        let j₁ = joint_by n s₀ st₀ j₀ (takes c) b.proper in
        let st₁ : Store = left (outcome n st₀ c) in
        let s₁ : LogState = (plain_outcome s₀ c).state in
        let j₂ = joint_by n s₁ st₁ j₁ (takes d) b'.proper in
        let h = shuffled.kept_then_held n k st₀ any_store K total number own c d b b' slot mark (sym (equal_call n s₀ st₀ j₀ c b.proper).answer ∙ e) in (
          heard_by_lem n s₁ st₁ j₁ (takes d) b'.proper ∙ ap (λ (a : After). heard a.answer a.state.output) h,
          read_joint n (plain_outcome s₁ d).state (left (outcome n st₁ d)) j₂ ∙ ap (λ (a : After). a.state.rec) h ∙ sym (read_joint n s₁ st₁ j₁),
        )

    exchanged_parts : (K : Key) (total total' number number' : ℕ) (own own' : List ℕ) (c d : Call)
        → BringsPart k K total number own c → BringsPart k K total' number' own' d → (number ≡ number' → ⊥)
        → (slot : ℕ) (mark : Bool) → (plain_outcome s₀ c).answer ≡ kept slot mark
        → (slot' : ℕ) (mark' : Bool) → (plain_outcome (plain_outcome s₀ c).state d).answer ≡ kept slot' mark' → PlainExchanged n k s₀ c d slot mark slot' mark'
    exchanged_parts K total total' number number' own own' c d b b' ne slot mark e slot' mark' f =
        let jc = joint_by n s₀ st₀ j₀ (takes c) b.proper in
        let jd = joint_by n s₀ st₀ j₀ (takes d) b'.proper in
        let sc : LogState = (plain_outcome s₀ c).state in
        let sd : LogState = (plain_outcome s₀ d).state in
        let stc : Store = left (outcome n st₀ c) in
        let std : Store = left (outcome n st₀ d) in
        let x : Exchanged n st₀ c d slot mark slot' mark' =
        shuffled.either_order n k st₀ any_store K total total' number number' own own' c d b b' ne slot mark (sym (equal_call n s₀ st₀ j₀ c b.proper).answer ∙ e) slot' mark' (sym (equal_call n sc stc jc d b'.proper).answer ∙ f) in
        record {
          same_slot = x.same_slot;
          no_second_mark = x.no_second_mark;
          first_answer = (equal_call n s₀ st₀ j₀ d b'.proper).answer ∙ x.first_answer;
          second_answer = (equal_call n sd std jd c b.proper).answer ∙ x.second_answer;
          equal = read_joint n (plain_outcome sd c).state (left (outcome n std c)) (joint_by n sd std jd (takes c) b.proper)
              ∙ ap (λ (st : Store). st.rec) x.equal
              ∙ sym (read_joint n (plain_outcome sc d).state (left (outcome n stc d)) (joint_by n sc stc jc (takes d) b'.proper));
        }

    shuffled_parts : (K : Key) (total : ℕ) (own : ℕ → List ℕ) (cs ds : List Call) (l m : List ℕ) → BringInOrder k K total own cs l → BringInOrder k K total own ds m
        → ((number : ℕ) → elem number l ≡ elem number m) → none_complete (plain_answers_of n k s₀ cs) ≡ true → PlainShuffled n k s₀ cs ds m
    shuffled_parts K total own cs ds l m b b' alike open' =
        let x : Shuffled n st₀ cs ds m =
        shuffled.any_order n k st₀ any_store K total own cs ds l m b b' alike (ap none_complete (sym (same_answers n k K total own cs l b s₀ st₀ j₀)) ∙ open') in
        let one = same_answers n k K total own cs l b s₀ st₀ j₀ in
        let other = same_answers n k K total own ds m b' s₀ st₀ j₀ in
        let jc = joint_run n (map takes cs) s₀ st₀ j₀ (all_brought k K total own cs l b) in
        let jd = joint_run n (map takes ds) s₀ st₀ j₀ (all_brought k K total own ds m b') in
        record {
          none_complete_lem = ap none_complete other ∙ x.none_complete_lem;
          equal = read_joint n (plain_run s₀ (map takes ds)) (run n st₀ (map takes ds)) jd ∙ ap (λ (st : Store). st.rec) x.equal
              ∙ sym (read_joint n (plain_run s₀ (map takes cs)) (run n st₀ (map takes cs)) jc);
          answered = other ∙ x.answered ∙ sym (same_alone n k K total own s₀ st₀ j₀ ds m b' []);
          slot = x.slot;
          one_slot = subst (AllName x.slot) (sym one) x.one_slot;
          same_slot = subst (AllName x.slot) (sym other) x.same_slot;
        }

  plain_kept_then_held : PlainKeptThenHeld n k
  unfolding s₀
  plain_kept_then_held lent long events all = repeated_part lent long events all

  plain_either_order : PlainEitherOrder n k
  unfolding s₀
  plain_either_order lent long events all = exchanged_parts lent long events all

  plain_any_order : PlainAnyOrder n k
  unfolding s₀
  plain_any_order lent long events all = shuffled_parts lent long events all

  -- 02's premise on beats, and the sharper one
  pub plain_engine : PlainEngine n k FewerThanLeast
  plain_engine = record {
    engines_equal = engines_equal;
    always_in_step = always_in_step;
    wake_window = λ K P parts. plain_window FewerThanLeast K P parts (wake.wake_window_least n good k K P parts);
    others_unseen = λ K P parts. plain_unseen FewerThanLeast K P parts ((others.others_do_not_show n good).others_unseen k K P parts);
    isolated = λ K P parts. plain_isolated FewerThanLeast K P parts ((others.others_do_not_show n good).isolated k K P parts);
    kept_then_held = plain_kept_then_held;
    either_order = plain_either_order;
    any_order = plain_any_order;
  }

  pub plain_engine_sharp : PlainEngine n k InTime
  plain_engine_sharp = record {
    engines_equal = engines_equal;
    always_in_step = always_in_step;
    wake_window = λ K P parts. plain_window InTime K P parts (wake.wake_window n good k K P parts);
    others_unseen = λ K P parts. plain_unseen InTime K P parts ((others.others_do_not_show_sharp n good).others_unseen k K P parts);
    isolated = λ K P parts. plain_isolated InTime K P parts ((others.others_do_not_show_sharp n good).isolated k K P parts);
    kept_then_held = plain_kept_then_held;
    either_order = plain_either_order;
    any_order = plain_any_order;
  }
