-- Counter judgement. A call leaves the table, or stores a higher counter in the one entry of the command's TAR (`Step`); so no entry's number
-- falls and no TAR changes (`NotBelow`), and this goes on from call to call. Where an entry is found depends on the TARs alone, so a command finds
-- the same entry later, with a number that is not below its own.
use Prim.Native.Nat.{ℕ, zero, suc, ◌+◌, ◌*◌, ◌≤◌, ◌<◌}
use mathlib.Core.Path.{◌≡◌, refl, sym, ap, ◌∙◌, subst}
use mathlib.Core.Bool.{Bool, true, false, cond, ◌&&◌, ◌||◌, or-true}
use mathlib.Core.List.{List, [], ◌∷◌, ◌++◌}
use mathlib.Core.Logic.{◌⊎◌, inl, inr, ⊎_elim}
use mathlib.Core.Option.{none, some}
use native.Mathlib.Omega.{arith}
use lib.ListN.{length, take, set, length-take, length-set}
use lib.Seq.{get_or-take, get_or-set_same, get_or-set_other}
use lib.Dec.{eqb, ltb, leb}
use borrow.Author.Tests.{eqb-true, eqb-false, eq-eqb, ne_eqb, ltb-true, ltb-false, lt-ltb, le-ltb, leb-false, le-leb, lt-leb}
use Rattle.octets.specs.Octets.{Octets}
use Rattle.octets.specs.Tests.{clash, both, by_test, Same, same, other, same?}
use Rattle.types.specs.declared.Kind.TheVariants.{Command}
use Rattle.types.specs.declared.Tar.{Tar}
use Rattle.types.specs.declared.Cntr.{Cntr}
use Rattle.types.specs.declared.CounterEntry.{CounterEntry}
use Rattle.types.specs.declared.Counters.{Counters}
use Rattle.types.specs.Refusals.{Outcome, refused, gives, refuse◌when◌otherwise◌}
use Rattle.packet.specs.Packets.{Parsed, fields_of, ciphered_command, measured, readable, parsing}
use Rattle.packet.specs.Laws.{readable_formed}
use Rattle.packet.specs.Told.{counter_octets}
use Rattle.packet.specs.Judging.{and_then, readable_then, readable_gives}
use Rattle.counters.specs.Counters.{counter_number, all_ones, most_counters, in_use, zero_entry, entry_at, same_tar, place_of, has_tar, named_twice, unfit_counters, with_counter, command_tar, command_counter, counter_bits, checks_counter, answers◌when◌otherwise◌, counter_status, judged_at, judged_by, Assessed, assessed, or_leaves, judge_counter}
use Rattle.trips.specs.Counters.{FitTable, JudgesOrRefuses, EachStatus, UnknownTar, precedes, CountersAsNumbers, counters_after, stored_for, NotLower, NeverFalls, OfNone, OthersStay, StoresOrLeaves, NeverAgain, NeverTwice, counter_examples, EveryStatus, CounterJudgement}

-- ---- where an entry is found
same_is : (a b : Tar) → same_tar a b ≡ true → a ≡ b
same_is a b e =
    let (f, r) = both (eqb a.0 b.0 && eqb a.1 b.1) (eqb a.2 b.2) e in
    let (p, q) = both (eqb a.0 b.0) (eqb a.1 b.1) f in
    λ i. (eqb-true a.0 b.0 p i, eqb-true a.1 b.1 q i, eqb-true a.2 b.2 r i)

is_same : (a b : Tar) → a ≡ b → same_tar a b ≡ true
is_same a b e = rw (e, eq-eqb b.0 b.0 refl, eq-eqb b.1 b.1 refl, eq-eqb b.2 b.2 refl)

place_is : (t : Tar) (es : List CounterEntry) → place_of t es < length es → (entry_at es (place_of t es)).tar ≡ t
unfolding place_of
place_is t [] l = absurd (omega arith)
place_is t (e ∷ es) l = go (same_tar e.tar t) refl l (place_is t es)
  where
    go : (b : Bool) → same_tar e.tar t ≡ b → cond b 0 (suc (place_of t es)) < suc (length es) → (place_of t es < length es → (entry_at es (place_of t es)).tar ≡ t)
        → (entry_at (e ∷ es) (cond b 0 (suc (place_of t es)))).tar ≡ t
    go true h m ih = same_is e.tar t h
    go false h m ih = ih (omega arith)

place_below : (t : Tar) (es : List CounterEntry) (j : ℕ) → j < length es → (entry_at es j).tar ≡ t → place_of t es ≤ j
unfolding place_of
place_below t [] j l e = absurd (omega arith)
place_below t (x ∷ es) zero l e = rw (is_same x.tar t e) (omega arith)
place_below t (x ∷ es) (suc j) l e = go (same_tar x.tar t) (place_below t es j (omega arith) e)
  where
    go : (b : Bool) → place_of t es ≤ j → cond b 0 (suc (place_of t es)) ≤ suc j
    go true h = omega arith
    go false h = omega arith

-- ---- a TAR named twice
twice_pair : (es : List CounterEntry) (i j : ℕ) → i < j → j < length es → (entry_at es i).tar ≡ (entry_at es j).tar → named_twice es ≡ true
unfolding named_twice
twice_pair [] i j l m e = absurd (omega arith)
twice_pair (x ∷ es) zero zero l m e = absurd (omega arith)
twice_pair (x ∷ es) zero (suc j) l m e =
    let q = place_below x.tar es j (omega arith) (sym e) in rw (lt-ltb (place_of x.tar es) (length es) (omega arith))
twice_pair (x ∷ es) (suc i) zero l m e = absurd (omega arith)
twice_pair (x ∷ es) (suc i) (suc j) l m e = rw (twice_pair es i j (omega arith) (omega arith) e) (or-true (has_tar x.tar es))

twice_none : (es : List CounterEntry) → ((i j : ℕ) → i < j → j < length es → (entry_at es i).tar ≡ (entry_at es j).tar → ⊥) → named_twice es ≡ false
unfolding named_twice
twice_none [] h = refl
twice_none (x ∷ es) h = rw (first, twice_none es (λ i j l m e. h (suc i) (suc j) (omega arith) (omega arith) e))
  where
    first : has_tar x.tar es ≡ false
    first = by_test (has_tar x.tar es) (λ t. let l = ltb-true (place_of x.tar es) (length es) t in absurd (h zero (suc (place_of x.tar es)) (omega arith) (omega arith) (sym (place_is x.tar es l)))) (λ f. f)

-- ---- the TARs alone decide
record SameTars (es fs : List CounterEntry) : Type 0 where
  long : length fs ≡ length es
  tars : (i : ℕ) → (entry_at fs i).tar ≡ (entry_at es i).tar

rest : (e f : CounterEntry) (es fs : List CounterEntry) → SameTars (e ∷ es) (f ∷ fs) → SameTars es fs
rest e f es fs s = record { long = omega (arith, s.long); tars = λ i. s.tars (suc i) }

first_same : (e f : CounterEntry) (es fs : List CounterEntry) → SameTars (e ∷ es) (f ∷ fs) → f.tar ≡ e.tar
first_same e f es fs s = s.tars 0

place_same : (t : Tar) (n : ℕ) (es fs : List CounterEntry) → SameTars es fs → place_of t (take n fs) ≡ place_of t (take n es)
unfolding place_of
place_same t zero es fs s = refl
place_same t (suc n) [] [] s = refl
place_same t (suc n) [] (f ∷ fs) s = absurd (omega (arith, s.long))
place_same t (suc n) (e ∷ es) [] s = absurd (omega (arith, s.long))
place_same t (suc n) (e ∷ es) (f ∷ fs) s = rw (first_same e f es fs s, place_same t n es fs (rest e f es fs s))

has_same : (t : Tar) (n : ℕ) (es fs : List CounterEntry) → SameTars es fs → has_tar t (take n fs) ≡ has_tar t (take n es)
has_same t n es fs s = rw (place_same t n es fs s, length-take, length-take, s.long)

twice_same : (n : ℕ) (es fs : List CounterEntry) → SameTars es fs → named_twice (take n fs) ≡ named_twice (take n es)
unfolding named_twice
twice_same zero es fs s = refl
twice_same (suc n) [] [] s = refl
twice_same (suc n) [] (f ∷ fs) s = absurd (omega (arith, s.long))
twice_same (suc n) (e ∷ es) [] s = absurd (omega (arith, s.long))
twice_same (suc n) (e ∷ es) (f ∷ fs) s =
    rw (first_same e f es fs s, has_same e.tar n es fs (rest e f es fs s), twice_same n es fs (rest e f es fs s))

-- ---- the status
pub each_status : EachStatus
unfolding counter_status
each_status = record {
  unchecked = λ bits stored counter l. rw (lt-leb 2 bits l);
  blocked = λ bits counter l. rw (le-leb 2 bits l);
  low = λ bits stored counter l m n. rw (le-leb 2 bits l, ne_eqb stored all_ones (λ e. omega arith), le-leb counter stored n);
  higher = λ stored counter m n. rw (ne_eqb stored all_ones (λ e. omega arith), lt-leb counter stored n);
  next = λ stored m. rw (ne_eqb stored all_ones (λ e. omega arith), lt-leb (stored + 1) stored (omega arith), le-ltb (stored + 1) (stored + 1) (omega arith));
  high = λ stored counter m n. rw (ne_eqb stored all_ones (λ e. omega arith), lt-leb counter stored (omega arith), lt-ltb (stored + 1) counter n);
}

-- what is accepted is higher
accepted : (bits stored counter : ℕ) → leb 2 bits ≡ true → counter_status bits stored counter ≡ 0 → stored < counter
unfolding counter_status
accepted bits stored counter t e = by_test (leb counter stored) (λ l. absurd (go (eqb stored all_ones) (rw (t, l) at e))) (leb-false counter stored)
  where
    go : (b : Bool) → (answers 4 when b otherwise 2) ≡ 0 → ⊥
    go true z = omega arith
    go false z = omega arith

-- what is not higher is not accepted
refused_again : (bits stored counter : ℕ) → leb 2 bits ≡ true → counter ≤ stored → (counter_status bits stored counter ≡ 2) ⊎ (counter_status bits stored counter ≡ 4)
unfolding counter_status
refused_again bits stored counter t l = by_test (eqb stored all_ones) (λ b. inr (rw (t, b))) (λ b. inl (rw (t, b, le-leb counter stored l)))

-- ---- one call
-- it leaves the table, or the counter is stored in the entry of its TAR, where a lower one was
data Step (c : Counters) (p : List ℕ) (a : Assessed) : Type 0 where
  leaves : a.counters ≡ c → (a.answer ≡ gives 0 → checks_counter (counter_bits p) ≡ true → ⊥) → Step c p a
  stores : parsing Command (ciphered_command p) p ≡ gives (measured (fields_of Command (ciphered_command p) p)) → ciphered_command p ≡ false
      → unfit_counters c ≡ false → has_tar (command_tar p) (in_use c) ≡ true → checks_counter (counter_bits p) ≡ true
      → counter_number (entry_at c.entries (place_of (command_tar p) (in_use c))).cntr < counter_number (command_counter p)
      → a ≡ assessed (gives 0) (with_counter c (place_of (command_tar p) (in_use c)) (command_counter p)) → Step c p a

-- a packet that parsing does not refuse
parsed_reads : {A : Type 0} (p : List ℕ) (x : Parsed) (o : Outcome A) → parsing Command (ciphered_command p) p ≡ gives x → readable Command (ciphered_command p) p o ≡ o
unfolding parsing
parsed_reads p x o e =
    let r = (readable_gives Command (ciphered_command p) p (measured (fields_of Command (ciphered_command p) p)) x (sym e)).0 in
    readable_formed Command (ciphered_command p) p o r.formed r.size r.checked

-- against its entry
at_entry : (c : Counters) (p : List ℕ) → parsing Command (ciphered_command p) p ≡ gives (measured (fields_of Command (ciphered_command p) p)) → ciphered_command p ≡ false
    → unfit_counters c ≡ false → has_tar (command_tar p) (in_use c) ≡ true → Step c p (or_leaves c (gives (judged_at c (place_of (command_tar p) (in_use c)) p)))
at_entry c p parsed plain fit has = go (checks_counter (counter_bits p)) refl (eqb s 0) refl
  where
    s : ℕ
    s = counter_status (counter_bits p) (counter_number (entry_at c.entries (place_of (command_tar p) (in_use c))).cntr) (counter_number (command_counter p))

    go : (t : Bool) → checks_counter (counter_bits p) ≡ t → (z : Bool) → eqb s 0 ≡ z
        → Step c p (assessed (gives s) (cond (t && z) (with_counter c (place_of (command_tar p) (in_use c)) (command_counter p)) c))
    go true e true f =
        let z = eqb-true s 0 f in
        stores parsed plain fit has e (accepted (counter_bits p) _ _ e z) (ap (λ (n : ℕ). assessed (gives n) (with_counter c (place_of (command_tar p) (in_use c)) (command_counter p))) z)
    go true e false f = leaves refl (λ g t. eqb-false s 0 f (cc))
    go false e z f = leaves refl (λ g t. clash (checks_counter (counter_bits p)) t e)

-- the refusals of reading first, and then what is left
abbrev behind_reading : Counters → List ℕ → Outcome (ℕ × Counters)
behind_reading c p = refuse 10 when ciphered_command p otherwise refuse 19 when unfit_counters c otherwise gives (judged_by c p)

judge_then : (c : Counters) (p : List ℕ) → judge_counter c p ≡ or_leaves c (and_then (readable Command (ciphered_command p) p (gives 0)) (behind_reading c p))
unfolding judge_counter
judge_then c p = ap (or_leaves c) (readable_then Command (ciphered_command p) p 0 (behind_reading c p))

parsing_then : (p : List ℕ) → parsing Command (ciphered_command p) p ≡ and_then (readable Command (ciphered_command p) p (gives 0)) (gives (measured (fields_of Command (ciphered_command p) p)))
unfolding parsing
parsing_then p = readable_then Command (ciphered_command p) p 0 (gives (measured (fields_of Command (ciphered_command p) p)))

step_of : (c : Counters) (p : List ℕ) → Step c p (judge_counter c p)
unfolding judged_by
step_of c p =
    subst (Step c p) (sym (judge_then c p))
    (go (readable Command (ciphered_command p) p (gives 0)) refl (ciphered_command p) refl (unfit_counters c) refl (has_tar (command_tar p) (in_use c)) refl)
  where
    go : (r : Outcome ℕ) → readable Command (ciphered_command p) p (gives 0) ≡ r → (x : Bool) → ciphered_command p ≡ x → (u : Bool) → unfit_counters c ≡ u
        → (h : Bool) → has_tar (command_tar p) (in_use c) ≡ h
        → Step c p (or_leaves c (and_then r (refuse 10 when x otherwise refuse 19 when u otherwise gives (cond h (judged_at c (place_of (command_tar p) (in_use c)) p) (0x09, c)))))
    go (refused n) i x j u k h l = leaves refl (λ g t. let z : ◌≡◌ {A = ℕ} 0 1 = cc in omega arith)
    go (gives n) i true j u k h l = leaves refl (λ g t. let z : ◌≡◌ {A = ℕ} 0 1 = cc in omega arith)
    go (gives n) i false j true k h l = leaves refl (λ g t. let z : ◌≡◌ {A = ℕ} 0 1 = cc in omega arith)
    go (gives n) i false j false k false l = leaves refl (λ g t. let z : ◌≡◌ {A = ℕ} 9 0 = cc in omega arith)
    go (gives n) i false j false k true l = at_entry c p (parsing_then p ∙ rw i) j k l

-- ---- what a table is not below
record NotBelow (c d : Counters) : Type 0 where
  count : d.count ≡ c.count
  same : SameTars c.entries d.entries
  up : (i : ℕ) → counter_number (entry_at c.entries i).cntr ≤ counter_number (entry_at d.entries i).cntr

none_below : (c : Counters) → NotBelow c c
none_below c = record { count = refl; same = record { long = refl; tars = λ i. refl }; up = λ i. omega arith }

then_below : (c d e : Counters) → NotBelow c d → NotBelow d e → NotBelow c e
then_below c d e f g = record {
  count = g.count ∙ f.count;
  same = record { long = g.same.long ∙ f.same.long; tars = λ i. g.same.tars i ∙ f.same.tars i };
  up = λ i. omega (arith, f.up i, g.up i);
}

-- the entry that is found for a TAR: in use, there, and with that TAR
record Found (t : Tar) (c : Counters) : Type 0 where
  used : place_of t (in_use c) < c.count
  there : place_of t (in_use c) < length c.entries
  tar : (entry_at c.entries (place_of t (in_use c))).tar ≡ t

found : (t : Tar) (c : Counters) → has_tar t (in_use c) ≡ true → Found t c
found t c h =
    let l = ltb-true (place_of t (in_use c)) (length (in_use c)) h in
    let m : length (in_use c) ≤ c.count = simp length-take (omega arith) in
    let n : length (in_use c) ≤ length c.entries = simp length-take (omega arith) in
    let u : place_of t (in_use c) < c.count = omega arith in
    record {
      used = u;
      there = omega arith;
      tar = sym (ap (λ (e : CounterEntry). e.tar) (get_or-take c.count c.entries (place_of t (in_use c)) zero_entry u)) ∙ place_is t (in_use c) l;
    }

-- and it is found at the same place in a table with the same TARs
module _ (t : Tar) (c d : Counters) (n : NotBelow c d) where
  found_place : place_of t (in_use d) ≡ place_of t (in_use c)
  found_place = rw n.count (place_same t c.count c.entries d.entries n.same)

  found_still : has_tar t (in_use d) ≡ has_tar t (in_use c)
  found_still = rw n.count (has_same t c.count c.entries d.entries n.same)

fit_still : (c d : Counters) → NotBelow c d → unfit_counters d ≡ unfit_counters c
fit_still c d n = rw (n.count, twice_same c.count c.entries d.entries n.same)

-- a higher counter in one entry
module _ (c : Counters) (i : ℕ) (n : Cntr) (there : i < length c.entries) where
  abbrev new : CounterEntry
  new = record { tar = (entry_at c.entries i).tar; cntr = n }

  at_place : entry_at (set c.entries i new) i ≡ new
  at_place = get_or-set_same c.entries i new zero_entry there

  stored_up : counter_number (entry_at c.entries i).cntr ≤ counter_number n → NotBelow c (with_counter c i n)
  stored_up l = record {
    count = refl;
    same = record { long = length-set c.entries i new; tars = λ j. tar j (same? j i) };
    up = λ j. higher j (same? j i);
  }
    where
      tar : (j : ℕ) → Same j i → (entry_at (set c.entries i new) j).tar ≡ (entry_at c.entries j).tar
      tar j (same b e) = rw (e, at_place)
      tar j (other b ne) = rw (get_or-set_other c.entries i j new zero_entry ne)

      higher : (j : ℕ) → Same j i → counter_number (entry_at c.entries j).cntr ≤ counter_number (entry_at (set c.entries i new) j).cntr
      higher j (same b e) = rw (e, at_place) l
      higher j (other b ne) = rw (get_or-set_other c.entries i j new zero_entry ne) (omega arith)

step_up : (c : Counters) (p : List ℕ) (a : Assessed) → Step c p a → NotBelow c a.counters
step_up c p a (leaves e f) = rw e (none_below c)
step_up c p a (stores r x u h t l e) =
    rw e (stored_up c (place_of (command_tar p) (in_use c)) (command_counter p) (found (command_tar p) c h).there (omega arith))

run_up : (c : Counters) (ps : List (List ℕ)) → NotBelow c (counters_after c ps)
run_up c [] = none_below c
run_up c (p ∷ ps) =
    let d = (judge_counter c p).counters in then_below c d (counters_after d ps) (step_up c p (judge_counter c p) (step_of c p)) (run_up d ps)

-- ---- a stored counter never falls
not_lower : (t : Tar) (c d : Counters) → NotBelow c d → (n : ℕ) → stored_for t c ≡ some n → NotLower t n d
not_lower t c d b n e = go (has_tar t (in_use c)) refl e
  where
    go : (h : Bool) → has_tar t (in_use c) ≡ h → cond h (some (counter_number (entry_at c.entries (place_of t (in_use c))).cntr)) none ≡ some n → NotLower t n d
    go true h z =
        let m : counter_number (entry_at c.entries (place_of t (in_use c))).cntr ≡ n = cc in
        record {
          number = counter_number (entry_at d.entries (place_of t (in_use c))).cntr;
          stored = rw (found_still t c d b ∙ h, found_place t c d b);
          higher = omega (arith, m, b.up (place_of t (in_use c)));
        }
    go false h z = let w : ◌≡◌ {A = ℕ} 0 1 = cc in absurd (omega arith)

pub never_falls : NeverFalls
never_falls c ps t n = not_lower t c (counters_after c ps) (run_up c ps) n

-- ---- the other entries
step_keeps : (c : Counters) (p : List ℕ) (a : Assessed) → Step c p a → (j : ℕ) → (((entry_at c.entries j).tar ≡ command_tar p → ⊥) ⊎ (c.count ≤ j))
    → entry_at a.counters.entries j ≡ entry_at c.entries j
step_keeps c p a (leaves e f) j ne = rw e
step_keeps c p a (stores r x u h t l e) j ne =
    let w = found (command_tar p) c h in
    rw e
    (get_or-set_other c.entries (place_of (command_tar p) (in_use c)) j (new c (place_of (command_tar p) (in_use c)) (command_counter p) w.there) zero_entry
    (λ q. ⊎_elim (λ (g : (entry_at c.entries j).tar ≡ command_tar p → ⊥). g (rw q w.tar)) (λ (g : c.count ≤ j). omega (arith, w.used)) ne))

run_unused : (c : Counters) (ps : List (List ℕ)) (i : ℕ) → c.count ≤ i → entry_at (counters_after c ps).entries i ≡ entry_at c.entries i
run_unused c [] i l = refl
run_unused c (p ∷ ps) i l =
    let n = step_up c p (judge_counter c p) (step_of c p) in
    run_unused (judge_counter c p).counters ps i (omega (arith, n.count)) ∙ step_keeps c p (judge_counter c p) (step_of c p) i (inr l)

run_others : (c : Counters) (ps : List (List ℕ)) (i : ℕ) → OfNone (entry_at c.entries i).tar ps → entry_at (counters_after c ps).entries i ≡ entry_at c.entries i
run_others c [] i h = refl
run_others c (p ∷ ps) i h =
    let n = step_up c p (judge_counter c p) (step_of c p) in
    run_others (judge_counter c p).counters ps i (λ u q v e t. h (p ∷ u) q v (ap (λ (r : List (List ℕ)). p ∷ r) e) (sym (n.same.tars i) ∙ t))
    ∙ step_keeps c p (judge_counter c p) (step_of c p) i (inl (h [] p ps refl))

pub others_stay : (c : Counters) (ps : List (List ℕ)) → OthersStay c ps
others_stay c ps = record {
  count = (run_up c ps).count;
  entries = (run_up c ps).same.long;
  tars = (run_up c ps).same.tars;
  unused = run_unused c ps;
  others = run_others c ps;
}

-- ---- what one call leaves
module _ (c : Counters) (p : List ℕ) (a : Assessed) where
  left_other : Step c p a → (s : ℕ) → a.answer ≡ gives s → (s ≡ 0 → ⊥) → a.counters ≡ c
  left_other (leaves e f) s g ne = e
  left_other (stores r x u h t l e) s g ne =
      let z : gives s ≡ gives 0 = sym g ∙ ap (λ (b : Assessed). b.answer) e in absurd (ne (cc))

  left_unchecked : Step c p a → checks_counter (counter_bits p) ≡ false → a.counters ≡ c
  left_unchecked (leaves e f) n = e
  left_unchecked (stores r x u h t l e) n = absurd (clash (checks_counter (counter_bits p)) t n)

  -- the entry that is found holds the counter
  step_stored : Step c p a → a.answer ≡ gives 0 → checks_counter (counter_bits p) ≡ true
      → (has_tar (command_tar p) (in_use a.counters) ≡ true) × ((entry_at a.counters.entries (place_of (command_tar p) (in_use a.counters))).cntr ≡ command_counter p)
  step_stored (leaves e f) g t = absurd (f g t)
  step_stored (stores r x u h t' l e) g t =
      let w = found (command_tar p) c h in
      let i = place_of (command_tar p) (in_use c) in
      let n = stored_up c i (command_counter p) w.there (omega arith) in
      rw e (
        found_still (command_tar p) c (with_counter c i (command_counter p)) n ∙ h,
        rw (found_place (command_tar p) c (with_counter c i (command_counter p)) n, at_place c i (command_counter p) w.there),
      )

pub stores_or_leaves : (c : Counters) (p : List ℕ) → StoresOrLeaves c p
stores_or_leaves c p = record {
  other_status = left_other c p (judge_counter c p) (step_of c p);
  no_check = left_unchecked c p (judge_counter c p) (step_of c p);
  stored = λ g t. let (h, e) = step_stored c p (judge_counter c p) (step_of c p) g t in rw (h, e);
}

-- ---- never again
run_behind : (c : Counters) (before : List (List ℕ)) (p : List ℕ) (between : List (List ℕ))
    → counters_after c (before ++ p ∷ between) ≡ counters_after (judge_counter (counters_after c before) p).counters between
run_behind c [] p between = refl
run_behind c (b ∷ before) p between = run_behind (judge_counter c b).counters before p between

-- what was accepted could be read, was plain, and found a table that is not refused
module _ (c : Counters) (p : List ℕ) (a : Assessed) where
  accepted_parsed : Step c p a → a.answer ≡ gives 0 → checks_counter (counter_bits p) ≡ true
      → (parsing Command (ciphered_command p) p ≡ gives (measured (fields_of Command (ciphered_command p) p))) × (ciphered_command p ≡ false) × (unfit_counters c ≡ false)
  accepted_parsed (leaves e f) g t = absurd (f g t)
  accepted_parsed (stores r x u h t' l e) g t = (r, x, u)

-- what can be read
judge_reads : (c : Counters) (p : List ℕ) (x : Parsed) → parsing Command (ciphered_command p) p ≡ gives x → judge_counter c p ≡ or_leaves c (behind_reading c p)
unfolding judge_counter
judge_reads c p x e = ap (or_leaves c) (parsed_reads p x (behind_reading c p) e)

-- a command with a counter that is not higher than the one that is found
module _ (d : Counters) (q : List ℕ) (x : Parsed) (parsed : parsing Command (ciphered_command q) q ≡ gives x) (plain : ciphered_command q ≡ false)
    (fit : unfit_counters d ≡ false) where
  judged_is : judge_counter d q ≡ or_leaves d (gives (judged_by d q))
  judged_is = judge_reads d q x parsed ∙ rw (plain, fit)

  not_higher : has_tar (command_tar q) (in_use d) ≡ true → checks_counter (counter_bits q) ≡ true
      → counter_number (command_counter q) ≤ counter_number (entry_at d.entries (place_of (command_tar q) (in_use d))).cntr
      → ((judge_counter d q).answer ≡ gives 0x02) ⊎ ((judge_counter d q).answer ≡ gives 0x04)
  unfolding judged_by
  not_higher h t l = ⊎_elim (λ e. inl (answer ∙ ap gives e)) (λ e. inr (answer ∙ ap gives e)) (refused_again (counter_bits q) stored (counter_number (command_counter q)) t l)
    where
      stored : ℕ
      stored = counter_number (entry_at d.entries (place_of (command_tar q) (in_use d))).cntr

      answer : (judge_counter d q).answer ≡ gives (counter_status (counter_bits q) stored (counter_number (command_counter q)))
      answer = ap (λ (b : Assessed). b.answer) judged_is ∙ rw h

pub never_again : NeverAgain
never_again c before between p q g t x parsed plain checks tar low =
    let d₀ = counters_after c before in
    let d₁ = (judge_counter d₀ p).counters in
    let d₂ = counters_after d₁ between in
    let s = step_of d₀ p in
    let first = step_up d₀ p (judge_counter d₀ p) s in
    let later = run_up d₁ between in
    let (h, e) = step_stored d₀ p (judge_counter d₀ p) s g t in
    let fit : unfit_counters d₂ ≡ false = fit_still d₁ d₂ later ∙ fit_still d₀ d₁ first ∙ (accepted_parsed d₀ p (judge_counter d₀ p) s g t).2 in
    let has : has_tar (command_tar q) (in_use d₂) ≡ true = rw tar (found_still (command_tar p) d₁ d₂ later ∙ h) in
    let place : place_of (command_tar q) (in_use d₂) ≡ place_of (command_tar p) (in_use d₁) = rw tar (found_place (command_tar p) d₁ d₂ later) in
    let up = rw e at (later.up (place_of (command_tar p) (in_use d₁))) in
    rw (run_behind c before p between) (not_higher d₂ q x parsed plain fit has checks (rw place (omega arith)))

pub never_twice : NeverTwice
never_twice c before between p g t =
    let (r, x, u) = accepted_parsed (counters_after c before) p (judge_counter (counters_after c before) p) (step_of (counters_after c before) p) g t in
    never_again c before between p p g t _ r x t refl (omega arith)

-- ---- refusals
pub judges_or_refuses : (c : Counters) (p : List ℕ) → JudgesOrRefuses c p
judges_or_refuses c p = record {
  parsings = λ n e. judge_then c p ∙ ap (or_leaves c) (first n (measured (fields_of Command (ciphered_command p) p)) (behind_reading c p) (readable Command (ciphered_command p) p (gives 0)) (sym (parsing_then p) ∙ e));
  ten = λ x e t. judge_reads c p x e ∙ rw t;
  nineteen_many = λ x e t l. judge_reads c p x e ∙ rw (t, lt-ltb most_counters c.count l);
  nineteen_twice = λ x e t i j l m n same. judge_reads c p x e ∙ rw (t, twice i j l m n same, or-true (ltb most_counters c.count));
  given = λ x e t f. judged_is c p x e t (rw (le-ltb most_counters c.count f.few, none f));
}
  where
    first : {A B : Type 0} (n : ℕ) (o : A) (x : Outcome B) (r : Outcome ℕ) → and_then r (gives o) ≡ refused n → and_then r x ≡ refused n
    first n o x (refused m) e = let z : m ≡ n = cc in ap refused z
    first n o x (gives m) e = let z : ◌≡◌ {A = ℕ} 0 1 = cc in absurd (omega arith)

    twice : (i j : ℕ) → i < j → j < c.count → j < length c.entries → (entry_at c.entries i).tar ≡ (entry_at c.entries j).tar → named_twice (in_use c) ≡ true
    twice i j l m n e =
        twice_pair (in_use c) i j l (simp length-take (omega arith))
        (rw (get_or-take c.count c.entries i zero_entry (omega arith), get_or-take c.count c.entries j zero_entry m) e)

    none : FitTable c → named_twice (in_use c) ≡ false
    none f =
        twice_none (in_use c)
        (λ i j l m e.
        let k : length (in_use c) ≤ c.count = simp length-take (omega arith) in
        let n : j < c.count = omega arith in
        f.differ i j l n (rw (get_or-take c.count c.entries i zero_entry (omega arith), get_or-take c.count c.entries j zero_entry n) at e))

pub unknown_tar : UnknownTar
unfolding judged_by
unknown_tar c p ne = by_test (has_tar (command_tar p) (in_use c)) (λ h. let w = found (command_tar p) c h in absurd (ne (place_of (command_tar p) (in_use c)) w.used w.tar)) (λ h. rw h)

-- ---- counters as numbers
-- the number that octets behind A make
number : ℕ → List ℕ → ℕ
number A [] = A
number A (a ∷ o) = number (A * 256 + a) o

same_less : (m n a b : ℕ) → (a < b → m < n) → (b ≤ a → n ≤ m) → ltb m n ≡ ltb a b
same_less m n a b f g = by_test (ltb a b) (λ t. rw t (lt-ltb m n (f (ltb-true a b t)))) (λ t. rw t (le-ltb m n (g (ltb-false a b t))))

same_equal : (m n a b : ℕ) → (a ≡ b → m ≡ n) → (m ≡ n → a ≡ b) → eqb m n ≡ eqb a b
same_equal m n a b f g = by_test (eqb a b) (λ t. rw t (eq-eqb m n (f (eqb-true a b t)))) (λ t. rw t (ne_eqb m n (λ e. eqb-false a b t (g e))))

-- an octet decides only where all before it are the same
digit : (A B a b : ℕ) (r : Bool) → a < 256 → b < 256
    → ltb (A * 256 + a) (B * 256 + b) || (eqb (A * 256 + a) (B * 256 + b) && r) ≡ ltb A B || (eqb A B && (ltb a b || (eqb a b && r)))
digit A B a b r k l =
    by_test (ltb A B) (λ t. let m = ltb-true A B t in rw (t, lt-ltb (A * 256 + a) (B * 256 + b) (omega arith))) (λ t. go t (ltb-false A B t) (same? A B))
  where
    go : ltb A B ≡ false → B ≤ A → Same A B → ltb (A * 256 + a) (B * 256 + b) || (eqb (A * 256 + a) (B * 256 + b) && r) ≡ ltb A B || (eqb A B && (ltb a b || (eqb a b && r)))
    go t m (same p q) =
        rw (t, p, same_less (A * 256 + a) (B * 256 + b) a b (λ u. omega arith) (λ u. omega arith), same_equal (A * 256 + a) (B * 256 + b) a b (λ u. omega arith) (λ u. omega arith))
    go t m (other p q) = rw (t, p, le-ltb (A * 256 + a) (B * 256 + b) (omega arith), ne_eqb (A * 256 + a) (B * 256 + b) (λ u. omega arith))

numbers_ordered : (A B : ℕ) (o q : List ℕ) → length o ≡ length q → Octets o → Octets q → ltb (number A o) (number B q) ≡ ltb A B || (eqb A B && precedes o q)
unfolding number precedes
numbers_ordered A B [] [] l f g = go (ltb A B) (eqb A B)
  where
    go : (x y : Bool) → x ≡ x || (y && false)
    go true y = refl
    go false true = refl
    go false false = refl
numbers_ordered A B [] (b ∷ q) l f g = absurd (omega arith)
numbers_ordered A B (a ∷ o) [] l f g = absurd (omega arith)
numbers_ordered A B (a ∷ o) (b ∷ q) l f g =
    numbers_ordered (A * 256 + a) (B * 256 + b) o q (omega arith) (λ i. f (suc i)) (λ i. g (suc i)) ∙ digit A B a b (precedes o q) (f 0) (g 0)

as_number : (n : Cntr) → counter_number n ≡ number 0 (counter_octets n [])
unfolding counter_number number
as_number n = omega arith

pub as_numbers : CountersAsNumbers
unfolding counter_number
as_numbers = record {
  ordered = λ a b f g. rw (as_number a, as_number b) (numbers_ordered 0 0 (counter_octets a []) (counter_octets b []) refl f g);
  all_ones_lem = refl;
  greatest = λ a f. omega (arith, f 0, f 1, f 2, f 3, f 4);
}

-- ---- the examples, by computing
examples_right : EveryStatus counter_examples
unfolding judge_counter judged_by counter_status counter_number place_of named_twice
examples_right = (refl, (refl, (refl, (refl, (refl, (refl, (refl, (refl, (refl, (refl, (refl, (refl, (refl, (refl, (refl, (refl, (refl, (refl, (refl, (refl, tt))))))))))))))))))))

pub counter_judgement : CounterJudgement
counter_judgement = record {
  judges_or_refuses = judges_or_refuses;
  each_status = each_status;
  unknown_tar = unknown_tar;
  as_numbers = as_numbers;
  stores_or_leaves = stores_or_leaves;
  never_falls = never_falls;
  others_stay = others_stay;
  never_again = never_again;
  never_twice = never_twice;
  examples = examples_right;
}
