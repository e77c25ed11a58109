-- What the proofs of `counters` cite: one law for each return, call and turn of a loop, over plain variables.
use Rattle.std.specs.declared.option.Option.{Option}
use Rattle.std.specs.declared.option.Option.TheVariants.{Some, None}
use Rattle.std.specs.declared.result.Result.{Result}
use Rattle.std.specs.declared.result.Result.TheVariants.{Ok, Err}
use Rattle.std.specs.Int.{w64, from_be_bytes}
use Rattle.std.specs.List.{position, position_or_len}
use Rattle.std.specs.Option.{is_some}
use Rattle.std.proofs.lemmas.List.Recursion.{is_position_or_len}
use Prim.Native.Nat.{ℕ, ◌+◌, ◌≤◌, ◌<◌}
use mathlib.Core.Path.{◌≡◌, refl, sym, ap, subst, ◌∙◌}
use mathlib.Core.Bool.{Bool, true, false, cond, ◌&&◌, ◌||◌}
use mathlib.Core.List.{List, [], ◌∷◌}
use native.Mathlib.Omega.{arith}
use lib.ListN.{length}
use lib.Dec.{eqb, ltb, leb}
use borrow.Author.Rules.{rules}
use borrow.Author.Tests.{ltb-true, ltb-false, lt-ltb, le-ltb, le-leb, lt-leb, eq-eqb, ne_eqb}
use Rattle.octets.specs.Tests.{neither, by_test}
use Rattle.types.specs.declared.Kind.TheVariants.{Command}
use Rattle.types.specs.declared.Refusal.{Refusal}
use Rattle.types.specs.declared.Tar.{Tar}
use Rattle.types.specs.declared.Cntr.{Cntr}
use Rattle.types.specs.declared.CounterEntry.{CounterEntry}
use Rattle.types.specs.declared.Counters.{Counters}
use Rattle.types.specs.Refusals.{refused, gives, refusal_number}
use Rattle.packet.specs.Packets.{chl, ciphered_command, readable}
use Rattle.packet.specs.Judging.{told_judged, judged_readable, judged_refused}
use Rattle.packet.proofs.PacketLaws.{judged_formed}
use Rattle.counters.specs.Counters.{counter_number, all_ones, in_use, entry_at, same_tar, place_of, has_tar, named_twice, unfit_counters, with_counter, command_tar, command_counter, counter_bits, counter_status, judged_at, judged_by, assessed, judge_counter}

-- ---- the place of a TAR
-- the rule counts the entries before the first with a TAR, as the search of a slice does
place_found : (t : Tar) (es : List CounterEntry) → place_of t es ≡ position_or_len (λ e. same_tar e.tar t) es
unfolding place_of
place_found t = is_position_or_len (place_of t) (λ e. same_tar e.tar t) refl (λ e es. ap (λ (n : ℕ). cond (same_tar e.tar t) 0 n) (omega arith))

pub place_some : (t : Tar) (es : List CounterEntry) → is_some (position (λ e. same_tar e.tar t) es) ≡ has_tar t es
place_some t es = rw place_found (by_test (ltb (position_or_len (λ e. same_tar e.tar t) es) (length es)) (λ e. rw e) (λ e. rw e))

module _ (t : Tar) (es : List CounterEntry) where
  place_none : None ≡ position (λ e. same_tar e.tar t) es → has_tar t es ≡ false
  place_none e = sym (place_some t es) ∙ sym (ap is_some e)

  place_known : (i : ℕ) → Some i ≡ position (λ e. same_tar e.tar t) es → (has_tar t es ≡ true) × (i ≡ place_of t es)
  place_known i e = (sym (place_some t es) ∙ sym (ap is_some e), go (has_tar t es) (rw place_found e))
    where
      go : (b : Bool) → Some i ≡ cond b (Some (place_of t es)) None → i ≡ place_of t es
      go true q = cc
      go false q = cc

  pub place_inside : (i : ℕ) → Some i ≡ position (λ e. same_tar e.tar t) es → i < length es
  place_inside i e =
      let k : (has_tar t es ≡ true) × (i ≡ place_of t es) = place_known i e in
      omega (arith, k.1, ltb-true (place_of t es) (length es) k.0)

-- ---- a TAR named twice
none_twice : (es : List CounterEntry) → length es ≡ 0 → named_twice es ≡ false
unfolding named_twice
none_twice [] l = refl
none_twice (e ∷ es) l = absurd (omega arith)

module _ (all rest : List CounterEntry) (u : named_twice rest ≡ named_twice all) where
  pub twice_none : length rest ≡ 0 → false ≡ named_twice all
  twice_none l = sym (none_twice rest l) ∙ u

  module _ (e : CounterEntry) (others : List CounterEntry) (is : rest ≡ e ∷ others) where
    twice_is : (has_tar e.tar others || named_twice others) ≡ named_twice all
    unfolding named_twice
    twice_is = rw is at u

    module _ (r : Option ℕ) (place : r ≡ position (λ x. same_tar x.tar e.tar) others) (b : Bool) (said : b ≡ is_some r) where
      again : has_tar e.tar others ≡ b
      again = sym (place_some e.tar others) ∙ sym (ap is_some place) ∙ sym said

      pub twice_found : b ≡ true → true ≡ named_twice all
      twice_found t = rw (again ∙ t) at twice_is

      pub twice_on : b ≡ false → named_twice others ≡ named_twice all
      twice_on t = rw (again ∙ t) at twice_is

pub unfit_many : (c : Counters) → 16 < c.count → true ≡ unfit_counters c
unfit_many c l = rw (lt-ltb 16 c.count l)

pub unfit_twice : (c : Counters) (b : Bool) → c.count ≤ 16 → b ≡ named_twice (in_use c) → b ≡ unfit_counters c
unfit_twice c b l e = rw (le-ltb 16 c.count l) e

-- ---- the status
pub value_told : (n : Cntr) → from_be_bytes w64 (0 ∷ 0 ∷ 0 ∷ n.0 ∷ n.1 ∷ n.2 ∷ n.3 ∷ n.4 ∷ []) ≡ counter_number n
unfolding counter_number
value_told n = omega arith

module _ (bits : ℕ) (a b : Cntr) where
  pub status_unchecked : bits < 2 → 0 ≡ counter_status bits (counter_number a) (counter_number b)
  unfolding counter_status
  status_unchecked l = rw (lt-leb 2 bits l)

  module _ (checks : 2 ≤ bits) (have new : ℕ) (h : have ≡ counter_number a) (n : new ≡ counter_number b) where
    pub status_blocked : have ≡ all_ones → 4 ≡ counter_status bits (counter_number a) (counter_number b)
    unfolding counter_status
    status_blocked e = rw (le-leb 2 bits checks, ← h, eq-eqb have all_ones e)

    module _ (free : have ≡ all_ones → ⊥) where
      pub status_low : new ≤ have → 2 ≡ counter_status bits (counter_number a) (counter_number b)
      unfolding counter_status
      status_low l = rw (le-leb 2 bits checks, ← h, ← n, ne_eqb have all_ones free, le-leb new have l)

      module _ (higher : have < new) where
        pub status_high : (eqb bits 3 && ltb (have + 1) new) ≡ true → 3 ≡ counter_status bits (counter_number a) (counter_number b)
        unfolding counter_status
        status_high e = rw (le-leb 2 bits checks, ← h, ← n, ne_eqb have all_ones free, lt-leb new have higher, e)

        pub status_good : (eqb bits 3 && ltb (have + 1) new) ≡ false → 0 ≡ counter_status bits (counter_number a) (counter_number b)
        unfolding counter_status
        status_good e = rw (le-leb 2 bits checks, ← h, ← n, ne_eqb have all_ones free, lt-leb new have higher, e)

-- ---- a command against a table that is not refused
module _ (c : Counters) (p : List ℕ) (t : Tar) (is : t ≡ command_tar p) (es : List CounterEntry) (used : es ≡ in_use c) where
  in_table : (r : Option ℕ) → r ≡ position (λ e. same_tar e.tar t) es → r ≡ position (λ e. same_tar e.tar (command_tar p)) (in_use c)
  in_table r e = subst (λ (x : Tar). r ≡ position (λ e. same_tar e.tar x) (in_use c)) is (rw used at e)

  pub tar_unknown : None ≡ position (λ e. same_tar e.tar t) es → (9, c) ≡ judged_by c p
  unfolding judged_by
  tar_unknown e = rw (place_none (command_tar p) (in_use c) (in_table None e))

  pub tar_known : (i : ℕ) → Some i ≡ position (λ e. same_tar e.tar t) es → (w : ℕ × Counters) → w ≡ judged_at c i p → w ≡ judged_by c p
  unfolding judged_by
  tar_known i e w h =
      let k : (has_tar (command_tar p) (in_use c) ≡ true) × (i ≡ place_of (command_tar p) (in_use c)) =
      place_known (command_tar p) (in_use c) i (in_table (Some i) e) in
      h ∙ rw (k.0, ← k.1)

-- against its entry
module _ (c : Counters) (p : List ℕ) (i : ℕ) (n : Cntr) (counter : n ≡ command_counter p) (s : ℕ)
    (status : s ≡ counter_status (counter_bits p) (counter_number (entry_at c.entries i).cntr) (counter_number n)) where
  pub counter_stored : (leb 2 (counter_bits p) && eqb s 0) ≡ true → (s, with_counter c i n) ≡ judged_at c i p
  counter_stored e = rw (← counter, ← status, e)

  pub counter_left : (leb 2 (counter_bits p) && eqb s 0) ≡ false → (s, c) ≡ judged_at c i p
  counter_left e = rw (← counter, ← status, e)

-- ---- the refusals, in their order
-- what follows where nothing is refused: a command has its counter, and no more entries are in use than there are
pub command_long : (p : List ℕ) (x : Bool) (j : Result ℕ Refusal) → told_judged j ≡ readable Command x p (gives (chl p)) → (h : ℕ) → j ≡ Ok h → 16 ≤ length p
command_long p x j e h t = omega (arith, judged_formed Command x p j e h t)

pub counters_few : (c : Counters) (bad : Bool) → bad ≡ unfit_counters c → bad ≡ false → c.count ≤ 16
counters_few c bad e b = ltb-false 16 c.count (neither (ltb 16 c.count) (named_twice (in_use c)) (sym e ∙ b)).0

module _ (c : Counters) (p : List ℕ) (x : Bool) (said : x ≡ ciphered_command p) (j : Result ℕ Refusal) (e : told_judged j ≡ readable Command x p (gives (chl p))) where
  pub judge_refused : (r : Refusal) → j ≡ Err r → assessed (refused (refusal_number r)) c ≡ judge_counter c p
  unfolding judge_counter
  judge_refused r t = rw (← said, ← judged_refused Command x p j e r t)

  module _ (header : ℕ) (t : j ≡ Ok header) where
    pub judge_ciphered : x ≡ true → assessed (refused 10) c ≡ judge_counter c p
    unfolding judge_counter
    judge_ciphered b = rw (← said, ← judged_readable Command x p j e header t, b)

    module _ (plain : x ≡ false) (bad : Bool) (unfit : bad ≡ unfit_counters c) where
      pub judge_unfit : bad ≡ true → assessed (refused 19) c ≡ judge_counter c p
      unfolding judge_counter
      judge_unfit b = rw (← said, ← judged_readable Command x p j e header t, plain, ← unfit, b)

      pub judge_judged : bad ≡ false → (s : ℕ) (d : Counters) → (s, d) ≡ judged_by c p → assessed (gives s) d ≡ judge_counter c p
      unfolding judge_counter
      judge_judged b s d h = rw (← said, ← judged_readable Command x p j e header t, plain, ← unfit, b, ← h)

pub ruleset steps = (
  rules,
  command_long,
  counters_few,
  place_some,
  place_inside,
  twice_none,
  twice_found,
  twice_on,
  unfit_many,
  unfit_twice,
  value_told,
  status_unchecked,
  status_blocked,
  status_low,
  status_high,
  status_good,
  tar_unknown,
  tar_known,
  counter_stored,
  counter_left,
  judge_refused,
  judge_ciphered,
  judge_unfit,
  judge_judged,
)
