-- What the proofs of `gateway` cite: one law for each return, call and turn of a loop, over plain variables. Of the crates below they cite rules.
use Rattle.std.specs.declared.option.Option.{Option}
use Rattle.std.specs.declared.option.Option.TheVariants.{Some, None}
use Rattle.std.specs.declared.result.Result.{Result}
use Rattle.std.specs.declared.result.Result.TheVariants.{Ok, Err}
use Rattle.std.specs.List.{position, position_or_len}
use Rattle.std.specs.Option.{is_some}
use Rattle.std.proofs.lemmas.List.Recursion.{is_position_or_len}
use Prim.Native.Nat.{ℕ, zero, suc, ◌+◌, ◌-◌, ◌≤◌, ◌<◌}
use mathlib.Core.Path.{◌≡◌, refl, sym, ap, ◌∙◌}
use mathlib.Core.Bool.{Bool, true, false, not, cond, ◌&&◌, ◌||◌}
use mathlib.Core.List.{List, [], ◌∷◌, ◌++◌}
use native.Mathlib.Omega.{arith}
use native.Mathlib.Numerals.{add-one}
use lib.ListN.{length, get_or, take, drop, set, replicate, length-set}
use lib.Seq.{length-take-le, set_split}
use lib.Dec.{eqb, ltb, leb}
use borrow.Author.Rules.{rules}
use borrow.Author.Tests.{ltb-true, ltb-false, lt-ltb, le-ltb, le-leb, lt-leb, leb-true, eqb-true, not-false}
use Rattle.types.specs.declared.Refusal.{Refusal}
use Rattle.types.specs.declared.SentCommand.{SentCommand}
use Rattle.types.specs.declared.Outstanding.{Outstanding}
use Rattle.types.specs.declared.Kind.TheVariants.{Response}
use Rattle.types.specs.Refusals.{Outcome, refused, gives, refuse◌when◌otherwise◌, refusal_number}
use Rattle.packet.specs.Packets.{cpl, most_octets, well_formed}
use Rattle.report.specs.Reporting.{status_of, announces_another, response_announces, told_announcing}
use Rattle.gateway.specs.Gateway.{same_command, awaited, zero_command, no_commands, among, twice_among, unfit_table, all_but, with_command, answered_by, Fate, fate_closed, fate_waiting, fate_by, Settled, settled, or_stays, command_sent, response_came}
use Rattle.gateway.specs.Places.{taken_out}

-- ---- commands
pub none_made : (z : SentCommand) → z ≡ zero_command → record { count = 0; entries = replicate 8 z } ≡ no_commands
none_made z e = rw e

-- ---- where a command stands
-- how many entries stand before the first that equals the command; all of them, if none does
unfoldable command_place : SentCommand → List SentCommand → ℕ
command_place c [] = 0
command_place c (e ∷ es) = cond (same_command e c) 0 (suc (command_place c es))

-- a command is among the entries if its place is
is_among : (c : SentCommand) (es : List SentCommand) → command_place c es < length es → among c es ≡ true
unfolding command_place among
is_among c [] l = absurd (omega arith)
is_among c (e ∷ es) l = go (same_command e c) l (is_among c es)
  where
    go : (b : Bool) → cond b 0 (suc (command_place c es)) < suc (length es) → (command_place c es < length es → among c es ≡ true) → b || among c es ≡ true
    go true k ih = refl
    go false k ih = ih (omega arith)

not_among : (c : SentCommand) (es : List SentCommand) → length es ≤ command_place c es → among c es ≡ false
unfolding command_place among
not_among c [] l = refl
not_among c (e ∷ es) l = go (same_command e c) l (not_among c es)
  where
    go : (b : Bool) → suc (length es) ≤ cond b 0 (suc (command_place c es)) → (length es ≤ command_place c es → among c es ≡ false) → b || among c es ≡ false
    go true k ih = absurd (omega arith)
    go false k ih = ih (omega arith)

by_test : {P : Type 0} (b : Bool) → (b ≡ true → P) → (b ≡ false → P) → P
by_test true t f = t refl
by_test false t f = f refl

module _ (c : SentCommand) where
  place_found : (es : List SentCommand) → command_place c es ≡ position_or_len (λ e. same_command e c) es
  unfolding command_place
  place_found = is_position_or_len (command_place c) (λ e. same_command e c) refl (λ e es. ap (λ (n : ℕ). cond (same_command e c) 0 n) (omega arith))

  module _ (es : List SentCommand) where
    abbrev first : ℕ
    first = position_or_len (λ e. same_command e c) es

    pub place_some : is_some (position (λ e. same_command e c) es) ≡ among c es
    place_some =
        by_test (ltb first (length es)) (λ t. rw t (sym (is_among c es (rw place_found (ltb-true first (length es) t)))))
        (λ t. rw t (sym (not_among c es (rw place_found (ltb-false first (length es) t)))))

    place_at : (i : ℕ) → Some i ≡ position (λ e. same_command e c) es → (i < length es) × (i ≡ command_place c es)
    place_at i e = go (ltb first (length es)) refl e
      where
        go : (b : Bool) → ltb first (length es) ≡ b → Some i ≡ cond b (Some first) None → (i < length es) × (i ≡ command_place c es)
        go true t q = let k : i ≡ first = cc in (omega (arith, k, ltb-true first (length es) t), k ∙ sym (place_found es))
        go false t q = let z : ◌≡◌ {A = ℕ} 0 1 = cc in absurd (omega arith)

    pub place_inside : (i : ℕ) → Some i ≡ position (λ e. same_command e c) es → i < length es
    place_inside i e = (place_at i e).0

-- ---- a command twice
none_twice : (es : List SentCommand) → length es ≡ 0 → twice_among es ≡ false
unfolding twice_among
none_twice [] l = refl
none_twice (e ∷ es) l = absurd (omega arith)

module _ (all rest : List SentCommand) (u : twice_among rest ≡ twice_among all) where
  pub twice_none : length rest ≡ 0 → false ≡ twice_among all
  twice_none l = sym (none_twice rest l) ∙ u

  module _ (e : SentCommand) (others : List SentCommand) (is : rest ≡ e ∷ others) where
    twice_is : (among e others || twice_among others) ≡ twice_among all
    unfolding twice_among
    twice_is = rw is at u

    module _ (r : Option ℕ) (place : r ≡ position (λ x. same_command x e) others) (b : Bool) (said : b ≡ is_some r) where
      again : among e others ≡ b
      again = sym (place_some e others) ∙ sym (ap is_some place) ∙ sym said

      pub twice_found : b ≡ true → true ≡ twice_among all
      twice_found t = rw (again ∙ t) at twice_is

      pub twice_on : b ≡ false → twice_among others ≡ twice_among all
      twice_on t = rw (again ∙ t) at twice_is

-- ---- the table afterwards
pub command_put : (t : Outstanding) → length t.entries ≡ 8 → (c : SentCommand) → t.count < 8
    → record { count = t.count + 1; entries = set t.entries t.count c } ≡ with_command t c
command_put t owned c l =
    ap (λ (es : List SentCommand). record { count = t.count + 1; entries = es })
    (rw (add-one, set_split t.entries t.count c (omega arith)))

-- one turn of moving up, and the last place
moves_up : (i n : ℕ) (es : List SentCommand) → suc i < n → n ≤ length es → taken_out (suc i) n (set es i (get_or es (suc i) zero_command)) ≡ taken_out i n es
unfolding taken_out
moves_up i n [] l m = absurd (omega arith)
moves_up i zero (e ∷ es) l m = absurd (omega arith)
moves_up zero (suc zero) (e ∷ es) l m = absurd (omega arith)
moves_up zero (suc (suc n)) (e ∷ []) l m = absurd (omega arith)
moves_up zero (suc (suc n)) (e ∷ (x ∷ es)) l m = refl
moves_up (suc i) (suc n) (e ∷ es) l m = ap (λ (r : List SentCommand). e ∷ r) (moves_up i n es (omega arith) (omega arith))

last_zero : (i : ℕ) (es : List SentCommand) → i < length es → set es i zero_command ≡ taken_out i (suc i) es
unfolding taken_out
last_zero i [] l = absurd (omega arith)
last_zero zero (e ∷ es) l = refl
last_zero (suc i) (e ∷ es) l = ap (λ (r : List SentCommand). e ∷ r) (last_zero i es (omega arith))

-- the entries behind place `at` have moved up as far as place i
pub record Moving (from : List SentCommand) (at end : ℕ) (es : List SentCommand) (i : ℕ) : Type 0 where
  pub is : taken_out i end es ≡ taken_out at end from
  pub inside : i < end
  pub few : end ≤ length es

pub move_starts : (es : List SentCommand) (at end : ℕ) → at < end → end ≤ length es → Moving es at end es at
move_starts es at end l few = record { is = refl; inside = l; few = few }

module _ (from : List SentCommand) (at end : ℕ) (es : List SentCommand) (i : ℕ) (u : Moving from at end es i) where
  pub move_on : i < end - 1 → Moving from at end (set es i (get_or es (i + 1) zero_command)) (i + 1)
  move_on l = record {
    is = rw add-one (moves_up i end es (omega arith) (omega (arith, u.few))) ∙ u.is;
    inside = omega arith;
    few = omega (arith, length-set es i (get_or es (i + 1) zero_command), u.few);
  }

  pub move_ends : end - 1 ≤ i → (z : SentCommand) → z ≡ zero_command → set es (end - 1) z ≡ taken_out at end from
  move_ends l z e =
      let n : suc i ≡ end = omega (arith, u.inside) in
      let m : end - 1 ≡ i = omega arith in
      rw (e, m) (last_zero i es (omega (arith, u.few, u.inside)) ∙ rw n u.is)

-- the entries with the place of a command taken out are those without it, and zero where the last one was
out_is : (c : SentCommand) (n : ℕ) (es : List SentCommand) → n ≤ length es → command_place c (take n es) < n
    → taken_out (command_place c (take n es)) n es ≡ all_but c (take n es) ++ (zero_command ∷ drop n es)
unfolding command_place taken_out all_but
out_is c zero es l m = absurd (omega arith)
out_is c (suc n) [] l m = absurd (omega arith)
out_is c (suc n) (e ∷ es) l m = go (same_command e c) m (out_is c n es (omega arith))
  where
    go : (b : Bool) → cond b 0 (suc (command_place c (take n es))) < suc n
        → (command_place c (take n es) < n → taken_out (command_place c (take n es)) n es ≡ all_but c (take n es) ++ (zero_command ∷ drop n es))
        → taken_out (cond b 0 (suc (command_place c (take n es)))) (suc n) (e ∷ es) ≡ cond b (take n es) (e ∷ all_but c (take n es)) ++ (zero_command ∷ drop n es)
    go true k ih = refl
    go false k ih = ap (λ (r : List SentCommand). e ∷ r) (ih (omega arith))

-- ---- a table that is refused
pub unfit_many : (t : Outstanding) → 8 < t.count → true ≡ unfit_table t
unfit_many t l = rw (lt-ltb 8 t.count l)

pub unfit_twice : (t : Outstanding) (b : Bool) → t.count ≤ 8 → b ≡ twice_among (take t.count t.entries) → b ≡ unfit_table t
unfit_twice t b l e = rw (le-ltb 8 t.count l) e

pub table_few : (t : Outstanding) (bad : Bool) → bad ≡ unfit_table t → bad ≡ false → t.count ≤ 8
table_few t bad e b = go (ltb 8 t.count) refl (sym e ∙ b)
  where
    go : (many : Bool) → ltb 8 t.count ≡ many → many || twice_among (awaited t) ≡ false → t.count ≤ 8
    go true l k = let z : ◌≡◌ {A = ℕ} 0 1 = cc in absurd (omega arith)
    go false l k = ltb-false 8 t.count l

-- ---- a command that was sent
module _ (t : Outstanding) (c : SentCommand) (bad : Bool) (u : bad ≡ unfit_table t) where
  pub sends_unfit : bad ≡ true → settled (refused 1) t ≡ command_sent t c
  unfolding command_sent
  sends_unfit b = rw (← u, b)

  module _ (fit : bad ≡ false) (es : List SentCommand) (used : es ≡ awaited t) (r : Option ℕ) (place : r ≡ position (λ e. same_command e c) es) (b : Bool)
      (said : b ≡ is_some r) where
    there : among c (awaited t) ≡ b
    there = sym (place_some c (awaited t)) ∙ rw (← used) (sym (ap is_some place)) ∙ sym said

    pub sends_again : b ≡ true → settled (refused 22) t ≡ command_sent t c
    unfolding command_sent
    sends_again e = rw (← u, fit, there, e)

    pub sends_full : b ≡ false → 8 ≤ t.count → settled (refused 21) t ≡ command_sent t c
    unfolding command_sent
    sends_full e m = rw (← u, fit, there, e, le-leb 8 t.count m)

    pub sends_sent : b ≡ false → t.count < 8 → (d : Outstanding) → d ≡ with_command t c → settled (gives tt) d ≡ command_sent t c
    unfolding command_sent
    sends_sent e m d h = rw (← u, fit, there, e, lt-leb 8 t.count m, h)

-- ---- a response that came, and can be read
module _ (t : Outstanding) (a : Bool) (c : SentCommand) (es : List SentCommand) (used : es ≡ awaited t) where
  has : (r : Option ℕ) → r ≡ position (λ e. same_command e c) es → among c (awaited t) ≡ is_some r
  has r e = sym (place_some c (awaited t)) ∙ rw (← used) (sym (ap is_some e))

  pub matches_none : None ≡ position (λ e. same_command e c) es
      → settled (refused 23) t ≡ or_stays t (refuse 23 when not (among c (awaited t)) otherwise gives (fate_by a t c))
  matches_none e = rw (has None e)

  module _ (i : ℕ) (e : Some i ≡ position (λ e. same_command e c) es) where
    pub matches_waiting : a ≡ true → settled (gives fate_waiting) t ≡ or_stays t (refuse 23 when not (among c (awaited t)) otherwise gives (fate_by a t c))
    matches_waiting f = rw (has (Some i) e, f)

    pub matches_closed : a ≡ false → length t.entries ≡ 8 → t.count ≤ 8 → (left : List SentCommand) → left ≡ taken_out i t.count t.entries
        → settled (gives fate_closed) (record { count = t.count - 1; entries = left }) ≡ or_stays t (refuse 23 when not (among c (awaited t)) otherwise gives (fate_by a t c))
    matches_closed f owned few left h =
        let k : (i < length (awaited t)) × (i ≡ command_place c (awaited t)) = place_at c (awaited t) i (rw used at e) in
        let n : length (awaited t) ≡ t.count = length-take-le t.count t.entries (omega arith) in
        let q : left ≡ all_but c (awaited t) ++ (zero_command ∷ drop t.count t.entries) =
        h ∙ rw (k.1) (out_is c t.count t.entries (omega arith) (omega (arith, k.0, k.1, n))) in
        rw (has (Some i) e, f, q)

-- ---- reading a response, by the rule alone
module _ {A B : Type 0} (x : A) (o : Outcome B) where
  reads_refused : (n : ℕ) (a b : Bool) → refused n ≡ (refuse 9 when a otherwise refuse 12 when b otherwise gives x)
      → refused n ≡ (refuse 9 when a otherwise refuse 12 when b otherwise o)
  reads_refused n true b e = cc
  reads_refused n false true e = cc
  reads_refused n false false e = let z : ◌≡◌ {A = ℕ} 0 1 = cc in absurd (omega arith)

  reads_given : (y : A) (a b : Bool) → gives y ≡ (refuse 9 when a otherwise refuse 12 when b otherwise gives x)
      → (a ≡ false) × (y ≡ x) × (o ≡ (refuse 9 when a otherwise refuse 12 when b otherwise o))
  reads_given y true b e = let z : ◌≡◌ {A = ℕ} 0 1 = cc in absurd (omega arith)
  reads_given y false true e = let z : ◌≡◌ {A = ℕ} 0 1 = cc in absurd (omega arith)
  reads_given y false false e = (refl, (cc), refl)

and_both : (a b : Bool) → a && b ≡ true → (a ≡ true) × (b ≡ true)
and_both true b e = (refl, e)
and_both false b e = let z : ◌≡◌ {A = ℕ} 0 1 = cc in absurd (omega arith)

formed_long : (p : List ℕ) → well_formed Response p ≡ true → 13 ≤ length p
formed_long p e =
    let n = cpl p in
    let (q, r) = and_both (eqb (n + 2) (length p) && leb 10 (get_or p 2 0)) (leb (get_or p 2 0 + 1) n) e in
    let (s, t) = and_both (eqb (n + 2) (length p)) (leb 10 (get_or p 2 0)) q in
    omega (arith, eqb-true (n + 2) (length p) s, leb-true 10 (get_or p 2 0) t, leb-true (get_or p 2 0 + 1) n r)

module _ (t : Outstanding) (sender : ℕ) (p : List ℕ) where
  module _ (a : Bool) (e : gives a ≡ response_announces p) where
    given_long : 13 ≤ length p
    unfolding response_announces
    given_long =
        formed_long p (not-false (well_formed Response p) (reads_given (announces_another (status_of p)) (gives a) a (not (well_formed Response p)) (ltb most_octets (length p)) e).0)

    given_came : unfit_table t ≡ false → (c : SentCommand) → c ≡ answered_by sender p → (w : Settled Fate)
        → w ≡ or_stays t (refuse 23 when not (among c (awaited t)) otherwise gives (fate_by a t c)) → w ≡ response_came t sender p
    unfolding response_announces response_came
    given_came fit c is w h =
        let o : Outcome (Fate × Outstanding) = refuse 23 when not (among (answered_by sender p) (awaited t)) otherwise gives (fate_by (announces_another (status_of p)) t (answered_by sender p)) in
        let (formed, same, on) = reads_given (announces_another (status_of p)) o a (not (well_formed Response p)) (ltb most_octets (length p)) e in
        h ∙ rw (is, same, fit) (ap (or_stays t) on)

  module _ (bad : Bool) (u : bad ≡ unfit_table t) where
    pub came_unfit : bad ≡ true → settled (refused 1) t ≡ response_came t sender p
    unfolding response_came
    came_unfit b = rw (← u, b)

    module _ (fit : bad ≡ false) (j : Result Bool Refusal) (e : told_announcing j ≡ response_announces p) where
      pub came_refused : (r : Refusal) → j ≡ Err r → settled (refused (refusal_number r)) t ≡ response_came t sender p
      unfolding response_announces response_came
      came_refused r v =
          let o : Outcome (Fate × Outstanding) = refuse 23 when not (among (answered_by sender p) (awaited t)) otherwise gives (fate_by (announces_another (status_of p)) t (answered_by sender p)) in
          rw (← u, fit) (ap (or_stays t) (reads_refused (announces_another (status_of p)) o (refusal_number r) (not (well_formed Response p)) (ltb most_octets (length p)) (sym (ap told_announcing v) ∙ e)))

      pub came_matched : (a : Bool) → j ≡ Ok a → (c : SentCommand) → c ≡ answered_by sender p → (w : Settled Fate)
          → w ≡ or_stays t (refuse 23 when not (among c (awaited t)) otherwise gives (fate_by a t c)) → w ≡ response_came t sender p
      came_matched a v = given_came a (sym (ap told_announcing v) ∙ e) (sym u ∙ fit)

pub announced_long : (p : List ℕ) (j : Result Bool Refusal) → told_announcing j ≡ response_announces p → (a : Bool) → j ≡ Ok a → 13 ≤ length p
announced_long p j e a v = given_long no_commands 0 p a (sym (ap told_announcing v) ∙ e)

pub ruleset steps = (
  rules,
  none_made,
  place_inside,
  twice_none,
  twice_found,
  twice_on,
  command_put,
  move_starts,
  move_on,
  move_ends,
  unfit_many,
  unfit_twice,
  table_few,
  sends_unfit,
  sends_again,
  sends_full,
  sends_sent,
  matches_none,
  matches_waiting,
  matches_closed,
  came_unfit,
  came_refused,
  came_matched,
  announced_long,
)
