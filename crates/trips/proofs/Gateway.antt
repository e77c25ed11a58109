-- Outstanding commands. A call puts a command in, takes one out, or leaves the table (`Deed`). Each of these keeps a table without repeats one
-- (`Good`), changes the count by what was sent and closed, and changes which commands are among those in use by the one that was sent or closed;
-- and this goes on from call to call.
use Prim.Native.Nat.{ℕ, zero, suc, ◌+◌, ◌-◌, ◌≤◌, ◌<◌}
use mathlib.Core.Path.{◌≡◌, refl, sym, ap, ◌∙◌, subst}
use mathlib.Core.Bool.{Bool, true, false, not, cond, ◌&&◌, ◌||◌, or-true}
use mathlib.Core.List.{List, [], ◌∷◌, ◌++◌, append_assoc}
use mathlib.Core.Logic.{◌⊎◌, ⊎_elim}
use native.Mathlib.Omega.{arith}
use lib.ListN.{length, get_or, take, drop, length-take, length-drop, length-append}
use lib.Seq.{length-take-le, get_or-take, get_or-drop, take_at, drop_at, take-append_seam}
use lib.Dec.{eqb, ltb, leb}
use borrow.Author.Tests.{eqb-true, eq-eqb, ne_eqb, ltb-false, lt-ltb, le-ltb, leb-false, le-leb, lt-leb}
use Rattle.octets.specs.Tests.{clash, both, neither, by_test}
use Rattle.types.specs.declared.Kind.TheVariants.{Response}
use Rattle.types.specs.declared.Tar.{Tar}
use Rattle.types.specs.declared.Cntr.{Cntr}
use Rattle.types.specs.declared.PlainResponse.{PlainResponse}
use Rattle.types.specs.declared.ResponseBody.TheVariants as response
use Rattle.types.specs.declared.SentCommand.{SentCommand}
use Rattle.types.specs.declared.Outstanding.{Outstanding}
use Rattle.types.specs.Refusals.{refused, gives, refuse◌when◌otherwise◌}
use Rattle.packet.specs.Packets.{most_octets, well_formed, fields_of, measured, parsing}
use Rattle.packet.specs.Told.{response_fields}
use Rattle.packet.specs.Laws.{readable_formed}
use Rattle.report.specs.Reporting.{status_of, announces_another}
use Rattle.gateway.specs.Gateway.{sent_command, same_command, awaited, zero_command, no_commands, among, twice_among, unfit_table, all_but, with_command, without_command, answered_by, Fate, fate_by, Settled, settled, or_stays, command_sent, response_came}
use Rattle.sequences.specs.Runs.{Slots}
use Rattle.trips.specs.Gateway.{command_at, FitCommands, Waits, UnfitCommands, SendsOrRefuses, ClosesOrRefuses, TableLeft, Agree, PastCount, TableCall, send, respond, Reply, is_sent, is_closed, is_waiting, is_refused, sent_reply, came_reply, reply_to, table_left, table_after, replies, sent_in, closed_in, Balanced, sends, closes_it, closed_since, sent_and_open, HoldsExactly, AlwaysFit, FromAir, ExampleHistory, OutstandingCommands}
use Rattle.trips.proofs.Reports.{still_refused, formed_size, fixed_is, status_is}
use Rattle.sequences.proofs.Delivery.{messages_delivered}

-- ---- equal commands
abbrev one_tar : Tar → Tar → Bool
one_tar a b = eqb a.0 b.0 && eqb a.1 b.1 && eqb a.2 b.2

abbrev one_cntr : Cntr → Cntr → Bool
one_cntr a b = eqb a.0 b.0 && eqb a.1 b.1 && eqb a.2 b.2 && eqb a.3 b.3 && eqb a.4 b.4

command_is : (a b : SentCommand) → same_command a b ≡ true → a ≡ b
command_is a b e =
    let (f, n) = both (eqb a.sender b.sender && one_tar a.tar b.tar) (one_cntr a.cntr b.cntr) e in
    let (s, t) = both (eqb a.sender b.sender) (one_tar a.tar b.tar) f in
    let tars : a.tar ≡ b.tar = tar_is a.tar b.tar t in
    let cntrs : a.cntr ≡ b.cntr = cntr_is a.cntr b.cntr n in
    let senders : a.sender ≡ b.sender = eqb-true a.sender b.sender s in
    λ i. record { sender = senders i; tar = tars i; cntr = cntrs i }
  where
    tar_is : (a b : Tar) → one_tar a b ≡ true → a ≡ b
    tar_is a b e =
        let (f, r) = both (eqb a.0 b.0 && eqb a.1 b.1) (eqb a.2 b.2) e in
        let (p, q) = both (eqb a.0 b.0) (eqb a.1 b.1) f in
        λ i. (eqb-true a.0 b.0 p i, eqb-true a.1 b.1 q i, eqb-true a.2 b.2 r i)

    cntr_is : (a b : Cntr) → one_cntr a b ≡ true → a ≡ b
    cntr_is a b e =
        let (f, s) = both (eqb a.0 b.0 && eqb a.1 b.1 && eqb a.2 b.2 && eqb a.3 b.3) (eqb a.4 b.4) e in
        let (g, r) = both (eqb a.0 b.0 && eqb a.1 b.1 && eqb a.2 b.2) (eqb a.3 b.3) f in
        let (h, q) = both (eqb a.0 b.0 && eqb a.1 b.1) (eqb a.2 b.2) g in
        let (o, p) = both (eqb a.0 b.0) (eqb a.1 b.1) h in
        λ i. (eqb-true a.0 b.0 o i, eqb-true a.1 b.1 p i, eqb-true a.2 b.2 q i, eqb-true a.3 b.3 r i, eqb-true a.4 b.4 s i)

same_self : (a : SentCommand) → same_command a a ≡ true
same_self a =
    rw (
      eq-eqb a.sender a.sender refl,
      eq-eqb a.tar.0 a.tar.0 refl,
      eq-eqb a.tar.1 a.tar.1 refl,
      eq-eqb a.tar.2 a.tar.2 refl,
      eq-eqb a.cntr.0 a.cntr.0 refl,
      eq-eqb a.cntr.1 a.cntr.1 refl,
      eq-eqb a.cntr.2 a.cntr.2 refl,
      eq-eqb a.cntr.3 a.cntr.3 refl,
      eq-eqb a.cntr.4 a.cntr.4 refl,
    )

is_command_lem : (a b : SentCommand) → a ≡ b → same_command a b ≡ true
is_command_lem a b e = subst (λ (x : SentCommand). same_command a x ≡ true) e (same_self a)

same_sym : (a b : SentCommand) → same_command a b ≡ false → same_command b a ≡ false
same_sym a b f = by_test (same_command b a) (λ t. absurd (clash (same_command a b) (is_command_lem a b (sym (command_is b a t))) f)) (λ g. g)

-- ---- tests
same_left : (a : Bool) → a ≡ (a && true) || false
same_left true = refl
same_left false = refl

and-true : (a : Bool) → a ≡ a && true
and-true true = refl
and-true false = refl

or-false : (a : Bool) → a ≡ a || false
or-false true = refl
or-false false = refl

-- was there and was not closed, or was sent; and not closed since, or sent since
regroup : (a k p x o : Bool) → (((a && not k) || p) && not x) || o ≡ (a && not (k || x)) || ((p && not x) || o)
regroup true true true true o = refl
regroup true true true false o = refl
regroup true true false true o = refl
regroup true true false false o = refl
regroup true false true true o = refl
regroup true false true false o = refl
regroup true false false true o = refl
regroup true false false false o = refl
regroup false k true true o = refl
regroup false k true false o = refl
regroup false k false x o = refl

-- ---- among the entries
among_at : (c : SentCommand) (es : List SentCommand) (i : ℕ) → i < length es → get_or es i zero_command ≡ c → among c es ≡ true
unfolding among
among_at c [] i l e = absurd (omega arith)
among_at c (x ∷ es) zero l e = rw (is_command_lem x c e)
among_at c (x ∷ es) (suc i) l e = rw (among_at c es i (omega arith) e) (or-true (same_command x c))

record Stands (c : SentCommand) (es : List SentCommand) : Type 0 where
  place : ℕ
  used : place < length es
  is : get_or es place zero_command ≡ c

among_stands : (c : SentCommand) (es : List SentCommand) → among c es ≡ true → Stands c es
unfolding among
among_stands c [] e = absurd (clash false e refl)
among_stands c (x ∷ es) e = go (same_command x c) refl e (among_stands c es)
  where
    go : (b : Bool) → same_command x c ≡ b → b || among c es ≡ true → (among c es ≡ true → Stands c es) → Stands c (x ∷ es)
    go true h k ih = record { place = zero; used = omega arith; is = command_is x c h }
    go false h k ih = let w = ih k in record { place = suc w.place; used = omega (arith, w.used); is = w.is }

twice_pair : (es : List SentCommand) (i j : ℕ) → i < j → j < length es → get_or es i zero_command ≡ get_or es j zero_command → twice_among es ≡ true
unfolding twice_among
twice_pair [] i j l m e = absurd (omega arith)
twice_pair (x ∷ es) zero zero l m e = absurd (omega arith)
twice_pair (x ∷ es) zero (suc j) l m e = rw (among_at x es j (omega arith) (sym e))
twice_pair (x ∷ es) (suc i) zero l m e = absurd (omega arith)
twice_pair (x ∷ es) (suc i) (suc j) l m e = rw (twice_pair es i j (omega arith) (omega arith) e) (or-true (among x es))

twice_none : (es : List SentCommand) → ((i j : ℕ) → i < j → j < length es → get_or es i zero_command ≡ get_or es j zero_command → ⊥) → twice_among es ≡ false
unfolding twice_among
twice_none [] h = refl
twice_none (x ∷ es) h = rw (first, twice_none es (λ i j l m e. h (suc i) (suc j) (omega arith) (omega arith) e))
  where
    first : among x es ≡ false
    first =
        by_test (among x es)
        (λ t. let w = among_stands x es t in absurd (h zero (suc w.place) (omega arith) (omega (arith, w.used)) (sym w.is))) (λ f. f)

-- one more at the end, and one less
among_snoc : (d c : SentCommand) (es : List SentCommand) → among d (es ++ (c ∷ [])) ≡ among d es || same_command c d
unfolding among
among_snoc d c [] = go (same_command c d)
  where
    go : (b : Bool) → b || false ≡ false || b
    go true = refl
    go false = refl
among_snoc d c (x ∷ es) = go (same_command x d) (among_snoc d c es)
  where
    go : (b : Bool) → among d (es ++ (c ∷ [])) ≡ among d es || same_command c d → b || among d (es ++ (c ∷ [])) ≡ (b || among d es) || same_command c d
    go true ih = refl
    go false ih = ih

twice_snoc : (c : SentCommand) (es : List SentCommand) → twice_among es ≡ false → among c es ≡ false → twice_among (es ++ (c ∷ [])) ≡ false
unfolding among twice_among
twice_snoc c [] e f = refl
twice_snoc c (x ∷ es) e f =
    let (a, t) = neither (among x es) (twice_among es) e in
    let (s, b) = neither (same_command x c) (among c es) f in
    rw (among_snoc x c es, a, same_sym x c s, twice_snoc c es t b)

without_long : (c : SentCommand) (es : List SentCommand) → among c es ≡ true → length (all_but c es) + 1 ≡ length es
unfolding among all_but
without_long c [] e = absurd (clash false e refl)
without_long c (x ∷ es) e = go (same_command x c) e (without_long c es)
  where
    go : (b : Bool) → b || among c es ≡ true → (among c es ≡ true → length (all_but c es) + 1 ≡ length es) → length (cond b es (x ∷ all_but c es)) + 1 ≡ suc (length es)
    go true h ih = omega arith
    go false h ih = omega (arith, ih h)

among_without : (d c : SentCommand) (es : List SentCommand) → twice_among es ≡ false → among d (all_but c es) ≡ among d es && not (same_command c d)
unfolding among twice_among all_but
among_without d c [] e = refl
among_without d c (x ∷ es) e = go (same_command x c) refl (among_without d c es (neither (among x es) (twice_among es) e).1)
  where
    alone : among x es ≡ false
    alone = (neither (among x es) (twice_among es) e).0

    taken : same_command x c ≡ true → (b : Bool) → same_command c d ≡ b → among d es ≡ (same_command x d || among d es) && not b
    taken h true k =
        let q : x ≡ d = command_is x c h ∙ command_is c d k in
        subst (λ (y : SentCommand). among y es ≡ false) q alone ∙ go₂ (same_command x d || among d es)
      where
        go₂ : (z : Bool) → false ≡ z && false
        go₂ true = refl
        go₂ false = refl
    taken h false k = rw (subst (λ (y : SentCommand). same_command y d ≡ false) (sym (command_is x c h)) k) (go₂ (among d es))
      where
        go₂ : (z : Bool) → z ≡ z && true
        go₂ true = refl
        go₂ false = refl

    left : same_command x c ≡ false → among d (all_but c es) ≡ among d es && not (same_command c d)
        → (b : Bool) → same_command x d ≡ b → b || among d (all_but c es) ≡ (b || among d es) && not (same_command c d)
    left h ih true k =
        let z : same_command c d ≡ false = same_sym d c (subst (λ (y : SentCommand). same_command y c ≡ false) (command_is x d k) h) in rw z
    left h ih false k = ih

    go : (b : Bool) → same_command x c ≡ b → among d (all_but c es) ≡ among d es && not (same_command c d)
        → among d (cond b es (x ∷ all_but c es)) ≡ (same_command x d || among d es) && not (same_command c d)
    go true h ih = taken h (same_command c d) refl
    go false h ih = left h ih (same_command x d) refl

twice_without : (c : SentCommand) (es : List SentCommand) → twice_among es ≡ false → twice_among (all_but c es) ≡ false
unfolding twice_among all_but
twice_without c [] e = refl
twice_without c (x ∷ es) e =
    let (a, t) = neither (among x es) (twice_among es) e in go (same_command x c) t (rw (among_without x c es t, a)) (twice_without c es t)
  where
    go : (b : Bool) → twice_among es ≡ false → among x (all_but c es) ≡ false → twice_among (all_but c es) ≡ false → twice_among (cond b es (x ∷ all_but c es)) ≡ false
    go true t a ih = t
    go false t a ih = rw (a, ih)

among_later : (c : SentCommand) (u v : List SentCommand) → among c (u ++ (c ∷ v)) ≡ true
unfolding among
among_later c [] v = rw (same_self c)
among_later c (y ∷ u) v = rw (among_later c u v) (or-true (same_command y c))

-- what stands before it, and what stands behind it
without_split : (c : SentCommand) (u v : List SentCommand) → twice_among (u ++ (c ∷ v)) ≡ false → all_but c (u ++ (c ∷ v)) ≡ u ++ v
unfolding twice_among all_but
without_split c [] v e = rw (same_self c)
without_split c (x ∷ u) v e =
    let (a, t) = neither (among x (u ++ (c ∷ v))) (twice_among (u ++ (c ∷ v))) e in
    rw (differs a) (ap (λ (r : List SentCommand). x ∷ r) (without_split c u v t))
  where
    differs : among x (u ++ (c ∷ v)) ≡ false → same_command x c ≡ false
    differs f =
        by_test (same_command x c)
        (λ t. absurd (clash (among x (u ++ (c ∷ v))) (subst (λ (y : SentCommand). among y (u ++ (c ∷ v)) ≡ true) (sym (command_is x c t)) (among_later c u v)) f)) (λ g. g)

-- ---- tables that are not refused
record Good (t : Outstanding) : Type 0 where
  there : length t.entries ≡ 8
  few : t.count ≤ 8
  once : twice_among (awaited t) ≡ false

good_fits : (t : Outstanding) → Good t → unfit_table t ≡ false
good_fits t g = rw (le-ltb 8 t.count g.few, g.once)

used_long : (t : Outstanding) → Good t → length (awaited t) ≡ t.count
used_long t g = length-take-le t.count t.entries (omega (arith, g.there, g.few))

-- said of the entries, as the statements say it
fit_good : (t : Outstanding) → FitCommands t → Good t
fit_good t f = record {
  there = f.there;
  few = f.few;
  once = twice_none (awaited t) (λ i j l m e. f.differ i j l (omega (arith, long)) (sym (at i (omega (arith, long))) ∙ e ∙ at j (omega (arith, long))));
}
  where
    long : length (awaited t) ≡ t.count
    long = length-take-le t.count t.entries (omega (arith, f.there, f.few))

    at : (i : ℕ) → i < t.count → get_or (awaited t) i zero_command ≡ command_at t i
    at i l = get_or-take t.count t.entries i zero_command l

good_fit : (t : Outstanding) → Good t → FitCommands t
good_fit t g = record {
  there = g.there;
  few = g.few;
  differ = λ i j l m e.
      clash (twice_among (awaited t))
      (twice_pair (awaited t) i j l (omega (arith, used_long t g))
      (get_or-take t.count t.entries i zero_command (omega arith) ∙ e ∙ sym (get_or-take t.count t.entries j zero_command m))) g.once;
}

waits_among : (c : SentCommand) (t : Outstanding) → Good t → Waits c t → among c (awaited t) ≡ true
waits_among c t g w =
    among_at c (awaited t) w.place (omega (arith, used_long t g, w.used))
    (get_or-take t.count t.entries w.place zero_command w.used ∙ w.is)

absent_among : (c : SentCommand) (t : Outstanding) → Good t → (Waits c t → ⊥) → among c (awaited t) ≡ false
absent_among c t g n =
    by_test (among c (awaited t))
    (λ e. let s = among_stands c (awaited t) e in
    let l : s.place < t.count = omega (arith, used_long t g, s.used) in
    absurd (n (record { place = s.place; used = l; is = sym (get_or-take t.count t.entries s.place zero_command l) ∙ s.is })))
    (λ f. f)

-- ---- a command more, a command less
module _ (t : Outstanding) (c : SentCommand) (g : Good t) where
  put_list : (with_command t c).entries ≡ (awaited t ++ (c ∷ [])) ++ drop (t.count + 1) t.entries
  put_list = sym (append_assoc (awaited t) (c ∷ []) (drop (t.count + 1) t.entries))

  put_long : length (awaited t ++ (c ∷ [])) ≡ t.count + 1
  put_long = simp length-append (omega (arith, used_long t g))

  used_put : awaited (with_command t c) ≡ awaited t ++ (c ∷ [])
  used_put = ap (take (t.count + 1)) put_list ∙ take_at (awaited t ++ (c ∷ [])) (drop (t.count + 1) t.entries) (t.count + 1) put_long

  past_put : drop (t.count + 1) (with_command t c).entries ≡ drop (t.count + 1) t.entries
  past_put = ap (drop (t.count + 1)) put_list ∙ drop_at (awaited t ++ (c ∷ [])) (drop (t.count + 1) t.entries) (t.count + 1) put_long

  good_put : t.count < 8 → among c (awaited t) ≡ false → Good (with_command t c)
  good_put l f = record {
    there = ap length put_list ∙ simp (length-append, length-drop) (omega (arith, used_long t g, g.there));
    few = omega arith;
    once = rw used_put (twice_snoc c (awaited t) g.once f);
  }

  module _ (has : among c (awaited t) ≡ true) where
    out_long : length (all_but c (awaited t)) ≡ t.count - 1
    out_long = omega (arith, without_long c (awaited t) has, used_long t g)

    used_out : awaited (without_command t c) ≡ all_but c (awaited t)
    used_out = take_at (all_but c (awaited t)) (zero_command ∷ drop t.count t.entries) (t.count - 1) out_long

    some_used : 1 ≤ t.count
    some_used = omega (arith, without_long c (awaited t) has, used_long t g)

    good_out : Good (without_command t c)
    good_out = record {
      there = simp (length-append, length-drop) (omega (arith, out_long, some_used, g.there, g.few));
      few = omega (arith, g.few);
      once = rw used_out (twice_without c (awaited t) g.once);
    }

-- ---- one call
data Deed (t : Outstanding) : Reply → Outstanding → Type 0 where
  puts : (c : SentCommand) → among c (awaited t) ≡ false → t.count < 8 → Deed t (is_sent c) (with_command t c)
  takes : (c : SentCommand) → among c (awaited t) ≡ true → Deed t (is_closed c) (without_command t c)
  waits_on : (c : SentCommand) → Deed t (is_waiting c) t
  refuses : (n : ℕ) → Deed t (is_refused n) t

send_deed : (t : Outstanding) (c : SentCommand) → Deed t (reply_to t (send c)) (table_left t (send c))
unfolding command_sent
send_deed t c = go (unfit_table t) (among c (awaited t)) (leb 8 t.count) refl refl
  where
    go : (u a f : Bool) → among c (awaited t) ≡ a → leb 8 t.count ≡ f
        → let x : Settled Unit = or_stays t (refuse 1 when u otherwise refuse 22 when a otherwise refuse 21 when f otherwise gives (tt, with_command t c)) in
        Deed t (sent_reply c x.0) x.1
    go true a f h k = refuses 1
    go false true f h k = refuses 22
    go false false true h k = refuses 21
    go false false false h k = puts c h (leb-false 8 t.count k)

respond_deed : (t : Outstanding) (sender : ℕ) (p : List ℕ) → Deed t (reply_to t (respond sender p)) (table_left t (respond sender p))
unfolding response_came
respond_deed t sender p =
    go (unfit_table t) (well_formed Response p) (ltb most_octets (length p)) (among c (awaited t)) (announces_another (status_of p)) refl
  where
    c : SentCommand
    c = answered_by sender p

    go : (u w m a n : Bool) → among c (awaited t) ≡ a
        → let x : Settled Fate = or_stays t (refuse 1 when u otherwise refuse 9 when not w otherwise refuse 12 when m otherwise refuse 23 when not a otherwise gives (fate_by n t c)) in
        Deed t (came_reply c x.0) x.1
    go true w m a n h = refuses 1
    go false false m a n h = refuses 9
    go false true true a n h = refuses 12
    go false true false false n h = refuses 23
    go false true false true true h = waits_on c
    go false true false true false h = takes c h

deed_of : (t : Outstanding) (e : TableCall) → Deed t (reply_to t e) (table_left t e)
deed_of t (send c) = send_deed t c
deed_of t (respond sender p) = respond_deed t sender p

module _ (t : Outstanding) (g : Good t) where
  deed_good : (r : Reply) (d : Outstanding) → Deed t r d → Good d
  deed_good r d (puts c f l) = good_put t c g l f
  deed_good r d (takes c h) = good_out t c g h
  deed_good r d (waits_on c) = g
  deed_good r d (refuses n) = g

  deed_count : (r : Reply) (d : Outstanding) → Deed t r d → sent_in (r ∷ []) + t.count ≡ closed_in (r ∷ []) + d.count
  deed_count r d (puts c f l) = omega arith
  deed_count r d (takes c h) = omega (arith, some_used t c g h)
  deed_count r d (waits_on c) = refl
  deed_count r d (refuses n) = refl

  deed_among : (r : Reply) (d : Outstanding) → Deed t r d → (c : SentCommand) → among c (awaited d) ≡ (among c (awaited t) && not (closes_it c r)) || sends c r
  deed_among r d (puts x f l) c = rw (used_put t x g) (among_snoc c x (awaited t) ∙ ap (λ (b : Bool). b || same_command x c) (and-true (among c (awaited t))))
  deed_among r d (takes x h) c = rw (used_out t x g h) (among_without c x (awaited t) g.once ∙ or-false (among c (awaited t) && not (same_command x c)))
  deed_among r d (waits_on x) c = same_left (among c (awaited t))
  deed_among r d (refuses n) c = same_left (among c (awaited t))

-- ---- histories
empty_good : Good no_commands
unfolding twice_among
empty_good = record { there = refl; few = omega arith; once = refl }

run_good : (t : Outstanding) → Good t → (es : List TableCall) → Good (table_after t es)
run_good t g [] = g
run_good t g (e ∷ es) = run_good (table_left t e) (deed_good t g (reply_to t e) (table_left t e) (deed_of t e)) es

sent_first : (r : Reply) (rs : List Reply) → sent_in (r ∷ rs) ≡ sent_in (r ∷ []) + sent_in rs
sent_first (is_sent c) rs = omega arith
sent_first (is_closed c) rs = omega arith
sent_first (is_waiting c) rs = omega arith
sent_first (is_refused n) rs = omega arith

closed_first : (r : Reply) (rs : List Reply) → closed_in (r ∷ rs) ≡ closed_in (r ∷ []) + closed_in rs
closed_first (is_sent c) rs = omega arith
closed_first (is_closed c) rs = omega arith
closed_first (is_waiting c) rs = omega arith
closed_first (is_refused n) rs = omega arith

run_count : (t : Outstanding) → Good t → (es : List TableCall) → sent_in (replies t es) + t.count ≡ closed_in (replies t es) + (table_after t es).count
run_count t g [] = refl
run_count t g (e ∷ es) =
    let r = reply_to t e in
    let d = table_left t e in
    let step = deed_count t g r d (deed_of t e) in
    let later = run_count d (deed_good t g r d (deed_of t e)) es in
    omega (arith, sent_first r (replies d es), closed_first r (replies d es), step, later)

run_among : (t : Outstanding) → Good t → (es : List TableCall) (c : SentCommand)
    → among c (awaited (table_after t es)) ≡ (among c (awaited t) && not (closed_since c (replies t es))) || sent_and_open c (replies t es)
run_among t g [] c = same_left (among c (awaited t))
run_among t g (e ∷ es) c =
    let r = reply_to t e in
    let d = table_left t e in
    let rs = replies d es in
    run_among d (deed_good t g r d (deed_of t e)) es c
    ∙ ap (λ (b : Bool). (b && not (closed_since c rs)) || sent_and_open c rs) (deed_among t g r d (deed_of t e) c)
    ∙ regroup (among c (awaited t)) (closes_it c r) (sends c r) (closed_since c rs) (sent_and_open c rs)

pub balanced : Balanced
balanced es =
    let n = run_count no_commands empty_good es in
    let l = used_long (table_after no_commands es) (run_good no_commands empty_good es) in
    omega (arith, n, l)

pub holds_exactly : HoldsExactly
unfolding among
holds_exactly es c = run_among no_commands empty_good es c

pub always_fit : AlwaysFit
always_fit es = good_fit (table_after no_commands es) (run_good no_commands empty_good es)

-- ---- refusals
module _ (t : Outstanding) where
  many_unfit : 8 < t.count → unfit_table t ≡ true
  many_unfit l = rw (lt-ltb 8 t.count l)

  twice_unfit : (i j : ℕ) → i < j → j < t.count → j < length t.entries → command_at t i ≡ command_at t j → unfit_table t ≡ true
  twice_unfit i j l m n e =
      let k : j < length (awaited t) = simp length-take (omega arith) in
      let b = twice_pair (awaited t) i j l k (get_or-take t.count t.entries i zero_command (omega arith) ∙ e ∙ sym (get_or-take t.count t.entries j zero_command m)) in
      rw b (or-true (ltb 8 t.count))

unfit_commands : {A : Type 0} (call : Outstanding → Settled A) → ((t : Outstanding) → unfit_table t ≡ true → call t ≡ settled (refused 1) t) → UnfitCommands A call
unfit_commands call h = record {
  many = λ t l. h t (many_unfit t l);
  twice = λ t i j l m n e. h t (twice_unfit t i j l m n e);
}

pub sends_or_refuses : (c : SentCommand) → SendsOrRefuses c
unfolding command_sent
sends_or_refuses c = record {
  one = unfit_commands (λ t. command_sent t c) (λ t u. rw u);
  twenty_two = λ t f w. let g = fit_good t f in rw (good_fits t g, waits_among c t g w);
  twenty_one = λ t f n l. let g = fit_good t f in rw (good_fits t g, absent_among c t g n, le-leb 8 t.count (omega arith));
  sent = λ t f n l. let g = fit_good t f in rw (good_fits t g, absent_among c t g n, lt-leb 8 t.count l);
}

-- the command that parsing tells of
answered_is : (sender : ℕ) (p : List ℕ) (tar : Tar) (b : PlainResponse) → parsing Response false p ≡ gives (response_fields tar (response.Plain b))
    → answered_by sender p ≡ sent_command sender tar b.cntr
answered_is sender p tar b e =
    λ i. sent_command sender (at 0 (omega arith) i, at 1 (omega arith) i, at 2 (omega arith) i)
    (at 3 (omega arith) i, at 4 (omega arith) i, at 5 (omega arith) i, at 6 (omega arith) i, at 7 (omega arith) i)
  where
    at : (k : ℕ) → k < 10 → get_or p (3 + k) 0 ≡ get_or (tar.0 ∷ tar.1 ∷ tar.2 ∷ b.cntr.0 ∷ b.cntr.1 ∷ b.cntr.2 ∷ b.cntr.3 ∷ b.cntr.4 ∷ b.pcntr ∷ b.status ∷ []) k 0
    at k l = sym (get_or-take 10 (drop 3 p) k 0 l ∙ get_or-drop 3 p k 0) ∙ ap (λ (f : List ℕ). get_or f k 0) (fixed_is p tar b e)

came_read : (t : Outstanding) (sender : ℕ) (p : List ℕ) (tar : Tar) (b : PlainResponse) → Good t
    → parsing Response false p ≡ gives (response_fields tar (response.Plain b))
    → let c = sent_command sender tar b.cntr in
    response_came t sender p ≡ or_stays t (refuse 23 when not (among c (awaited t)) otherwise gives (fate_by (announces_another b.status) t c))
unfolding response_came
came_read t sender p tar b g e =
    let (formed, size) = formed_size p tar b e in
    rw (good_fits t g, ← answered_is sender p tar b e, ← status_is p tar b e)
    (ap (or_stays t) (readable_formed Response false p (refuse 23 when not (among (answered_by sender p) (awaited t)) otherwise gives (fate_by (announces_another (status_of p)) t (answered_by sender p))) formed size refl))

unfit_came : (sender : ℕ) (p : List ℕ) (t : Outstanding) → unfit_table t ≡ true → response_came t sender p ≡ settled (refused 1) t
unfolding response_came
unfit_came sender p t u = rw u

refused_came : (sender : ℕ) (p : List ℕ) (t : Outstanding) → Good t → (n : ℕ) → parsing Response false p ≡ refused n → response_came t sender p ≡ settled (refused n) t
unfolding parsing response_came
refused_came sender p t g n e =
    rw (good_fits t g)
    (ap (or_stays t)
    (still_refused n (measured (fields_of Response false p))
    (refuse 23 when not (among (answered_by sender p) (awaited t)) otherwise gives (fate_by (announces_another (status_of p)) t (answered_by sender p)))
    (not (well_formed Response p)) (ltb most_octets (length p)) e))

pub closes_or_refuses : (sender : ℕ) (p : List ℕ) → ClosesOrRefuses sender p
closes_or_refuses sender p = record {
  one = unfit_commands (λ t. response_came t sender p) (unfit_came sender p);
  nine_twelve = λ t f n e. refused_came sender p t (fit_good t f) n e;
  unmatched = λ t f tar b e n. let g = fit_good t f in came_read t sender p tar b g e ∙ rw (absent_among (sent_command sender tar b.cntr) t g n);
  waits = λ t f tar b e w s.
      let g = fit_good t f in came_read t sender p tar b g e ∙ rw (waits_among (sent_command sender tar b.cntr) t g w, announced b s);
  closes = λ t f tar b e w m n.
      let g = fit_good t f in
      came_read t sender p tar b g e ∙ rw (waits_among (sent_command sender tar b.cntr) t g w, ne_eqb b.status 0x0B m, ne_eqb b.status 0x08 n);
}
  where
    announced : (b : PlainResponse) → (b.status ≡ 0x0B) ⊎ (b.status ≡ 0x08) → announces_another b.status ≡ true
    announced b s = ⊎_elim (λ (e : b.status ≡ 0x0B). rw e) (λ (e : b.status ≡ 0x08). rw e) s

-- ---- the table afterwards
pub table_left_lem : (t : Outstanding) (c : SentCommand) → TableLeft t c
table_left_lem t c = record {
  put = λ f l. used_put t c (fit_good t f);
  past = λ f l. past_put t c (fit_good t f);
  taken_out_lem = λ f u v e. out t (fit_good t f) u v e;
}
  where
    out : (t : Outstanding) → Good t → (u v : List SentCommand) → awaited t ≡ u ++ (c ∷ v)
        → without_command t c ≡ record { count = length u + length v; entries = (u ++ v) ++ (zero_command ∷ drop t.count t.entries) }
    out t g u v e =
        let n : t.count - 1 ≡ length u + length v = omega (arith, used_long t g, simp length-append at (ap length e)) in
        let w : all_but c (awaited t) ≡ u ++ v = rw e (without_split c u v (rw e at g.once)) in
        λ i. record { count = n i; entries = w i ++ (zero_command ∷ drop t.count t.entries) }

-- ---- past the count
module _ (t s : Outstanding) (long-t : length t.entries ≡ 8) (long-s : length s.entries ≡ 8) (same : Agree t s) where
  unfit_same : unfit_table t ≡ unfit_table s
  unfit_same = λ i. ltb 8 (same.count i) || twice_among (same.used i)

  among_same : (c : SentCommand) → among c (awaited t) ≡ among c (awaited s)
  among_same c = ap (among c) same.used

  good : (r : Outstanding) → length r.entries ≡ 8 → unfit_table r ≡ false → Good r
  good r long f = let (few, once) = neither (ltb 8 r.count) (twice_among (awaited r)) f in record { there = long; few = ltb-false 8 r.count few; once = once }

  put_agree : (c : SentCommand) → unfit_table t ≡ false → Agree (with_command t c) (with_command s c)
  put_agree c f = record {
    count = ap (λ (n : ℕ). n + 1) same.count;
    used = used_put t c (good t long-t f) ∙ ap (λ (l : List SentCommand). l ++ (c ∷ [])) same.used ∙ sym (used_put s c (good s long-s (sym unfit_same ∙ f)));
  }

  out_agree : (c : SentCommand) → unfit_table t ≡ false → among c (awaited t) ≡ true → Agree (without_command t c) (without_command s c)
  out_agree c f h = record {
    count = ap (λ (n : ℕ). n - 1) same.count;
    used = used_out t c (good t long-t f) h ∙ ap (all_but c) same.used ∙ sym (used_out s c (good s long-s (sym unfit_same ∙ f)) (sym (among_same c) ∙ h));
  }

  agree_sending : (c : SentCommand) → ((command_sent t c).0 ≡ (command_sent s c).0) × Agree (command_sent t c).1 (command_sent s c).1
  unfolding command_sent
  agree_sending c =
      rw (← unfit_same, ← among_same c, ← ap (leb 8) same.count) (go (unfit_table t) (among c (awaited t)) (leb 8 t.count) refl)
    where
      go : (u a f : Bool) → unfit_table t ≡ u
          → let x : Outstanding → Settled Unit = λ r. or_stays r (refuse 1 when u otherwise refuse 22 when a otherwise refuse 21 when f otherwise gives (tt, with_command r c)) in
          ((x t).0 ≡ (x s).0) × Agree (x t).1 (x s).1
      go true a f e = (refl, same)
      go false true f e = (refl, same)
      go false false true e = (refl, same)
      go false false false e = (refl, put_agree c e)

  agree_response : (sender : ℕ) (p : List ℕ)
      → ((response_came t sender p).0 ≡ (response_came s sender p).0) × Agree (response_came t sender p).1 (response_came s sender p).1
  unfolding response_came
  agree_response sender p =
      rw (← unfit_same, ← among_same c)
      (go (unfit_table t) (well_formed Response p) (ltb most_octets (length p)) (among c (awaited t)) (announces_another (status_of p)) refl refl)
    where
      c : SentCommand
      c = answered_by sender p

      go : (u w m a n : Bool) → unfit_table t ≡ u → among c (awaited t) ≡ a
          → let x : Outstanding → Settled Fate = λ r. or_stays r (refuse 1 when u otherwise refuse 9 when not w otherwise refuse 12 when m otherwise refuse 23 when not a otherwise gives (fate_by n r c)) in
          ((x t).0 ≡ (x s).0) × Agree (x t).1 (x s).1
      go true w m a n e h = (refl, same)
      go false false m a n e h = (refl, same)
      go false true true a n e h = (refl, same)
      go false true false false n e h = (refl, same)
      go false true false true true e h = (refl, same)
      go false true false true false e h = (refl, out_agree c e h)

  pub past_count : PastCount t s
  past_count = record { sending = agree_sending; response = agree_response }

-- ---- from parts over the air
pub from_air : (n : ℕ) → Slots n → FromAir n
from_air n good t f sender p octets tar b e m k w = record {
  handed_out = λ width reference fits small. messages_delivered n good Response sender width reference p octets (formed_size p tar b e).0 fits small;
  closed_by = λ output. rw (take-append_seam p (drop (length p) output)) ((closes_or_refuses sender p).closes t f tar b e w m k);
}

-- ---- all of it
example : ExampleHistory
unfolding among twice_among all_but command_sent response_came
example = record { answers = refl; table = refl; counts = (refl, refl); freed = refl }

pub outstanding_commands : OutstandingCommands
outstanding_commands = record {
  sends_or_refuses = sends_or_refuses;
  closes_or_refuses = closes_or_refuses;
  table_left_lem = table_left_lem;
  past_count = past_count;
  balanced = balanced;
  holds_exactly = holds_exactly;
  always_fit = always_fit;
  from_air = from_air;
  example = example;
}
