-- Logs up to what is noted of recency and beats: what such logs share; and what one part does to a log, case by case.
use Prim.Native.Nat.{ℕ}
use mathlib.Core.Path.{◌≡◌, refl, sym, ap, ◌∙◌, subst}
use mathlib.Core.Bool.{Bool, true, false, cond}
use mathlib.Core.List.{List, [], ◌∷◌, ◌++◌, map}
use mathlib.Core.Option.{Option, none, some}
use lib.Dec.{eqb}
use Rattle.octets.specs.Octets.{same_octets}
use Rattle.octets.specs.Tests.{clash}
use Rattle.types.specs.declared.Kind.{Kind}
use Rattle.types.specs.declared.Key.{Key}
use Rattle.arrival.specs.Keys.{of_pages}
use Rattle.joined.specs.Fronts.{packet_in}
use Rattle.plain.specs.Entries.{Entry}
use Rattle.plain.specs.Log.{first_entry, is_some, has_entry, has_key, is_part, free_from, only, without, noted_as, touch, close, log_hand_out, new_entry, log_complete, whole, log_take_part}
use Rattle.plain.specs.Same.{All, nil, cons}
use Rattle.plain.specs.Walks.{all_map}

-- ---- without what is noted
abbrev pub bare : Entry → Entry
bare e = noted_as 0 0 e

abbrev pub bares : List Entry → List Entry
bares log = map bare log

module _ (f g : Entry → ℕ) where
  pub bare_noted : (log : List Entry) → bares (map (λ e. noted_as (f e) (g e) e) log) ≡ bares log
  bare_noted [] = refl
  bare_noted (e ∷ log) = ap (λ (l : List Entry). bare e ∷ l) (bare_noted log)

  -- tests of what is not noted: a copy by one, and a copy with other notes, in either order
  pub only_noted : (p : Entry → Bool) → ((e : Entry) → p (noted_as (f e) (g e) e) ≡ p e) → (log : List Entry)
      → only p (map (λ e. noted_as (f e) (g e) e) log) ≡ map (λ e. noted_as (f e) (g e) e) (only p log)
  unfolding only
  only_noted p inv [] = refl
  only_noted p inv (e ∷ log) = rw (inv e) (go (p e) (only_noted p inv log))
    where
      go : (b : Bool) → only p (map (λ e. noted_as (f e) (g e) e) log) ≡ map (λ e. noted_as (f e) (g e) e) (only p log)
          → cond b (noted_as (f e) (g e) e ∷ only p (map (λ e. noted_as (f e) (g e) e) log)) (only p (map (λ e. noted_as (f e) (g e) e) log)) ≡ map (λ e. noted_as (f e) (g e) e) (cond b (e ∷ only p log) (only p log))
      go true ih = ap (λ (l : List Entry). noted_as (f e) (g e) e ∷ l) ih
      go false ih = ih

pub bares_more : (a b : List Entry) → bares (a ++ b) ≡ bares a ++ bares b
bares_more [] b = refl
bares_more (e ∷ a) b = ap (λ (l : List Entry). bare e ∷ l) (bares_more a b)

-- a claim that says nothing of what is noted goes from one log to the other
all_dressed : (Q : Entry → Type 0) → ((e : Entry) → Q (bare e) → Q e) → (log : List Entry) → All Q (bares log) → All Q log
all_dressed Q up [] a = nil
all_dressed Q up (e ∷ log) (cons h t) = cons (up e h) (all_dressed Q up log t)

pub all_same : (Q : Entry → Type 0) → ((e : Entry) → Q e → Q (bare e)) → ((e : Entry) → Q (bare e) → Q e) → (a b : List Entry) → bares a ≡ bares b → All Q a → All Q b
all_same Q down up a b e h = all_dressed Q up b (subst (All Q) e (all_map Q Q bare a h down))

has_bare : (p : Entry → Bool) → ((e : Entry) → p (bare e) ≡ p e) → (log : List Entry) → has_entry p (bares log) ≡ has_entry p log
unfolding first_entry
has_bare p inv [] = refl
has_bare p inv (e ∷ log) = rw (inv e) (go (p e) (has_bare p inv log))
  where
    go : (b : Bool) → has_entry p (bares log) ≡ has_entry p log → is_some (cond b (some (bare e)) (first_entry p (bares log))) ≡ is_some (cond b (some e) (first_entry p log))
    go true ih = refl
    go false ih = ih

pub has_same : (p : Entry → Bool) → ((e : Entry) → p (bare e) ≡ p e) → (a b : List Entry) → bares a ≡ bares b → has_entry p a ≡ has_entry p b
has_same p inv a b e = sym (has_bare p inv a) ∙ ap (has_entry p) e ∙ has_bare p inv b

-- ---- walks and copies
pub none_first : (p : Entry → Bool) (log : List Entry) → has_entry p log ≡ false → first_entry p log ≡ none
none_first p log h = go (first_entry p log) refl h
  where
    go : (r : Option Entry) → first_entry p log ≡ r → is_some r ≡ false → first_entry p log ≡ none
    go none e h = e
    go (some x) e h = absurd (clash true refl h)

pub some_first : (p : Entry → Bool) (log : List Entry) → has_entry p log ≡ true → (e : Entry) × (first_entry p log ≡ some e)
some_first p log h = go (first_entry p log) refl h
  where
    go : (r : Option Entry) → first_entry p log ≡ r → is_some r ≡ true → (e : Entry) × (first_entry p log ≡ some e)
    go none e h = absurd (clash false h refl)
    go (some x) e h = (x, e)

pub only_all : (p : Entry → Bool) (log : List Entry) → All (λ e. p e ≡ true) log → only p log ≡ log
unfolding only
only_all p [] nil = refl
only_all p (e ∷ log) (cons h t) = rw h (ap (λ (l : List Entry). e ∷ l) (only_all p log t))

pub only_more : (p : Entry → Bool) (a b : List Entry) → only p (a ++ b) ≡ only p a ++ only p b
unfolding only
only_more p [] b = refl
only_more p (e ∷ a) b = go (p e) (only_more p a b)
  where
    go : (c : Bool) → only p (a ++ b) ≡ only p a ++ only p b → cond c (e ∷ only p (a ++ b)) (only p (a ++ b)) ≡ cond c (e ∷ only p a) (only p a) ++ only p b
    go true ih = ap (λ (l : List Entry). e ∷ l) ih
    go false ih = ih

-- what passes p passes q too: copied by q first, the copy by p is the same
pub only_twice : (p q : Entry → Bool) (log : List Entry) → All (λ e. q e ≡ false → p e ≡ false) log → only p (only q log) ≡ only p log
unfolding only
only_twice p q [] nil = refl
only_twice p q (e ∷ log) (cons h t) = go (q e) refl (p e) refl (only_twice p q log t)
  where
    go : (c : Bool) → q e ≡ c → (b : Bool) → p e ≡ b → only p (only q log) ≡ only p log → only p (cond c (e ∷ only q log) (only q log)) ≡ cond b (e ∷ only p log) (only p log)
    go true x true y ih = rw y (ap (λ (l : List Entry). e ∷ l) ih)
    go true x false y ih = rw y ih
    go false x true y ih = absurd (clash (p e) y (h x))
    go false x false y ih = ih

-- a claim about what is copied
pub all_of_only : (Q : Entry → Type 0) (p : Entry → Bool) (log : List Entry) → All Q (only p log) → All (λ e. p e ≡ true → Q e) log
unfolding only
all_of_only Q p [] a = nil
all_of_only Q p (e ∷ log) a = go (p e) refl a (all_of_only Q p log)
  where
    go : (b : Bool) → p e ≡ b → All Q (cond b (e ∷ only p log) (only p log)) → (All Q (only p log) → All (λ e. p e ≡ true → Q e) log) → All (λ e. p e ≡ true → Q e) (e ∷ log)
    go true q (cons h t) ih = cons (λ z. h) (ih t)
    go false q a ih = cons (λ z. absurd (clash (p e) z q)) (ih a)

-- a log in two pieces, an entry between them
pub all_split : (P : Entry → Type 0) (a : List Entry) (e : Entry) (b : List Entry) → All P (a ++ e ∷ b) → All P a × P e × All P b
all_split P [] e b (cons h t) = (nil, h, t)
all_split P (x ∷ a) e b (cons h t) = let (s, m, r) = all_split P a e b t in (cons h s, m, r)

pub has_front : (p : Entry → Bool) (a b : List Entry) → has_entry p (a ++ b) ≡ false → has_entry p a ≡ false
unfolding first_entry
has_front p [] b h = refl
has_front p (e ∷ a) b h = go (p e) h (has_front p a b)
  where
    go : (c : Bool) → is_some (cond c (some e) (first_entry p (a ++ b))) ≡ false → (has_entry p (a ++ b) ≡ false → has_entry p a ≡ false) → is_some (cond c (some e) (first_entry p a)) ≡ false
    go true h ih = absurd (clash true refl h)
    go false h ih = ih h

-- ---- one part
module _ (n : ℕ) (k : Kind) (log : List Entry) (output : List ℕ) (key : Key) (total number : ℕ) (octets : List ℕ) where
  -- of a series that is there, x the entry that the walk for the key finds
  module _ (x : Entry) (found : first_entry (has_key key) log ≡ some x) (counted : eqb x.total total ≡ true) where
    pub repeats_log : (p : Entry) → first_entry (is_part x.slot number) log ≡ some p → same_octets p.octets octets ≡ true
        → (log_take_part n k log output key total number octets).log ≡ touch x.slot x.rank log
    unfolding log_take_part
    repeats_log p e s = rw (found, counted, e, s)

    pub keeps_log : has_entry (is_part x.slot number) log ≡ false → log_complete n k log output key total number octets x.slot ≡ false
        → (log_take_part n k log output key total number octets).log ≡ touch x.slot x.rank log ++ new_entry n k log output key total number octets x.slot ∷ []
    unfolding log_take_part
    keeps_log h c = rw (found, counted, none_first (is_part x.slot number) log h, c)

    handed_log : (l : List Entry) (o : Option (List ℕ)) → (log_hand_out l output o).log ≡ l
    handed_log l none = refl
    handed_log l (some p) = refl

    pub finishes_log : has_entry (is_part x.slot number) log ≡ false → log_complete n k log output key total number octets x.slot ≡ true
        → (log_take_part n k log output key total number octets).log ≡ close x.rank (without x.slot log)
    unfolding log_take_part
    finishes_log h c =
        rw (found, counted, none_first (is_part x.slot number) log h, c)
        (handed_log (close x.rank (without x.slot log)) (packet_in k (of_pages key) total (whole n k log output key total number octets x.slot)))

  -- of a new series, in slot i
  pub opens_log : (i : ℕ) → has_entry (has_key key) log ≡ false → free_from log 0 n ≡ some i
      → (log_take_part n k log output key total number octets).log ≡ touch i 0 (without i log) ++ new_entry n k log output key total number octets i ∷ []
  unfolding log_take_part
  opens_log i h e = rw (none_first (has_key key) log h, e)
