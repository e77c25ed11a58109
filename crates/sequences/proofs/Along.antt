-- What holds of each call of a list, shown call by call.
use Prim.Native.Nat.{ℕ}
use mathlib.Core.Path.{◌≡◌, refl, ap, ◌∙◌, subst}
use mathlib.Core.Bool.{Bool, true, false, cond}
use mathlib.Core.List.{List, [], ◌∷◌, ◌++◌, nil≢cons, head-eq_of_cons-eq, tail-eq_of_cons-eq}
use Rattle.types.specs.declared.Kind.{Kind}
use Rattle.types.specs.Refusals as reading
use Rattle.types.specs.declared.Key.{Key}
use Rattle.arrival.specs.Arrivals.{Brought, single, part}
use Rattle.slots.specs.Slots.{same_key}
use Rattle.series.specs.Calls.{read}
use Rattle.sequences.specs.Lists.{complete}
use Rattle.sequences.specs.Runs.{Call, Event, takes, beats, Store, outcome, left, left_by, run, Each}
use Rattle.sequences.specs.Wake.{History, history_after, history_by, follow, EachWith}

abbrev pub All : (Event → Type 0) → List Event → Type 0
All Claim [] = Unit {0}
All Claim (c ∷ cs) = Claim c × All Claim cs

pub each : (Claim : Event → Type 0) (calls : List Event) → All Claim calls → Each Claim calls
each Claim [] a [] d v e = absurd (nil≢cons e)
each Claim [] a (c ∷ u) d v e = absurd (nil≢cons e)
each Claim (c ∷ cs) a [] d v e = subst Claim (head-eq_of_cons-eq e) a.0
each Claim (c ∷ cs) a (x ∷ u) d v e = each Claim cs a.1 u d v (tail-eq_of_cons-eq e)

pub all_of_lem : (Claim : Event → Type 0) (calls : List Event) → Each Claim calls → All Claim calls
all_of_lem Claim [] a = tt
all_of_lem Claim (c ∷ cs) a = (a [] c cs refl, all_of_lem Claim cs (λ u d v e. a (c ∷ u) d v (ap (λ (l : List Event). c ∷ l) e)))

pub all_more : (Claim : Event → Type 0) (calls : List Event) (e : Event) → All Claim calls → Claim e → All Claim (calls ++ e ∷ [])
all_more Claim [] e a h = (h, tt)
all_more Claim (c ∷ cs) e a h = (a.0, all_more Claim cs e a.1 h)

module _ (n : ℕ) (k : Kind) (K : Key) (t : ℕ) (Claim : History → Call → (total number start : ℕ) → Type 0) where
  abbrev pub Here : History → Call → Type 0
  Here w c =
      (total number start : ℕ) → read k c.input ≡ reading.gives (part K total number start) → complete t w.arrived ≡ false → Claim w c total number start

  -- of an event: a beat bears no key
  abbrev pub HereBy : History → Event → Type 0
  HereBy w (takes c) = Here w c
  HereBy w (beats limit) = Unit {0}

  abbrev pub Along : History → List Event → Type 0
  Along w [] = Unit {0}
  Along w (c ∷ cs) = HereBy w c × Along (history_by n k K w c) cs

  pub each_with : (calls : List Event) (w : History) → Along w calls → EachWith n k K t Claim w calls
  each_with [] w a [] d v e = absurd (nil≢cons e)
  each_with [] w a (c ∷ u) d v e = absurd (nil≢cons e)
  each_with (c ∷ cs) w a [] d v e = subst (HereBy w) (head-eq_of_cons-eq e) a.0
  each_with (c ∷ cs) w a (x ∷ u) d v e =
      subst (λ (y : Event). Here (follow n k K w (y ∷ u)) d) (head-eq_of_cons-eq e) (each_with cs (history_by n k K w c) a.1 u d v (tail-eq_of_cons-eq e))

  here_of : (w : History) (c : Event) (cs : List Event) → EachWith n k K t Claim w (c ∷ cs) → HereBy w c
  here_of w (takes c) cs a = a [] c cs refl
  here_of w (beats limit) cs a = tt

  pub along_of : (calls : List Event) (w : History) → EachWith n k K t Claim w calls → Along w calls
  along_of [] w a = tt
  along_of (c ∷ cs) w a = (here_of w c cs a, along_of cs (history_by n k K w c) (λ u d v e. a (c ∷ u) d v (ap (λ (l : List Event). c ∷ l) e)))

  -- one call more
  pub along_more : (calls : List Event) (w : History) (c : Call) → Along w calls → Here (follow n k K w calls) c → Along w (calls ++ takes c ∷ [])
  along_more [] w c a h = (h, tt)
  along_more (d ∷ cs) w c a h = (a.0, along_more cs (history_by n k K w d) c a.1 h)

-- ---- the store that events leave
-- two runs, one after the other
pub run_more : (n : ℕ) (u v : List Event) (st : Store) → run n st (u ++ v) ≡ run n (run n st u) v
run_more n [] v st = refl
run_more n (c ∷ u) v st = run_more n u v (left_by n st c)

-- what is seen has it
module _ (n : ℕ) (k : Kind) (K : Key) where
  store_seen : (q : History) (c : Call) → (history_by n k K q (takes c)).store ≡ left (outcome n q.store c)
  store_seen q c = by_reading (read k c.input)
    where
      by_key : (t : Bool) (x y : History) → x.store ≡ left (outcome n q.store c) → y.store ≡ left (outcome n q.store c) → (cond t x y).store ≡ left (outcome n q.store c)
      by_key true x y e f = e
      by_key false x y e f = f

      by_reading : (r : reading.Outcome Brought) → (history_after n k K q (outcome n q.store c) r).store ≡ left (outcome n q.store c)
      by_reading (reading.refused m) = refl
      by_reading (reading.gives (single start)) = refl
      by_reading (reading.gives (part X total number start)) = by_key (same_key X K) _ _ refl refl

  pub store_run : (calls : List Event) (q : History) → (follow n k K q calls).store ≡ run n q.store calls
  store_run [] q = refl
  store_run (takes c ∷ cs) q = store_run cs (history_by n k K q (takes c)) ∙ ap (λ (st : Store). run n st cs) (store_seen q c)
  store_run (beats limit ∷ cs) q = store_run cs (history_by n k K q (beats limit))
