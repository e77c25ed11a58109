-- What the proofs of `walks` search: one law for each return and each turn of a loop, over plain variables. A walk keeps that the entries still to come
-- say what all of them say.
use Prim.Native.Nat.{ℕ, suc, ◌+◌, ◌-◌, ◌≤◌, ◌<◌}
use mathlib.Core.Path.{◌≡◌, refl, sym, ap, ◌∙◌}
use mathlib.Core.Bool.{Bool, true, false, not, cond, ◌&&◌, ◌||◌}
use mathlib.Core.List.{List, [], ◌∷◌}
use mathlib.Core.Option.{none, some}
use native.Mathlib.Omega.{arith}
use native.Mathlib.Numerals.{add-one}
use lib.Dec.{eqb, ltb, leb}
use mir.Syntax.{w8}
use mir.Val.{Fits, bool_byte}
use borrow.Author.Rules.{rules}
use borrow.Author.Tests.{eq-eqb, ne_eqb, lt-ltb, le-ltb}
use Rattle.octets.specs.Tests.{clash}
use Rattle.types.specs.declared.Key.{Key}
use Rattle.slots.specs.Below.{count_below}
use Rattle.slots.specs.BelowLaws.{all_from, all_more, all_through, count_from, count_more, count_through}
use Rattle.slots.specs.Slots.{same_key}
use Rattle.logs.specs.declared.walks.Sought.{Sought}
use Rattle.logs.specs.declared.walks.Sought.TheVariants.{OfKey, OfSlot, OfPart, OfRank, Against, Dead}
use Rattle.plain.specs.Entries.{Entry, log_entry_at, entries_from}
use Rattle.plain.specs.Log.{first_entry, has_entry, is_part, of_slot, free_from, dead, log_dropped}
use Rattle.plain.specs.Engine.{agrees, contends, against}
use Rattle.logs.specs.Places.{seek, found_at, free_at, all_in_log}

-- ---- one entry
pub due_told : (limit x b v w : ℕ) → w ≡ limit → b ≡ x → v ≡ b → leb w (v + 1) ≡ leb limit (suc x)
due_told limit x b v w p q r = rw (p, r, q, add-one)

module _ (lent : List ℕ) (i j : ℕ) (a b c d e f : ℕ) (k l : Key) (m : Bool) (p : a ≡ (log_entry_at lent j).rank) (q : b ≡ (log_entry_at lent i).rank) (r : c ≡ (log_entry_at lent j).beats)
    (s : d ≡ (log_entry_at lent i).beats) (t : k ≡ (log_entry_at lent j).key) (u : l ≡ (log_entry_at lent i).key) (v : m ≡ same_key k l) where
  pub agrees_told : e ≡ (log_entry_at lent j).total → f ≡ (log_entry_at lent i).total → eqb a b && eqb c d && m && eqb e f ≡ agrees (log_entry_at lent i) (log_entry_at lent j)
  agrees_told w x = rw (v, p, q, r, s, t, u, w, x)

  pub contends_told : m || eqb a b || (ltb a b && ltb d c) ≡ contends (log_entry_at lent i) (log_entry_at lent j)
  contends_told = rw (v, p, q, r, s, t, u)

module _ (lent : List ℕ) (i j : ℕ) (a b : ℕ) (p : a ≡ (log_entry_at lent j).slot) (q : b ≡ (log_entry_at lent i).slot) where
  pub against_one : (r : Bool) → a ≡ b → r ≡ agrees (log_entry_at lent i) (log_entry_at lent j) → not r ≡ against (log_entry_at lent i) (log_entry_at lent j)
  against_one r e f = rw (← p, ← q, eq-eqb a b e, f)

  pub against_two : (r : Bool) → (a ≡ b → ⊥) → r ≡ contends (log_entry_at lent i) (log_entry_at lent j) → r ≡ against (log_entry_at lent i) (log_entry_at lent j)
  against_two r e f = rw (← p, ← q, ne_eqb a b e) f

module _ (lent : List ℕ) (j : ℕ) (s : Sought) where
  pub passes_key : (key x : Key) (r : Bool) → s ≡ OfKey key → x ≡ (log_entry_at lent j).key → r ≡ same_key x key → r ≡ seek lent s (log_entry_at lent j)
  passes_key key x r e p q = rw (e, ← p) q

  pub passes_slot : (slot x : ℕ) → s ≡ OfSlot slot → x ≡ (log_entry_at lent j).slot → eqb x slot ≡ seek lent s (log_entry_at lent j)
  passes_slot slot x e p = rw (e, p)

  pub passes_part : (slot number : ℕ) (r : Bool) → s ≡ OfPart slot number → r ≡ is_part slot number (log_entry_at lent j) → r ≡ seek lent s (log_entry_at lent j)
  passes_part slot number r e q = rw e q

  pub passes_rank : (rank x : ℕ) → s ≡ OfRank rank → x ≡ (log_entry_at lent j).rank → eqb x rank ≡ seek lent s (log_entry_at lent j)
  passes_rank rank x e p = rw (e, p)

  pub passes_against : (i : ℕ) (r : Bool) → s ≡ Against i → r ≡ against (log_entry_at lent i) (log_entry_at lent j) → r ≡ seek lent s (log_entry_at lent j)
  passes_against i r e q = rw e q

  pub passes_dead : (slot limit : ℕ) (r : Bool) → s ≡ Dead slot limit → r ≡ dead limit slot (log_entry_at lent j) → r ≡ seek lent s (log_entry_at lent j)
  passes_dead slot limit r e q = rw e q

pub part_told : (lent : List ℕ) (j slot number a b : ℕ) → a ≡ (log_entry_at lent j).slot → b ≡ (log_entry_at lent j).number
    → eqb a slot && eqb b number ≡ is_part slot number (log_entry_at lent j)
part_told lent j slot number a b p q = rw (p, q)

pub dead_told : (lent : List ℕ) (j slot limit a : ℕ) (b : Bool) → a ≡ (log_entry_at lent j).slot → b ≡ leb limit (suc (log_entry_at lent j).beats)
    → eqb a slot && b ≡ dead limit slot (log_entry_at lent j)
dead_told lent j slot limit a b p q = rw (p, q)

-- ---- a walk
-- one entry less to come
pub next_entries : (lent : List ℕ) (m i : ℕ) → i < m → entries_from lent i (m - i) ≡ log_entry_at lent i ∷ entries_from lent (i + 1) (m - (i + 1))
unfolding entries_from
next_entries lent m i l =
    let z : m - i ≡ suc (m - (i + 1)) = omega arith in
    rw (z, add-one)

pub no_entries : (lent : List ℕ) (m i : ℕ) → m ≤ i → entries_from lent i (m - i) ≡ []
unfolding entries_from
no_entries lent m i l = let z : m - i ≡ 0 = omega arith in rw z

-- what is found from i on is what is found from the start on
pub record Walks (p : Entry → Bool) (lent : List ℕ) (from m i : ℕ) : Type 0 where
  pub left : first_entry p (entries_from lent i (m - i)) ≡ first_entry p (entries_from lent from (m - from))

module _ (p : Entry → Bool) (lent : List ℕ) (from m : ℕ) where
  pub walk_starts : Walks p lent from m from
  walk_starts = record { left = refl }

  module _ (i : ℕ) (w : Walks p lent from m i) where
    pub walk_goes_on : (b : Bool) → i < m → b ≡ p (log_entry_at lent i) → b ≡ false → Walks p lent from m (i + 1)
    unfolding first_entry
    walk_goes_on b l e f =
        let h : p (log_entry_at lent i) ≡ false = sym e ∙ f in
        record { left = sym (ap (first_entry p) (next_entries lent m i l) ∙ rw h) ∙ w.left }

    pub walk_finds : (b : Bool) → i < m → b ≡ p (log_entry_at lent i) → b ≡ true → found_at lent m i ≡ first_entry p (entries_from lent from (m - from))
    unfolding first_entry
    walk_finds b l e t =
        let h : p (log_entry_at lent i) ≡ true = sym e ∙ t in
        rw (lt-ltb i m l) (sym (sym w.left ∙ ap (first_entry p) (next_entries lent m i l) ∙ rw h))

    pub walk_ends : m ≤ i → found_at lent m m ≡ first_entry p (entries_from lent from (m - from))
    unfolding first_entry
    walk_ends l = rw (le-ltb m m (omega arith)) (sym (sym w.left ∙ ap (first_entry p) (no_entries lent m i l)))

-- whether there is one
pub has_told : (p : Entry → Bool) (lent : List ℕ) (m r : ℕ) → found_at lent m r ≡ first_entry p (entries_from lent 0 (m - 0)) → ltb r m ≡ has_entry p (entries_from lent 0 m)
has_told p lent m r e = let z : m - 0 ≡ m = omega arith in go (ltb r m) (e ∙ rw z)
  where
    go : (b : Bool) → cond b (some (log_entry_at lent r)) none ≡ first_entry p (entries_from lent 0 m) → b ≡ has_entry p (entries_from lent 0 m)
    go true e = rw (← e)
    go false e = rw (← e)

-- ---- one walk for each number, for each slot
abbrev held : ℕ → ℕ → List Entry → ℕ → Bool
held slot number log j = eqb (j + 1) number || has_entry (is_part slot (j + 1)) log

module _ (lent : List ℕ) (m slot number : ℕ) where
  abbrev log : List Entry
  log = entries_from lent 0 m

  pub complete_starts : true ≡ all_in_log slot number (entries_from lent 0 m) 0
  complete_starts = all_from (held slot number log)

  pub complete_goes_on : (ok b : Bool) (k : ℕ) → ok ≡ all_in_log slot number (entries_from lent 0 m) k → b ≡ has_entry (is_part slot (k + 1)) (entries_from lent 0 m)
      → ok && (eqb (k + 1) number || b) ≡ all_in_log slot number (entries_from lent 0 m) (k + 1)
  complete_goes_on ok b k e f = all_more (held slot number log) k ok (eqb (k + 1) number || b) e (rw f)

  pub complete_ends : (ok : Bool) (k total : ℕ) → k ≤ total → total ≤ k → ok ≡ all_in_log slot number (entries_from lent 0 m) k
      → ok ≡ all_in_log slot number (entries_from lent 0 m) total
  complete_ends ok k total l h e = all_through (held slot number log) k total l h ok e

-- what is free from slot i on is what is free at all
pub record Frees (log : List Entry) (n i : ℕ) : Type 0 where
  pub left : free_from log i (n - i) ≡ free_from log 0 n

module _ (lent : List ℕ) (m n : ℕ) where
  pub free_starts : Frees (entries_from lent 0 m) n 0
  free_starts = let z : n - 0 ≡ n = omega arith in record { left = rw z }

  module _ (i : ℕ) (w : Frees (entries_from lent 0 m) n i) where
    next_slot : i < n → (b : Bool) → has_entry (of_slot i) (entries_from lent 0 m) ≡ b
        → cond b (free_from (entries_from lent 0 m) (i + 1) (n - (i + 1))) (some i) ≡ free_from (entries_from lent 0 m) 0 n
    unfolding free_from
    next_slot l b e =
        let z : n - i ≡ suc (n - (i + 1)) = omega arith in
        let s : suc i ≡ i + 1 = omega arith in
        let h = w.left in rw (z, e, s) at h

    pub free_goes_on : (b : Bool) → i < n → b ≡ has_entry (of_slot i) (entries_from lent 0 m) → not b ≡ false → Frees (entries_from lent 0 m) n (i + 1)
    free_goes_on true l e f = record { left = next_slot l true (sym e) }
    free_goes_on false l e f = absurd (clash true refl f)

    pub free_finds : (b : Bool) → i < n → b ≡ has_entry (of_slot i) (entries_from lent 0 m) → not b ≡ true → free_at n i ≡ free_from (entries_from lent 0 m) 0 n
    free_finds true l e t = absurd (clash false t refl)
    free_finds false l e t = rw (lt-ltb i n l) (next_slot l false (sym e))

    pub free_ends : n ≤ i → free_at n n ≡ free_from (entries_from lent 0 m) 0 n
    unfolding free_from
    free_ends l = let z : n - i ≡ 0 = omega arith in let h = w.left in rw (le-ltb n n (omega arith)) (rw z at h)

-- so many of the slots before i are dropped
pub record Drops (log : List Entry) (limit dropped i : ℕ) : Type 0 where
  pub counted : dropped ≡ count_below i (λ j. has_entry (dead limit j) log)
  pub few : dropped ≤ i

byte : (c : Bool) → bool_byte c ≡ cond c 1 0
byte true = refl
byte false = refl

small : (c : Bool) → bool_byte c ≤ 1
small true = omega arith
small false = omega arith

module _ (lent : List ℕ) (m limit : ℕ) where
  pub drops_start : Drops (entries_from lent 0 m) limit 0 0
  drops_start = record { counted = count_from (λ j. has_entry (dead limit j) (entries_from lent 0 m)); few = omega arith }

  module _ (dropped i : ℕ) (w : Drops (entries_from lent 0 m) limit dropped i) where
    pub drops_fit : (b : Bool) (more n : ℕ) → more ≡ bool_byte b → i < n → n < 256 → Fits w8 (dropped + more)
    drops_fit b more n e l h = omega (arith, w.few, small b, e)

    pub drops_go_on : (b : Bool) (more : ℕ) → more ≡ bool_byte b → b ≡ has_entry (dead limit i) (entries_from lent 0 m)
        → Drops (entries_from lent 0 m) limit (dropped + more) (i + 1)
    drops_go_on b more f e = record {
      counted = count_more (λ j. has_entry (dead limit j) (entries_from lent 0 m)) i dropped more w.counted (rw (← e) (f ∙ byte b));
      few = omega (arith, w.few, small b, f);
    }

    pub drops_end : (n : ℕ) → i ≤ n → n ≤ i → dropped ≡ log_dropped n limit (entries_from lent 0 m)
    drops_end n l h = count_through (λ j. has_entry (dead limit j) (entries_from lent 0 m)) i n l h dropped w.counted

pub ruleset walk_steps = (
  rules,
  due_told,
  agrees_told,
  contends_told,
  against_one,
  against_two,
  passes_key,
  passes_slot,
  passes_part,
  passes_rank,
  passes_against,
  passes_dead,
  part_told,
  dead_told,
  walk_starts,
  walk_goes_on,
  walk_finds,
  walk_ends,
  has_told,
  complete_starts,
  complete_goes_on,
  complete_ends,
  free_starts,
  free_goes_on,
  free_finds,
  free_ends,
  drops_start,
  drops_fit,
  drops_go_on,
  drops_end,
)
