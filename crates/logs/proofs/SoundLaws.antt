-- What the proofs of the test of a log search: one law for each return and each turn of its loop, over plain variables.
use Prim.Native.Nat.{ℕ, ◌+◌, ◌-◌, ◌≤◌, ◌<◌}
use mathlib.Core.Path.{◌≡◌, refl, sym, ap, ◌∙◌}
use mathlib.Core.Bool.{Bool, true, false, not, cond, ◌&&◌, ◌||◌, and-false}
use mathlib.Core.List.{List}
use mathlib.Core.Option.{none, some}
use native.Mathlib.Omega.{arith}
use lib.ListN.{length}
use lib.Dec.{eqb, ltb, leb}
use borrow.Author.Rules.{rules}
use borrow.Author.Tests.{eq-eqb, ne_eqb, le-leb, lt-leb}
use Rattle.octets.specs.Tests.{clash}
use Rattle.types.specs.declared.Kind.{Kind}
use Rattle.types.specs.declared.Key.{Key}
use Rattle.arrival.specs.Page.{identifier_in_range, no_pages, page_content}
use Rattle.arrival.specs.Keys.{reference_fits, key_formed, total_fits, room, length_fits}
use Rattle.slots.specs.Below.{all_below}
use Rattle.slots.specs.BelowLaws.{all_same}
use Rattle.slots.specs.Slots.{is_slot_number}
use Rattle.types.specs.declared.Log.{Log}
use Rattle.plain.specs.Entries.{Entry, most_entries, log_octets, log_entry_at, entries_from, state_in}
use Rattle.plain.specs.Log.{first_entry, has_entry, is_part, of_rank}
use Rattle.plain.specs.Engine.{entry_fits, against, rank_fits, entry_formed, all_of, none_twice, log_formed, state_formed}
use Rattle.logs.specs.Places.{found_at, all_in_log, series_fits, part_fits}
use Rattle.logs.specs.Laws.{entries_long}
use Rattle.logs.proofs.WalkLaws.{next_entries, no_entries}

-- ---- one entry
module _ (k : Kind) (x : Key) where
  pub key_page : (a b : Bool) → x.width ≡ 0 → a ≡ no_pages k → b ≡ identifier_in_range x.identifier.0
      → not a && eqb x.sender 0 && eqb x.reference 0 && b ≡ key_formed k x
  unfolding key_formed
  key_page a b z p q = rw (eq-eqb x.width 0 z, p, q)

  pub key_message : (a : Bool) → (x.width ≡ 0 → ⊥) → a ≡ reference_fits x.width x.reference
      → a && eqb x.serial.0 0 && eqb x.identifier.0 0 ≡ key_formed k x
  unfolding key_formed
  key_message a z p = rw (ne_eqb x.width 0 z, p)

module _ (x : Key) (number size n : ℕ) (is : n ≡ size) where
  pub length_page : x.width ≡ 0 → eqb n page_content ≡ length_fits x number size
  unfolding length_fits
  length_page z = rw (eq-eqb x.width 0 z, is)

  pub length_message : (most : ℕ) → (x.width ≡ 0 → ⊥) → most ≡ room x.width number → leb n most ≡ length_fits x number size
  unfolding length_fits
  length_message most z e = rw (ne_eqb x.width 0 z, is, e)

pub total_page : (x : Key) (total : ℕ) → x.width ≡ 0 → leb 2 total && leb total 15 ≡ total_fits x total
total_page x total z = rw (eq-eqb x.width 0 z)

pub total_message : (x : Key) (total : ℕ) → (x.width ≡ 0 → ⊥) → leb 2 total && leb total 16 ≡ total_fits x total
total_message x total z = rw (ne_eqb x.width 0 z)

module _ (lent : List ℕ) (i : ℕ) (key : Key) (total : ℕ) (t : key ≡ (log_entry_at lent i).key) (v : total ≡ (log_entry_at lent i).total) where
  pub series_told : (n : ℕ) (k : Kind) (slot rank beats : ℕ) (a b : Bool) → slot ≡ (log_entry_at lent i).slot → rank ≡ (log_entry_at lent i).rank → beats ≡ (log_entry_at lent i).beats
      → a ≡ key_formed k key → b ≡ total_fits key total
      → ltb slot n && ltb 0 rank && leb rank n && leb beats 254 && a && b ≡ series_fits n k (log_entry_at lent i)
  series_told n k slot rank beats a b p q r x y = rw (x, y, p, q, r, t, v)

  pub part_told : (number size : ℕ) (c : Bool) → number ≡ (log_entry_at lent i).number → size ≡ (log_entry_at lent i).size → c ≡ length_fits key number size
      → ltb 0 number && leb number total && c ≡ part_fits (log_entry_at lent i)
  part_told number size c p q x = rw (x, p, q, t, v)

-- both at once are what it says by itself
both_fit : (n : ℕ) (k : Kind) (e : Entry) → series_fits n k e && part_fits e ≡ entry_fits n k e
both_fit n k e = go (series_fits n k e) (ltb 0 e.number) (leb e.number e.total) (length_fits e.key e.number e.size)
  where
    go : (a b c d : Bool) → a && (b && c && d) ≡ a && b && c && d
    go true true true d = refl
    go true true false d = refl
    go true false c d = refl
    go false b c d = refl

pub before_first : (r : ℕ) → r ≡ 0 → 0 ≡ r - 1
before_first r e = omega arith

pub rank_told : (lent : List ℕ) (m i rank b : ℕ) (led : Bool) → rank ≡ (log_entry_at lent i).rank → b ≡ rank - 1 → led ≡ has_entry (of_rank b) (entries_from lent 0 m)
    → eqb rank 1 || led ≡ rank_fits (entries_from lent 0 m) (log_entry_at lent i)
rank_told lent m i rank b led p q r = rw (r, q, p)

-- no part has the number 0
no_number : (i : ℕ) (log : List Entry) (total : ℕ) → all_in_log i 0 log total ≡ all_below total (λ j. has_entry (is_part i (j + 1)) log)
no_number i log total =
    all_same total (λ j. eqb (j + 1) 0 || has_entry (is_part i (j + 1)) log) (λ j. has_entry (is_part i (j + 1)) log) (λ j l. rw (ne_eqb (j + 1) 0 (λ z. omega arith)))

pub entry_told : (n : ℕ) (k : Kind) (lent : List ℕ) (m i slot total : ℕ) (f g b c d : Bool) → f ≡ series_fits n k (log_entry_at lent i) → g ≡ part_fits (log_entry_at lent i)
    → b ≡ has_entry (against (log_entry_at lent i)) (entries_from lent 0 m) → c ≡ rank_fits (entries_from lent 0 m) (log_entry_at lent i)
    → slot ≡ (log_entry_at lent i).slot → total ≡ (log_entry_at lent i).total → d ≡ all_in_log slot 0 (entries_from lent 0 m) total
    → (f && g) && not b && c && not d ≡ entry_formed n k (entries_from lent 0 m) (log_entry_at lent i)
entry_told n k lent m i slot total f g b c d o p q r s t u =
    let w : d ≡ all_below (log_entry_at lent i).total (λ j. has_entry (is_part (log_entry_at lent i).slot (j + 1)) (entries_from lent 0 m)) =
    u ∙ no_number slot (entries_from lent 0 m) total ∙ rw (s, t) in
    let z : f && g ≡ entry_fits n k (log_entry_at lent i) = rw (o, p) (both_fit n k (log_entry_at lent i)) in
    rw (w, z, q, r)

pub twice_told : (lent : List ℕ) (m i r slot number : ℕ) → slot ≡ (log_entry_at lent i).slot → number ≡ (log_entry_at lent i).number
    → found_at lent m r ≡ first_entry (is_part slot number) (entries_from lent (i + 1) (m - (i + 1)))
    → ltb r m ≡ has_entry (is_part (log_entry_at lent i).slot (log_entry_at lent i).number) (entries_from lent (i + 1) (m - (i + 1)))
twice_told lent m i r slot number p q e = rw (← p, ← q) (go (ltb r m) e)
  where
    go : (b : Bool) → cond b (some (log_entry_at lent r)) none ≡ first_entry (is_part slot number) (entries_from lent (i + 1) (m - (i + 1)))
        → b ≡ has_entry (is_part slot number) (entries_from lent (i + 1) (m - (i + 1)))
    go true e = rw (← e)
    go false e = rw (← e)

-- ---- the log
module _ (n : ℕ) (k : Kind) (lent : List ℕ) (m : ℕ) where
  abbrev good : List Entry → Bool
  good l = all_of (entry_formed n k (entries_from lent 0 m)) l && none_twice l

  -- the entries from i on say what all of them say
  pub record Tests (i : ℕ) : Type 0 where
    pub left : all_of (entry_formed n k (entries_from lent 0 m)) (entries_from lent i (m - i)) && none_twice (entries_from lent i (m - i))
        ≡ all_of (entry_formed n k (entries_from lent 0 m)) (entries_from lent 0 m) && none_twice (entries_from lent 0 m)

  pub test_starts : Tests 0
  test_starts = let z : m - 0 ≡ m = omega arith in record { left = rw z }

  module _ (i : ℕ) (w : Tests i) (slots : Bool) (number : slots ≡ is_slot_number n) (right : not slots ≡ false) where
    swap : (a b c d : Bool) → (a && b) && (not c && d) ≡ cond (not a || c) false (b && d)
    swap true b true d = and-false b
    swap true b false d = refl
    swap false b c d = refl

    turn : i < m → (a b : Bool) → a ≡ entry_formed n k (entries_from lent 0 m) (log_entry_at lent i)
        → b ≡ has_entry (is_part (log_entry_at lent i).slot (log_entry_at lent i).number) (entries_from lent (i + 1) (m - (i + 1)))
        → cond (not a || b) false (good (entries_from lent (i + 1) (m - (i + 1)))) ≡ good (entries_from lent 0 m)
    unfolding all_of none_twice
    turn l a b p q =
        sym (swap a (all_of (entry_formed n k (entries_from lent 0 m)) (entries_from lent (i + 1) (m - (i + 1)))) b (none_twice (entries_from lent (i + 1) (m - (i + 1)))))
        ∙ rw (p, q) (ap good (sym (next_entries lent m i l)) ∙ w.left)

    pub test_goes_on : i < m → (a b : Bool) → a ≡ entry_formed n k (entries_from lent 0 m) (log_entry_at lent i)
        → b ≡ has_entry (is_part (log_entry_at lent i).slot (log_entry_at lent i).number) (entries_from lent (i + 1) (m - (i + 1))) → not a || b ≡ false → Tests (i + 1)
    test_goes_on l a b p q f = record { left = let h = turn l a b p q in rw f at h }

    whole : good (entries_from lent 0 m) ≡ log_formed n k (entries_from lent 0 m)
    unfolding log_formed
    whole = rw (← number) (go slots right)
      where
        go : (s : Bool) → not s ≡ false → good (entries_from lent 0 m) ≡ s && all_of (entry_formed n k (entries_from lent 0 m)) (entries_from lent 0 m) && none_twice (entries_from lent 0 m)
        go true e = refl
        go false e = absurd (clash true refl e)

    pub test_fails : i < m → (a b : Bool) → a ≡ entry_formed n k (entries_from lent 0 m) (log_entry_at lent i)
        → b ≡ has_entry (is_part (log_entry_at lent i).slot (log_entry_at lent i).number) (entries_from lent (i + 1) (m - (i + 1))) → not a || b ≡ true
        → false ≡ log_formed n k (entries_from lent 0 m)
    test_fails l a b p q f = let h = turn l a b p q in rw f at h ∙ whole

    pub test_ends : m ≤ i → true ≡ log_formed n k (entries_from lent 0 m)
    unfolding all_of none_twice
    test_ends l = ap good (sym (no_entries lent m i l)) ∙ w.left ∙ whole

  pub test_slots : (slots : Bool) → slots ≡ is_slot_number n → not slots ≡ true → false ≡ log_formed n k (entries_from lent 0 m)
  unfolding log_formed
  test_slots true e f = absurd (clash false f refl)
  test_slots false e f = rw (← e)

module _ (l : Log) (lent : List ℕ) where
  pub state_short : (length lent ≡ log_octets → ⊥) → false ≡ state_formed (state_in l lent)
  unfolding state_formed
  state_short ne = rw (ne_eqb (length lent) log_octets ne)

  pub state_many : length lent ≡ log_octets → most_entries < l.count → false ≡ state_formed (state_in l lent)
  unfolding state_formed
  state_many e h = rw (eq-eqb (length lent) log_octets e, entries_long lent l.count 0, lt-leb l.count most_entries h)

  pub state_told : (b : Bool) → length lent ≡ log_octets → l.count ≤ most_entries → b ≡ log_formed l.slots l.kind (entries_from lent 0 l.count) → b ≡ state_formed (state_in l lent)
  unfolding state_formed
  state_told b e h f = rw (eq-eqb (length lent) log_octets e, entries_long lent l.count 0, le-leb l.count most_entries h) f

pub ruleset sound_steps = (
  rules,
  key_page,
  key_message,
  length_page,
  length_message,
  total_page,
  total_message,
  series_told,
  part_told,
  before_first,
  rank_told,
  entry_told,
  twice_told,
  test_starts,
  test_goes_on,
  test_fails,
  test_ends,
  test_slots,
  state_short,
  state_many,
  state_told,
)
