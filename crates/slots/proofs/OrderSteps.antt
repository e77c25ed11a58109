-- What the proofs over the order of recency cite: one law for each return and turn of a loop, over plain variables.
use Prim.Native.Nat.{ℕ, suc, ◌+◌, ◌-◌, ◌≤◌, ◌<◌}
use mathlib.Core.Path.{◌≡◌, refl}
use mathlib.Core.Bool.{Bool, true, false, not, cond, ◌&&◌, ◌||◌}
use native.Mathlib.Omega.{arith}
use native.Mathlib.Numerals.{add-one, sub-one}
use lib.ListN.{set}
use lib.Dec.{eqb, ltb}
use mir.Syntax.{w8}
use mir.Val.{Fits}
use borrow.Author.Rules.{rules}
use borrow.Author.Tests.{ltb-true, lt-ltb, le-ltb}
use Rattle.octets.specs.Tests.{both}
use Rattle.types.specs.declared.Slot.{Slot}
use Rattle.types.specs.declared.Record.{Record}
use Rattle.slots.specs.Slots.{slot_at, aged, closed, with_slots, slots_in}
use Rattle.slots.specs.Found.{length_of_map}
use Rattle.slots.specs.Order.{rank_after, reranked, Changed, change_starts, change_goes_on, replaced}

-- ---- ranks
module _ (front : Bool) (r q : ℕ) where
  pub rank_up : (front && ltb q 255 && (not (eqb q 0) && (eqb r 0 || ltb q r))) ≡ true → q + 1 ≡ rank_after front r q
  unfolding aged
  rank_up e = go front e
    where
      go : (b : Bool) → (b && ltb q 255 && (not (eqb q 0) && (eqb r 0 || ltb q r))) ≡ true → q + 1 ≡ rank_after b r q
      go true h = let (l, m) = both (ltb q 255) (not (eqb q 0) && (eqb r 0 || ltb q r)) h in rw (l, m, add-one)
      go false h = let z : ◌≡◌ {A = ℕ} 0 1 = cc in absurd (omega arith)

  pub rank_low : (front && ltb q 255 && (not (eqb q 0) && (eqb r 0 || ltb q r))) ≡ true → Fits w8 (q + 1)
  rank_low e =
      omega (arith, ltb-true q 255 (both front (ltb q 255) (both (front && ltb q 255) (not (eqb q 0) && (eqb r 0 || ltb q r)) e).0).1)

  pub rank_down : (not front && ltb r q) ≡ true → q - 1 ≡ rank_after front r q
  unfolding closed
  rank_down e = go front e
    where
      go : (b : Bool) → (not b && ltb r q) ≡ true → q - 1 ≡ rank_after b r q
      go true h = let z : ◌≡◌ {A = ℕ} 0 1 = cc in absurd (omega arith)
      go false h = rw (h, sub-one)

  pub rank_some : (not front && ltb r q) ≡ true → 1 ≤ q
  rank_some e = omega (arith, ltb-true r q (both (not front) (ltb r q) e).1)

  pub rank_kept : (front && ltb q 255 && (not (eqb q 0) && (eqb r 0 || ltb q r))) ≡ false → (not front && ltb r q) ≡ false
      → q ≡ rank_after front r q
  unfolding aged closed
  rank_kept e f = go front e f
    where
      here : (b c : Bool) → (b && c) ≡ false → q ≡ cond b (cond c (suc q) q) q
      here true true h = let z : ◌≡◌ {A = ℕ} 0 1 = cc in absurd (omega arith)
      here true false h = refl
      here false c h = refl

      go : (b : Bool) → (b && ltb q 255 && (not (eqb q 0) && (eqb r 0 || ltb q r))) ≡ false → (not b && ltb r q) ≡ false → q ≡ rank_after b r q
      go true h k = here (ltb q 255) (not (eqb q 0) && (eqb r 0 || ltb q r)) h
      go false h k = rw k

-- ---- the end of the loop that changes the ranks
pub change_ends : (n i : ℕ) (front : Bool) (r s : Record) (j : ℕ) (x : Slot) → Changed (reranked (rank_after front (slot_at r.slots i).rank)) n r s j
    → n ≡ slots_in r → n ≤ j → i < n → with_slots s (set s.slots i x) ≡ replaced front r i x
change_ends n i front r s j x done is l inside =
    let end : j ≡ slots_in r = omega (arith, done.within) in
    rw (lt-ltb i (slots_in r) (omega arith), done.kind, done.number, done.slots, end)

pub none_changed : (n i : ℕ) (front : Bool) (r : Record) (x : Slot) → n ≡ slots_in r → n ≤ i → r ≡ replaced front r i x
none_changed n i front r x is l = rw (le-ltb i (slots_in r) (omega arith))

pub ruleset order_steps = (
  rules,
  length_of_map,
  rank_up,
  rank_low,
  rank_down,
  rank_some,
  rank_kept,
  change_starts,
  change_goes_on,
  change_ends,
  none_changed,
)
