-- What the proofs of `entries` search: one law for each return, over plain variables.
use Prim.Native.Nat.{ℕ, zero, suc, ◌+◌, ◌*◌, ◌≤◌, ◌<◌}
use mathlib.Core.Path.{◌≡◌, refl, sym, ap, ◌∙◌}
use mathlib.Core.List.{List, [], ◌∷◌}
use native.Mathlib.Omega.{arith}
use lib.ListN.{length, get_or, take, drop}
use lib.Seq.{get_or-take, get_or-drop, drop-drop, take-nil}
use borrow.Author.Rules.{rules}
use Rattle.octets.specs.Octets.{number_of}
use Rattle.types.specs.declared.Key.{Key}
use Rattle.plain.specs.Entries.{entry_octets, entry_head, log_entry_at}
use Rattle.logs.specs.Places.{entry_octet}

-- ---- reading
past_end : (l : List ℕ) (k : ℕ) → length l ≤ k → get_or l k 0 ≡ 0
past_end [] k h = refl
past_end (x ∷ l) zero h = absurd (omega arith)
past_end (x ∷ l) (suc k) h = past_end l k (omega arith)

module _ (lent : List ℕ) (i k : ℕ) (inside : k < entry_octets) where
  octet_is : entry_octet lent i k ≡ get_or lent (i * entry_octets + k) 0
  octet_is = get_or-take entry_octets (drop (i * entry_octets) lent) k 0 inside ∙ get_or-drop (i * entry_octets) lent k 0

  pub octet_read : get_or lent (i * entry_octets + k) 0 ≡ entry_octet lent i k
  octet_read = sym octet_is

  pub octet_none : length lent ≤ i * entry_octets + k → 0 ≡ entry_octet lent i k
  octet_none l = sym (octet_is ∙ past_end lent (i * entry_octets + k) l)

module _ (lent : List ℕ) (i r : ℕ) where
  pub slot_read : r ≡ entry_octet lent i 0 → r ≡ (log_entry_at lent i).slot
  unfolding log_entry_at
  slot_read e = e

  pub rank_read : r ≡ entry_octet lent i 1 → r ≡ (log_entry_at lent i).rank
  unfolding log_entry_at
  rank_read e = e

  pub beats_read : r ≡ entry_octet lent i 2 → r ≡ (log_entry_at lent i).beats
  unfolding log_entry_at
  beats_read e = e

  pub total_read : r ≡ entry_octet lent i 14 → r ≡ (log_entry_at lent i).total
  unfolding log_entry_at
  total_read e = e

  pub number_read : r ≡ entry_octet lent i 15 → r ≡ (log_entry_at lent i).number
  unfolding log_entry_at
  number_read e = e

  pub size_read : r ≡ entry_octet lent i 16 → r ≡ (log_entry_at lent i).size
  unfolding log_entry_at
  size_read e = e

-- two octets, the sender's four, and the key
pub pair_read : (lent : List ℕ) (i k a b n : ℕ) → a ≡ entry_octet lent i k → b ≡ entry_octet lent i (k + 1) → n ≡ number_of a b
    → n ≡ number_of (entry_octet lent i k) (entry_octet lent i (k + 1))
pair_read lent i k a b n p q e = rw (← p, ← q) e

pub key_read : (lent : List ℕ) (i a b c d e s w : ℕ) → a ≡ number_of (entry_octet lent i 3) (entry_octet lent i 4) → b ≡ number_of (entry_octet lent i 5) (entry_octet lent i 6)
    → s ≡ a * 65536 + b → w ≡ entry_octet lent i 7 → c ≡ number_of (entry_octet lent i 8) (entry_octet lent i 9) → d ≡ number_of (entry_octet lent i 10) (entry_octet lent i 11)
    → e ≡ number_of (entry_octet lent i 12) (entry_octet lent i 13)
    → ◌≡◌ {A = Key} (record { sender = s; width = w; reference = c; serial = record { 0 = d }; identifier = record { 0 = e } }) (log_entry_at lent i).key
unfolding log_entry_at
key_read lent i a b c d e s w p q r t u v x = rw (r, p, q, t, u, v, x)

-- the part's octets begin behind the head, and 134 places are theirs
body : {A : Type 0} (l : List A) (n m : ℕ) → drop n (take (n + m) l) ≡ take m (drop n l)
body l zero m = let z : 0 + m ≡ m = omega arith in rw z
body [] (suc n) m = rw (take-nil (suc n + m), take-nil m)
body (x ∷ l) (suc n) m = let z : suc n + m ≡ suc (n + m) = omega arith in rw z (body l n m)

pub part_read : (lent : List ℕ) (i : ℕ) (a b c : List ℕ) (n w : ℕ) → a ≡ drop (i * entry_octets + entry_head) lent → b ≡ take 134 a
    → n ≡ (log_entry_at lent i).size → w ≡ n → c ≡ take w b → c ≡ (log_entry_at lent i).octets
unfolding log_entry_at
part_read lent i a b c n w p q e f r =
    r ∙ rw (f, e, q, p, ← drop-drop entry_head (i * entry_octets) lent) (ap (take (entry_octet lent i 16)) (sym (body (drop (i * entry_octets) lent) entry_head 134)))

pub ruleset entry_steps = (
  rules,
  octet_read,
  octet_none,
  slot_read,
  rank_read,
  beats_read,
  total_read,
  number_read,
  size_read,
  pair_read,
  key_read,
  part_read,
)
