-- What the proofs of taking search: one law for each return, over plain variables. Each puts the tests that led there into the rule.
use Rattle.std.specs.declared.result.Result as result
use Rattle.std.specs.declared.option.Option as option
use Rattle.std.specs.declared.result.Result.TheVariants.{Ok, Err}
use Rattle.std.specs.declared.option.Option.TheVariants.{Some, None}
use Prim.Native.Nat.{ℕ, ◌-◌, ◌≤◌, ◌<◌}
use mathlib.Core.Path.{◌≡◌, refl, ap, ◌∙◌}
use mathlib.Core.Bool.{Bool, true, false, cond}
use mathlib.Core.List.{List, [], ◌∷◌, ◌++◌}
use mathlib.Core.Option.{Option, none, some}
use native.Mathlib.Omega.{arith}
use lib.ListN.{length, drop}
use borrow.Author.Rules.{rules}
use borrow.Author.Tests.{eq-eqb, ne_eqb, lt-ltb, le-ltb}
use Rattle.octets.specs.Tests.{clash}
use Rattle.octets.specs.Octets.{same_octets}
use Rattle.types.specs.declared.Kind.{Kind}
use Rattle.types.specs.declared.Key.{Key}
use Rattle.types.specs.Refusals.{refusal_number}
use Rattle.types.specs.declared.Refusal.{Refusal}
use Rattle.types.specs.declared.Arrival.{Arrival}
use Rattle.types.specs.declared.Arrival.TheVariants as arrival
use Rattle.packet.specs.Packets.{most_octets}
use Rattle.arrival.specs.Arrivals.{told_arrival}
use Rattle.arrival.specs.Laws.{Admitted}
use Rattle.arrival.specs.Keys.{of_pages}
use Rattle.joined.specs.Fronts.{packet_in, told_size, length_in, output_with}
use Rattle.series.specs.Taking.{Answer, kept, held_already, packet, refused_by}
use Rattle.series.specs.Deciding.{answer_of, Fitting}
use Rattle.plain.specs.Entries.{Entry, log_entry_at, entries_from}
use Rattle.plain.specs.Log.{first_entry, has_key, of_rank, is_part, touch, close, without, Result, result_of, log_hand_out, free_from, displaces, in_series, log_take_part}
use Rattle.plain.specs.Engine.{alters_nothing, log_taken}
use Rattle.logs.specs.Places.{found_at, free_at, all_in_log}
use Rattle.copies.specs.Copying.{part_entry, SoundLog, CanChange, CanKeep, ChangesTo}
use Rattle.second.specs.Acting.{ReadyLog, Stays, only_reads, lacking, Opened, slot_or_first, whole_of}
use Rattle.logs.specs.Laws.{found_some, found_none}
use Rattle.second.proofs.ReadyLaws.{ready_steps}

-- ---- what stays
pub stays_same : (b : Bool) (old : List ℕ) → Stays b old old
stays_same b old = record { same = λ e. refl }

pub stays_not : (b : Bool) (old new : List ℕ) → b ≡ false → Stays b old new
stays_not b old new f = record { same = λ e. absurd (clash b e f) }

pub stays_kept : (slot : ℕ) (displaced : Bool) (old new : List ℕ) → Stays (alters_nothing (kept slot displaced)) old new
stays_kept slot displaced old new = record { same = λ e. absurd (clash false e refl) }

pub stays_held : (slot : ℕ) (old new : List ℕ) → Stays (alters_nothing (held_already slot)) old new
stays_held slot old new = record { same = λ e. absurd (clash false e refl) }

-- ---- a part that is held
module _ (lent : List ℕ) (i slot : ℕ) (part p : List ℕ) (b : Bool) (q : p ≡ (log_entry_at lent i).octets) (s : b ≡ same_octets p part) where
  told : b ≡ same_octets (log_entry_at lent i).octets part
  told = s ∙ ap (λ (x : List ℕ). same_octets x part) q

  pub again_answer : b ≡ true → held_already slot ≡ cond (same_octets (log_entry_at lent i).octets part) (held_already slot) (refused_by 8)
  again_answer e = rw (← told, e)

  pub again_refused : b ≡ false → refused_by 8 ≡ cond (same_octets (log_entry_at lent i).octets part) (held_already slot) (refused_by 8)
  again_refused e = rw (← told, e)

  module _ (rank m : ℕ) where
    pub again_touched : (l : List Entry) → b ≡ true → CanChange lent m → ChangesTo (CanChange lent m) l (touch slot rank (entries_from lent 0 m))
        → l ≡ cond (same_octets (log_entry_at lent i).octets part) (touch slot rank (entries_from lent 0 m)) (entries_from lent 0 m)
    again_touched l e c h = rw (← told, e) (h.is c)

    pub again_left : b ≡ false
        → entries_from lent 0 m ≡ cond (same_octets (log_entry_at lent i).octets part) (touch slot rank (entries_from lent 0 m)) (entries_from lent 0 m)
    again_left e = rw (← told, e)

-- ---- a series that is complete
pub handed_some : (z : option.Option ℕ) (n : ℕ) → z ≡ Some n → packet n ≡ answer_of (told_size z)
handed_some z n e = rw e

pub handed_none : (z : option.Option ℕ) → z ≡ None → refused_by 9 ≡ answer_of (told_size z)
handed_none z e = rw e

pub handed_drops : (a : Answer) (z : Option ℕ) → a ≡ answer_of z → alters_nothing a ≡ false
handed_drops a none e = rw e
handed_drops a (some n) e = rw e

pub handed_out : (a : Answer) (z : Option ℕ) (p : Option (List ℕ)) (l log : List Entry) (o output : List ℕ) → a ≡ answer_of z → z ≡ length_in p
    → o ≡ output_with p output → l ≡ log → result_of a l o ≡ log_hand_out log output p
handed_out a z none l log o output e f g h = rw (e, f, g, h)
handed_out a z (some x) l log o output e f g h = rw (e, f, g, h)

pub series_handed : (lent : List ℕ) (m : ℕ) (a : Answer) (z : Option ℕ) (p : Option (List ℕ)) (l log : List Entry) (o output : List ℕ) → a ≡ answer_of z → z ≡ length_in p
    → o ≡ output_with p output → CanChange lent m → ChangesTo (CanChange lent m) l log → result_of a l o ≡ log_hand_out log output p
series_handed lent m a z p l log o output e f g c h = handed_out a z p l log o output e f g (h.is c)

-- ---- a part of a series that is there
module _ (n : ℕ) (k : Kind) (lent : List ℕ) (m : ℕ) (output : List ℕ) (key : Key) (total number : ℕ) (part : List ℕ) (i t : ℕ) (tot : t ≡ (log_entry_at lent i).total) where
  pub more_total : (t ≡ total → ⊥)
      → result_of (refused_by 7) (entries_from lent 0 m) output ≡ in_series n k (entries_from lent 0 m) output key total number part (log_entry_at lent i)
  more_total ne = rw (← tot, ne_eqb t total ne)

  module _ (same : t ≡ total) (slot rank : ℕ) (s : slot ≡ (log_entry_at lent i).slot) (r : rank ≡ (log_entry_at lent i).rank) (j : ℕ)
      (found : found_at lent m j ≡ first_entry (is_part slot number) (entries_from lent 0 (m - 0))) where
    pub more_again : (a : Answer) (l : List Entry) → j < m → a ≡ cond (same_octets (log_entry_at lent j).octets part) (held_already slot) (refused_by 8)
        → l ≡ cond (same_octets (log_entry_at lent j).octets part) (touch slot rank (entries_from lent 0 m)) (entries_from lent 0 m)
        → result_of a l output ≡ in_series n k (entries_from lent 0 m) output key total number part (log_entry_at lent i)
    more_again a l h e f =
        rw (← tot, eq-eqb t total same, ← s, ← r, found_some (is_part slot number) lent m j found h, e, f) (go (same_octets (log_entry_at lent j).octets part))
      where
        go : (b : Bool) → result_of (cond b (held_already slot) (refused_by 8)) (cond b (touch slot rank (entries_from lent 0 m)) (entries_from lent 0 m)) output
            ≡ cond b (result_of (held_already slot) (touch slot rank (entries_from lent 0 m)) output) (result_of (refused_by 8) (entries_from lent 0 m) output)
        go true = refl
        go false = refl

    pub more_missing : (x : Result) → m ≤ j → x ≡ lacking k (entries_from lent 0 m) output slot rank key total number part
        → x ≡ in_series n k (entries_from lent 0 m) output key total number part (log_entry_at lent i)
    more_missing x h f = rw (← tot, eq-eqb t total same, ← s, ← r, found_none (is_part slot number) lent m j found h) f

-- a part that it lacks
module _ (k : Kind) (lent : List ℕ) (m : ℕ) (output : List ℕ) (slot rank : ℕ) (key : Key) (total number : ℕ) (part : List ℕ) (b : Bool)
    (c : b ≡ all_in_log slot number (entries_from lent 0 m) total) where
  pub missing_last : (x : Result) → b ≡ true
      → x ≡ log_hand_out (close rank (without slot (entries_from lent 0 m))) output (packet_in k (of_pages key) total (whole_of (entries_from lent 0 m) slot total number part))
      → x ≡ lacking k (entries_from lent 0 m) output slot rank key total number part
  missing_last x e f = rw (← c, e) f

  pub missing_kept : (l : List Entry) → b ≡ false → CanKeep lent m part
      → ChangesTo (CanKeep lent m part) l (touch slot rank (entries_from lent 0 m) ++ part_entry slot key total number part ∷ [])
      → result_of (kept slot false) l output ≡ lacking k (entries_from lent 0 m) output slot rank key total number part
  missing_kept l e can f = rw (← c, e, f.is can)

-- ---- a new series
pub slot_found : (lent : List ℕ) (m i s : ℕ) → i < m → s ≡ (log_entry_at lent i).slot → s ≡ slot_or_first (found_at lent m i)
slot_found lent m i s l e = rw (lt-ltb i m l) e

pub slot_none : (lent : List ℕ) (m i : ℕ) → m ≤ i → 0 ≡ slot_or_first (found_at lent m i)
slot_none lent m i l = rw (le-ltb i m l)

module _ (n : ℕ) (lent : List ℕ) (m : ℕ) (key : Key) (total number : ℕ) (part : List ℕ) (f : ℕ) (free : free_at n f ≡ free_from (entries_from lent 0 m) 0 n) (l : List Entry)
    (can : CanKeep lent m part) where
  pub new_free : f < n → ChangesTo (CanKeep lent m part) l (touch f 0 (without f (entries_from lent 0 m)) ++ part_entry f key total number part ∷ [])
      → Opened n (entries_from lent 0 m) key total number part (kept f false) l
  new_free h e = record { is = λ k output. rw (← free, lt-ltb f n h, e.is can) }

  pub new_displaces : (j slot : ℕ) → n ≤ f → found_at lent m j ≡ first_entry (of_rank n) (entries_from lent 0 (m - 0)) → slot ≡ slot_or_first (found_at lent m j)
      → ChangesTo (CanKeep lent m part) l (touch slot n (without slot (entries_from lent 0 m)) ++ part_entry slot key total number part ∷ [])
      → Opened n (entries_from lent 0 m) key total number part (kept slot true) l
  new_displaces j slot h found s e = record { is = λ k output. rw (← free, le-ltb f n h, e.is can) (go k output (first_entry (of_rank n) (entries_from lent 0 m)) is) }
    where
      is : slot ≡ slot_or_first (first_entry (of_rank n) (entries_from lent 0 m))
      is =
          let z : m - 0 ≡ m = omega arith in
          let q : first_entry (of_rank n) (entries_from lent 0 (m - 0)) ≡ first_entry (of_rank n) (entries_from lent 0 m) = rw z in
          s ∙ ap slot_or_first (found ∙ q)

      go : (k : Kind) (output : List ℕ) (o : Option Entry) → slot ≡ slot_or_first o
          → result_of (kept slot true) (touch slot n (without slot (entries_from lent 0 m)) ++ part_entry slot key total number part ∷ []) output
          ≡ displaces n k (entries_from lent 0 m) output key total number part o
      go k output none q = rw q
      go k output (some x) q = rw q

-- ---- a part
module _ (n : ℕ) (k : Kind) (lent : List ℕ) (m : ℕ) (output : List ℕ) (key : Key) (total number : ℕ) (part : List ℕ) (i : ℕ)
    (found : found_at lent m i ≡ first_entry (has_key key) (entries_from lent 0 (m - 0))) (a : Answer) (l : List Entry) where
  pub part_more : (o : List ℕ) → i < m → result_of a l o ≡ in_series n k (entries_from lent 0 m) output key total number part (log_entry_at lent i)
      → result_of a l o ≡ log_take_part n k (entries_from lent 0 m) output key total number part
  unfolding log_take_part
  part_more o h e = rw (found_some (has_key key) lent m i found h) e

  pub part_new : m ≤ i → Opened n (entries_from lent 0 m) key total number part a l
      → result_of a l output ≡ log_take_part n k (entries_from lent 0 m) output key total number part
  unfolding log_take_part
  part_new h e = rw (found_none (has_key key) lent m i found h) (e.is k output)

-- ---- an arrival
module _ (n : ℕ) (k : Kind) (lent : List ℕ) (m : ℕ) (output : List ℕ) (paged : Bool) (o : List ℕ) (z : result.Result Arrival Refusal) where
  pub brought_refused : (q : Refusal) → z ≡ Err q
      → result_of (refused_by (refusal_number q)) (entries_from lent 0 m) output ≡ log_taken n k (entries_from lent 0 m) output paged o (told_arrival z)
  brought_refused q e = rw e

  pub brought_single : (a : Answer) (s : Option ℕ) (start : ℕ) (own out : List ℕ) (q : Arrival) → z ≡ Ok q → q ≡ arrival.Single start → own ≡ drop start o → a ≡ answer_of s
      → s ≡ length_in (packet_in k paged 1 own) → out ≡ output_with (packet_in k paged 1 own) output
      → result_of a (entries_from lent 0 m) out ≡ log_taken n k (entries_from lent 0 m) output paged o (told_arrival z)
  brought_single a s start own out q e d is f g h =
      rw (e, d, ← is) (handed_out a s (packet_in k paged 1 own) (entries_from lent 0 m) (entries_from lent 0 m) out output f g h refl)

  pub brought_part : (x : Result) (key : Key) (total number start : ℕ) (own : List ℕ) (q : Arrival) → z ≡ Ok q → q ≡ arrival.Part key total number start → own ≡ drop start o
      → x ≡ log_take_part n k (entries_from lent 0 m) output key total number own → x ≡ log_taken n k (entries_from lent 0 m) output paged o (told_arrival z)
  brought_part x key total number start own q e d is h = rw (e, d, ← is) h

  module _ (fits : Fitting k o z) (wide : length output ≡ most_octets) where
    pub single_fits : (start : ℕ) (own : List ℕ) (q : Arrival) → z ≡ Ok q → q ≡ arrival.Single start → own ≡ drop start o → length own ≤ length output
    single_fits start own q e d is = let h : length (drop start o) ≤ most_octets = rw (e, d) at fits in omega (arith, ap length is)

    pub part_ready : (key : Key) (total number start : ℕ) (own : List ℕ) (q : Arrival) → z ≡ Ok q → q ≡ arrival.Part key total number start → own ≡ drop start o → SoundLog n k lent m
        → ReadyLog n k lent m key total number own output
    part_ready key total number start own q e d is s =
        record { sound = s; admitted = let h : Admitted k key total number (drop start o) = rw (e, d) at fits in rw is h; wide = wide }

pub part_stays : (z : result.Result Arrival Refusal) (key : Key) (total number start : ℕ) (a : Answer) (old new : List ℕ) (q : Arrival) → z ≡ Ok q → q ≡ arrival.Part key total number start
    → Stays (alters_nothing a) old new → Stays (only_reads (told_arrival z) a) old new
part_stays z key total number start a old new q e d s = rw (e, d) s

-- what the proofs of a part that is held, of a complete series, of a series that is there, of a new one and of a part search
pub ruleset again_steps = (
  rules,
  stays_same,
  stays_held,
  again_answer,
  again_refused,
  again_touched,
  again_left,
)

pub ruleset finish_steps = (
  rules,
  ready_steps,
  handed_some,
  handed_none,
  handed_drops,
  series_handed,
)

pub ruleset more_steps = (
  rules,
  ready_steps,
  stays_same,
  stays_not,
  stays_kept,
  more_total,
  more_again,
  more_missing,
  missing_last,
  missing_kept,
)

pub ruleset new_steps = (
  rules,
  slot_found,
  slot_none,
  new_free,
  new_displaces,
)

pub ruleset part_steps = (
  rules,
  ready_steps,
  stays_not,
  part_more,
  part_new,
)

pub ruleset brought_steps = (
  rules,
  stays_same,
  part_stays,
  brought_refused,
  brought_single,
  brought_part,
  single_fits,
  part_ready,
)
