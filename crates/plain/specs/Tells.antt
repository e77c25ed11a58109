-- What the test of logs tells of a log that passes, clause by clause; and that such a log has at most 75 entries.
use Rattle.std.specs.Prelude.{ℕ, ◌+◌, ◌≤◌, ◌<◌, ◌≡◌, Bool, true, false, not, ◌&&◌, ◌||◌, List, [], ◌∷◌, eqb, ltb, leb}
use Rattle.std.proofs.Common.{sym, ap, ◌∙◌, arith, eqb-true, eq-eqb, ne_eqb, ltb-true, ltb-false, lt-ltb, leb-true}
use Rattle.std.proofs.Math.ListN as lists
use Rattle.std.proofs.lemmas.Bool.{eqb-false, not-true, not-false}
use Rattle.octets.specs.Tests.{clash, both, neither, by_test}
use Rattle.types.specs.declared.Kind.{Kind}
use Rattle.arrival.specs.Message.{most_parts}
use Rattle.arrival.specs.Keys.{key_formed, total_fits, length_fits}
use Rattle.slots.specs.Below.{all_below, count_below}
use Rattle.slots.specs.BelowLaws.{all_fails, count_less, count_below_lem}
use Rattle.slots.specs.FrontLaws.{same_key_lem, key_same}
use Rattle.slots.specs.Slots.{most_slots, is_slot_number, same_key}
use Rattle.formed.specs.Formed.{most_beats}
use Rattle.formed.specs.Laws.{number_tells}
use Rattle.series.specs.PartLaws.{total_bounds}
use Rattle.plain.specs.Entries.{Entry, LogState, log_octets, most_entries}
use Rattle.plain.specs.Log.{has_entry, is_part, of_slot}
use Rattle.plain.specs.Engine.{entry_fits, agrees, contends, against, rank_fits, lacks_one, entry_formed, all_of, none_twice, log_formed, state_formed}
use Rattle.plain.specs.Same.{All, nil, cons, Once, once_none, once_more}
use Rattle.plain.specs.Walks.{is_part_lem, has_tells, none_all, all_and, all_weaker}
use Rattle.plain.specs.FormedLaws.{count_slot, none_of, by_slots, by_numbers}

-- ---- one entry
pub record Ok (n : ℕ) (k : Kind) (log : List Entry) (e : Entry) : Type 0 where
  pub inside : e.slot < n
  pub used : 0 < e.rank
  pub top : e.rank ≤ n
  pub beats : e.beats ≤ most_beats
  pub key : key_formed k e.key ≡ true
  pub total : total_fits e.key e.total ≡ true
  pub low : 1 ≤ e.number
  pub high : e.number ≤ e.total
  pub length : length_fits e.key e.number e.size ≡ true
  pub alone : has_entry (against e) log ≡ false
  pub gap : rank_fits log e ≡ true
  pub lacks : all_below e.total (λ j. has_entry (is_part e.slot (j + 1)) log) ≡ false

pub ok_of : (n : ℕ) (k : Kind) (log : List Entry) (e : Entry) → entry_formed n k log e ≡ true → Ok n k log e
ok_of n k log e t =
    let (t₁, lacks) = both (entry_fits n k e && not (has_entry (against e) log) && rank_fits log e) (lacks_one log e) t in
    let (t₂, gap) = both (entry_fits n k e && not (has_entry (against e) log)) (rank_fits log e) t₁ in
    let (fits, alone) = both (entry_fits n k e) (not (has_entry (against e) log)) t₂ in
    let (f₁, a₉) = both (ltb e.slot n && ltb 0 e.rank && leb e.rank n && leb e.beats most_beats && key_formed k e.key && total_fits e.key e.total && ltb 0 e.number && leb e.number e.total) (length_fits e.key e.number e.size) fits in
    let (f₂, a₈) = both (ltb e.slot n && ltb 0 e.rank && leb e.rank n && leb e.beats most_beats && key_formed k e.key && total_fits e.key e.total && ltb 0 e.number) (leb e.number e.total) f₁ in
    let (f₃, a₇) = both (ltb e.slot n && ltb 0 e.rank && leb e.rank n && leb e.beats most_beats && key_formed k e.key && total_fits e.key e.total) (ltb 0 e.number) f₂ in
    let (f₄, a₆) = both (ltb e.slot n && ltb 0 e.rank && leb e.rank n && leb e.beats most_beats && key_formed k e.key) (total_fits e.key e.total) f₃ in
    let (f₅, a₅) = both (ltb e.slot n && ltb 0 e.rank && leb e.rank n && leb e.beats most_beats) (key_formed k e.key) f₄ in
    let (f₆, a₄) = both (ltb e.slot n && ltb 0 e.rank && leb e.rank n) (leb e.beats most_beats) f₅ in
    let (f₇, a₃) = both (ltb e.slot n && ltb 0 e.rank) (leb e.rank n) f₆ in
    let (a₁, a₂) = both (ltb e.slot n) (ltb 0 e.rank) f₇ in
    record {
      inside = ltb-true e.slot n a₁;
      used = ltb-true 0 e.rank a₂;
      top = leb-true e.rank n a₃;
      beats = leb-true e.beats most_beats a₄;
      key = a₅;
      total = a₆;
      low = ltb-true 0 e.number a₇;
      high = leb-true e.number e.total a₈;
      length = a₉;
      alone = not-true (has_entry (against e) log) alone;
      gap = gap;
      lacks = not-true (all_below e.total (λ j. has_entry (is_part e.slot (j + 1)) log)) lacks;
    }

-- ---- the whole log
all_told : (p : Entry → Bool) (log : List Entry) → all_of p log ≡ true → All (λ e. p e ≡ true) log
unfolding all_of
all_told p [] h = nil
all_told p (e ∷ log) h = let (a, b) = both (p e) (all_of p log) h in cons a (all_told p log b)

once_told : (log : List Entry) → none_twice log ≡ true → Once log
unfolding none_twice
once_told [] h = once_none
once_told (e ∷ log) h =
    let (a, b) = both (not (has_entry (is_part e.slot e.number) log)) (none_twice log) h in once_more (not-true (has_entry (is_part e.slot e.number) log) a) (once_told log b)

pub log_formed_tells : (n : ℕ) (k : Kind) (log : List Entry) → log_formed n k log ≡ true → All (Ok n k log) log × Once log
unfolding log_formed
log_formed_tells n k log h =
    let (a, b) = both (is_slot_number n && all_of (entry_formed n k log) log) (none_twice log) h in
    let (c, d) = both (is_slot_number n) (all_of (entry_formed n k log) log) a in
    (all_weaker (λ e. entry_formed n k log e ≡ true) (Ok n k log) log (all_told (entry_formed n k log) log d) (ok_of n k log), once_told log b)

-- ---- two entries
pub record EntriesAgree (e x : Entry) : Type 0 where
  pub rank : x.rank ≡ e.rank
  pub beats : x.beats ≡ e.beats
  pub key : x.key ≡ e.key
  pub total : x.total ≡ e.total

pub agreeing : (e x : Entry) → against e x ≡ false → x.slot ≡ e.slot → EntriesAgree e x
agreeing e x h p =
    let t : agrees e x ≡ true = not-false (agrees e x) (simp (eq-eqb x.slot e.slot p) at h) in
    let (t₁, d) = both (eqb x.rank e.rank && eqb x.beats e.beats && same_key x.key e.key) (eqb x.total e.total) t in
    let (t₂, c) = both (eqb x.rank e.rank && eqb x.beats e.beats) (same_key x.key e.key) t₁ in
    let (a, b) = both (eqb x.rank e.rank) (eqb x.beats e.beats) t₂ in
    record { rank = eqb-true x.rank e.rank a; beats = eqb-true x.beats e.beats b; key = same_key_lem x.key e.key c; total = eqb-true x.total e.total d }

pub record Differ (e x : Entry) : Type 0 where
  pub key : x.key ≡ e.key → ⊥
  pub rank : x.rank ≡ e.rank → ⊥
  pub follow : x.rank < e.rank → x.beats ≤ e.beats

pub differing : (e x : Entry) → against e x ≡ false → (x.slot ≡ e.slot → ⊥) → Differ e x
differing e x h ne =
    let t : contends e x ≡ false = simp (ne_eqb x.slot e.slot ne) at h in
    let (t₁, c) = neither (same_key x.key e.key || eqb x.rank e.rank) (ltb x.rank e.rank && ltb e.beats x.beats) t in
    let (a, b) = neither (same_key x.key e.key) (eqb x.rank e.rank) t₁ in
    record {
      key = λ q. clash (same_key x.key e.key) (key_same x.key e.key q) a;
      rank = λ q. clash (eqb x.rank e.rank) (eq-eqb x.rank e.rank q) b;
      follow = λ l. ltb-false e.beats x.beats (simp (lt-ltb x.rank e.rank l) at c);
    }

-- ---- how many entries
-- of one slot fewer than its parts: one of them is missing, and none is there twice
module _ (n : ℕ) (k : Kind) (log : List Entry) (ok : All (Ok n k log) log) (once : Once log) where
  of_slot_lem : (i : ℕ) → i < n → count_slot i log ≤ 15
  of_slot_lem i l = by_test (has_entry (of_slot i) log) some none
    where
      -- a part of the slot is not past the total, which its entries agree in
      inside : (e : Entry) → Ok n k log e → e.slot ≡ i → (j : ℕ) → has_entry (is_part i (j + 1)) log ≡ true → ltb j e.total ≡ true
      inside e o p j q =
          let (x, (ox, a), t) = has_tells (λ x. Ok n k log x × (against e x ≡ false)) (is_part i (j + 1)) log (all_and (Ok n k log) (λ x. against e x ≡ false) log ok (none_all (against e) log o.alone)) q in
          let (s, m) = is_part_lem i (j + 1) x t in
          lt-ltb j e.total (omega (arith, ox.high, (agreeing e x a (s ∙ sym p)).total))

      none : has_entry (of_slot i) log ≡ false → count_slot i log ≤ 15
      none h = omega (arith, none_of i log (all_weaker (λ e. of_slot i e ≡ false) (λ e. e.slot ≡ i → ⊥) log (none_all (of_slot i) log h) (λ e q. eqb-false e.slot i q)))

      some : has_entry (of_slot i) log ≡ true → count_slot i log ≤ 15
      some h =
          let (e, o, t) = has_tells (Ok n k log) (of_slot i) log ok h in
          let p : e.slot ≡ i = eqb-true e.slot i t in
          let most = (total_bounds e.key e.total o.total).1 in
          let (j, m, gone) = all_fails e.total (λ j. has_entry (is_part e.slot (j + 1)) log) o.lacks in
          let few = by_numbers i log (all_weaker (Ok n k log) (λ e. (1 ≤ e.number) × (e.number ≤ most_parts)) log ok (λ e o. (o.low, omega (arith, o.high, (total_bounds e.key e.total o.total).1)))) once in
          let less : count_below most_parts (λ j. has_entry (is_part i (j + 1)) log) < count_below most_parts (λ j. ltb j e.total) =
          count_less most_parts (λ j. has_entry (is_part i (j + 1)) log) (λ j. ltb j e.total) (λ j b q. inside e o p j q) j (omega arith) (ap (λ (z : ℕ). has_entry (is_part z (j + 1)) log) (sym p) ∙ gone) (lt-ltb j e.total m) in
          omega (arith, few, less, count_below_lem most_parts e.total most)

  pub few_entries : n ≤ most_slots → lists.length log ≤ 75
  few_entries l = omega (arith, by_slots n 15 log (all_weaker (Ok n k log) (λ e. e.slot < n) log ok (λ e o. o.inside)) of_slot_lem)

-- so in lent octets there is room for an entry more
pub state_room : (s : LogState) → state_formed s ≡ true → lists.length s.log ≤ 75
unfolding state_formed log_formed
state_room s h =
    let (a, f) = both (eqb s.lent log_octets && leb (lists.length s.log) most_entries) (log_formed s.slots s.kind s.log) h in
    let (ok, once) = log_formed_tells s.slots s.kind s.log f in
    let (b, c) = both (is_slot_number s.slots && all_of (entry_formed s.slots s.kind s.log) s.log) (none_twice s.log) f in
    few_entries s.slots s.kind s.log ok once (number_tells s.slots (both (is_slot_number s.slots) (all_of (entry_formed s.slots s.kind s.log) s.log) b).0).1
