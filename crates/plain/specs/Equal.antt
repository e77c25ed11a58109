-- The two engines are equal, call by call: while a log, and a record with cells, are the same, each call and each beat says the same through both, and leaves
-- them the same. Of the calls, which go by the rule of one part, proofs/CallEqual.antt says it.
use Prim.Native.Nat.{ℕ, zero, suc, ◌+◌, ◌-◌, ◌≤◌, ◌<◌}
use Rattle.std.specs.Prelude.{◌≡◌, refl, Bool, false, cond, List, length, leb}
use Rattle.std.proofs.Common.{sym, ap, ◌∙◌}
use Rattle.std.proofs.Math.Path.{subst}
use Rattle.std.proofs.Math.Bool.{true}
use native.Mathlib.Omega.{arith}
use Rattle.std.proofs.lemmas.List.{get_or-replicate}
use borrow.Author.Tests.{eq-eqb, eqb-true, le-leb, lt-leb}
use Rattle.octets.specs.Tests as tests
use Rattle.octets.specs.Tests.{clash, same?}
use Rattle.types.specs.Refusals as reading
use Rattle.types.specs.declared.Kind.{Kind}
use Rattle.types.specs.declared.Slot.{Slot}
use Rattle.types.specs.declared.Record.{Record}
use Rattle.arrival.specs.Message.{most_parts}
use Rattle.slots.specs.Below.{count_below}
use Rattle.slots.specs.BelowLaws.{count_same}
use Rattle.slots.specs.Slots.{most_slots, slot_at, held_at, fresh_record}
use Rattle.formed.specs.Formed.{record_formed}
use Rattle.formed.specs.Laws.{Formed, formed_told, fresh_formed, fresh_slot}
use Rattle.beats.specs.Beats as beats
use Rattle.beats.specs.Beats.{raised, reached}
use Rattle.beats.specs.Laws.{Beaten, was_free, is_dropped, is_older}
use Rattle.beats.proofs.BeatenLaws.{beaten?, beat_formed}
use Rattle.cells.specs.Cells.{cells_size}
use Rattle.series.specs.Taking as first
use Rattle.series.specs.KeepLaws.{Sound}
use Rattle.series.specs.Calls.{Input, message, page, octets_of, read}
use Rattle.series.specs.CallLaws.{is_page}
use Rattle.plain.specs.Entries.{Entry, most_entries, log_octets, entries_from, LogState, state_in}
use Rattle.plain.specs.Log.{has_entry, of_slot, dead, log_dropped}
use Rattle.plain.specs.Engine.{log_formed, state_formed, fresh_log, AfterLog, AfterLogBeat, after_log, leaves, log_taken, log_unfit, log_take_message, log_take_page, log_take_input, log_beating, leaves_log_beat, log_beat}
use Rattle.plain.specs.Same.{nil, once_none, Fits, SameLog}
use Rattle.plain.specs.Walks.{has_more, has_none}
use Rattle.plain.specs.Copies.{has_slot, same_beat}
use Rattle.plain.specs.FormedLaws.{log_formed_lem, entry_room}
use Rattle.plain.specs.ReadOff.{record_of, read_off}

-- ---- what holds between calls
-- the first engine's record and cells are sound, the plain engine's log has its octets, and both are the same
pub record Together (s : LogState) (r : Record) (cells : List ℕ) : Type 0 where
  pub kind : r.kind ≡ s.kind
  pub sound : Sound s.slots r cells
  pub lent : s.lent ≡ log_octets
  pub same : SameLog s.slots r.slots cells s.log

-- a call says the same, and leaves what is the same
pub record EqualCall (p : AfterLog) (a : first.After) : Type 0 where
  pub answer : p.answer ≡ a.answer
  pub output : p.output ≡ a.state.output
  pub together : Together p.state a.state.rec a.state.cells

pub record EqualBeat (p : AfterLogBeat) (a : beats.AfterBeat) (cells : List ℕ) : Type 0 where
  pub answer : p.answer ≡ a.answer
  pub together : Together p.state a.rec cells

-- ---- a fresh log
pub fresh_together : (n : ℕ) (k : Kind) (cells lent : List ℕ) → 1 ≤ n → n ≤ most_slots → length cells ≡ cells_size n → length lent ≡ log_octets
    → Together (state_in (fresh_log n k) lent) (fresh_record n k) cells
unfolding entries_from
fresh_together n k cells lent low high size long = record {
  kind = refl;
  sound = record { number = refl; formed = fresh_formed n k low high; size = size };
  lent = long;
  same = record {
    each = nil;
    back = λ i m l a b d. absurd (clash (held_at (slot_at (fresh_record n k).slots i) m) d (ap (λ (x : Slot). held_at x m) (fresh_slot n k i (omega arith)) ∙ get_or-replicate most_parts (m - 1) false false (omega arith)));
    once = once_none;
  };
}

-- ---- one call
pub plain_comes : (s : LogState) (output : List ℕ) (i : Input)
    → log_take_input s output i ≡ cond (log_unfit s output) (after_log (first.refused_by 1) s output) (leaves s (log_taken s.slots s.kind s.log output (is_page i) (octets_of i) (read s.kind i)))
unfolding log_take_message log_take_page
plain_comes s output (message sender ud) = refl
plain_comes s output (page o) = refl

module _ (s : LogState) (r : Record) (cells : List ℕ) (t : Together s r cells) where
  abbrev n : ℕ
  n = s.slots

  w : Formed s.slots r.kind r.slots
  w = t.sound.formed

  -- the log passes the test, and there is room for an entry more
  pub at_most : length s.log ≤ 75
  at_most = omega (arith, entry_room n r.kind r.slots cells s.log w t.same, w.high)

  pub together_formed : state_formed s ≡ true
  unfolding state_formed
  together_formed =
      let f : log_formed n s.kind s.log ≡ true = subst (λ (k : Kind). log_formed n k s.log ≡ true) t.kind (log_formed_lem n r.kind r.slots cells s.log w t.same) in
      rw (eq-eqb s.lent log_octets t.lent, le-leb (length s.log) most_entries (omega (arith, at_most)), f)

  -- the record is what is read off the log
  pub together_read : record_of s.slots s.kind s.log ≡ r
  together_read =
      let k = t.kind in
      let c = t.sound.number in
      let xs = read_off n r.kind r.slots cells s.log w t.same in
      λ i. record { kind = sym k i; count = sym c i; slots = xs i }

  -- ---- one beat
  -- of each slot, both engines say whether it is dropped; past the log's own there is none
  dies : (limit i : ℕ) → i < n → has_entry (dead limit i) s.log ≡ reached limit (raised (slot_at r.slots i))
  dies limit i l = go (beaten? limit (slot_at r.slots i))
    where
      lives : reached limit (raised (slot_at r.slots i)) ≡ false → ((e : Entry) → Fits n r.slots cells e → e.slot ≡ i → leb limit (suc e.beats) ≡ true → ⊥)
          → has_entry (dead limit i) s.log ≡ reached limit (raised (slot_at r.slots i))
      lives q f =
          has_none (Fits n r.slots cells) (dead limit i) s.log t.same.each
          (λ e g d. let (a, b) = tests.both (of_slot i e) (leb limit (suc e.beats)) d in f e g (eqb-true e.slot i a) b) ∙ sym q

      go : Beaten limit (slot_at r.slots i) → has_entry (dead limit i) s.log ≡ reached limit (raised (slot_at r.slots i))
      go (was_free z q u) = lives q (λ e g p b. omega (arith, g.rank, g.used, ap (λ (j : ℕ). (slot_at r.slots j).rank) p))
      go (is_older v m q u) =
          lives q (λ e g p b. clash (leb limit (suc e.beats)) b (lt-leb limit (suc e.beats) (omega (arith, g.beats, ap (λ (j : ℕ). (slot_at r.slots j).beats) p))))
      go (is_dropped v m q u) =
          has_more (Fits n r.slots cells) (of_slot i) (dead limit i) s.log t.same.each
          (λ e g d. tests.both_hold (of_slot i e) (leb limit (suc e.beats)) d (le-leb limit (suc e.beats) (omega (arith, g.beats, ap (λ (j : ℕ). (slot_at r.slots j).beats) (eqb-true e.slot i d)))))
          (has_slot n r.kind r.slots cells s.log w t.same i l v) ∙ sym q

  count_past : (m d : ℕ) (f : ℕ → Bool) → ((i : ℕ) → m ≤ i → i < m + d → f i ≡ false) → count_below (m + d) f ≡ count_below m f
  unfolding count_below
  count_past m zero f none = let e : m + 0 ≡ m = omega arith in rw e
  count_past m (suc d) f none = let e : m + suc d ≡ suc (m + d) = omega arith in rw (e, none (m + d) (omega arith) (omega arith)) (count_past m d f (λ i a b. none i a (omega arith)))

  same_count : (limit : ℕ) → log_dropped n limit s.log ≡ beats.dropped_by limit r.slots
  same_count limit =
      count_same n (λ i. reached limit (raised (slot_at r.slots i))) (λ i. has_entry (dead limit i) s.log) (λ i l. dies limit i l)
      ∙ sym (count_past n (most_slots - n) (λ i. reached limit (raised (slot_at r.slots i))) (λ i a b. rest i (beaten? limit (slot_at r.slots i)) (w.rest i a (omega (arith, w.high))).1))
      ∙ ap (λ (m : ℕ). count_below m (λ i. reached limit (raised (slot_at r.slots i)))) (omega (arith, w.high))
    where
      rest : (i : ℕ) → Beaten limit (slot_at r.slots i) → (slot_at r.slots i).rank ≡ 0 → reached limit (raised (slot_at r.slots i)) ≡ false
      rest i (was_free z q u) e = q
      rest i (is_older v m q u) e = q
      rest i (is_dropped v m q u) e = absurd (omega arith)

  pub beat_equal : (limit : ℕ) → limit < 256 → EqualBeat (log_beat s limit) (beats.beat n r limit) cells
  unfolding log_beat beats.beat
  beat_equal limit small = go (same? limit 0)
    where
      formed : record_formed n r ≡ true
      formed = rw (eq-eqb r.count n t.sound.number, formed_told n r.kind r.slots w)

      go : tests.Same limit 0 → EqualBeat (leaves_log_beat s limit (log_beating s limit)) (beats.leaves_beat r limit (beats.beating n r limit)) cells
      go (tests.same e p) = rw (together_formed, formed, e) (record { answer = refl; together = t })
      go (tests.other e p) =
          rw (together_formed, formed, e) (record {
            answer = ap reading.gives (same_count limit);
            together = record {
              kind = t.kind;
              sound = record { number = t.sound.number; formed = beat_formed n r.kind r.slots w limit (omega arith) (omega arith); size = t.sound.size };
              lent = t.lent;
              same = same_beat n r.kind r.slots cells s.log w t.same limit;
            };
          })

-- ---- the number of slots of a log never changes
pub taking_slots : (s : LogState) (output : List ℕ) (i : Input) → (log_take_input s output i).state.slots ≡ s.slots
taking_slots s output i = ap (λ (a : AfterLog). a.state.slots) (plain_comes s output i) ∙ go (log_unfit s output)
  where
    go : (b : Bool) → (cond b (after_log (first.refused_by 1) s output) (leaves s (log_taken s.slots s.kind s.log output (is_page i) (octets_of i) (read s.kind i)))).state.slots ≡ s.slots
    go true = refl
    go false = refl

pub beat_slots : (s : LogState) (limit : ℕ) → (log_beat s limit).state.slots ≡ s.slots
unfolding log_beat
beat_slots s limit = go (log_beating s limit)
  where
    go : (o : reading.Outcome ℕ) → (leaves_log_beat s limit o).state.slots ≡ s.slots
    go (reading.refused m) = refl
    go (reading.gives m) = refl
