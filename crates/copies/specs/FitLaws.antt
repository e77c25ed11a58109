-- What the test of a log tells those who change one: it has as many octets and entries as it may, ranks and counts can rise, and an entry more fits.
use Rattle.std.specs.Prelude.{ℕ, ◌≤◌, ◌≡◌, refl, Bool, true, false, not, ◌&&◌, List, [], ◌∷◌, length, eqb}
use Rattle.std.proofs.Common.{sym, ◌∙◌, arith}
use Rattle.std.proofs.Math.Dec.{leb}
use borrow.Author.Tests.{eqb-true, lt-ltb, leb-true}
use Rattle.octets.specs.Tests.{clash, both}
use Rattle.types.specs.declared.Kind.{Kind}
use Rattle.types.specs.declared.Log.{Log}
use Rattle.slots.specs.Slots.{most_slots, is_slot_number}
use Rattle.formed.specs.Laws.{number_tells}
use Rattle.plain.specs.Entries.{Entry, most_entries, log_octets, entries_from, state_in}
use Rattle.plain.specs.Engine.{entry_formed, all_of, none_twice, log_formed, state_formed}
use Rattle.plain.specs.Same.{All, nil, cons}
use Rattle.plain.specs.Walks.{all_weaker}
use Rattle.plain.specs.Tells.{Ok, log_formed_tells, few_entries}
use Rattle.logs.specs.Laws.{entries_long}
use Rattle.copies.specs.Copying.{low, SoundLog, CanChange, CanKeep}

pub so : (c : Bool) → not c ≡ false → c ≡ true
so true e = refl
so false e = absurd (clash true refl e)

-- ---- a log that passes
all_of_lem : (p : Entry → Bool) (log : List Entry) → All (λ e. p e ≡ true) log → all_of p log ≡ true
unfolding all_of
all_of_lem p [] nil = refl
all_of_lem p (e ∷ log) (cons x y) = rw (x, all_of_lem p log y)

module _ (n : ℕ) (k : Kind) (log : List Entry) (t : log_formed n k log ≡ true) where
  few_slots : n ≤ most_slots
  unfolding log_formed
  few_slots =
      let (t₁, o) = both (is_slot_number n && all_of (entry_formed n k log) log) (none_twice log) t in
      (number_tells n (both (is_slot_number n) (all_of (entry_formed n k log) log) t₁).0).1

  pub entries_ok : All (Ok n k log) log
  entries_ok = (log_formed_tells n k log t).0

  low_all : all_of low log ≡ true
  low_all =
      all_of_lem low log (all_weaker (Ok n k log) (λ e. low e ≡ true) log entries_ok
      (λ e f. rw (lt-ltb e.rank 255 (omega (arith, f.top, few_slots)), lt-ltb e.beats 255 (omega (arith, f.beats)))))

  at_most_75 : length log ≤ 75
  at_most_75 = few_entries n k log entries_ok (log_formed_tells n k log t).1 few_slots

module _ (n : ℕ) (k : Kind) (lent : List ℕ) (m : ℕ) where
  pub sound_changes : SoundLog n k lent m → CanChange lent m
  sound_changes s = record { long = s.long; most = s.most; rise = low_all n k (entries_from lent 0 m) s.formed }

  pub sound_keeps : (part : List ℕ) → SoundLog n k lent m → length part ≤ 134 → CanKeep lent m part
  sound_keeps part s short =
      record { change = sound_changes s; room = omega (arith, at_most_75 n k (entries_from lent 0 m) s.formed, entries_long lent m 0); short = short }

-- what a call's test says
module _ (l : Log) (lent : List ℕ) (b : Bool) (told : b ≡ state_formed (state_in l lent)) where
  pub formed_sound : b ≡ true → SoundLog l.slots l.kind lent l.count
  unfolding state_formed
  formed_sound e =
      let (t, f) = both (eqb (length lent) log_octets && leb (length (entries_from lent 0 l.count)) most_entries) (log_formed l.slots l.kind (entries_from lent 0 l.count)) (sym told ∙ e) in
      let (a, c) = both (eqb (length lent) log_octets) (leb (length (entries_from lent 0 l.count)) most_entries) t in
      record {
        long = eqb-true (length lent) log_octets a;
        most = omega (arith, leb-true (length (entries_from lent 0 l.count)) most_entries c, entries_long lent l.count 0);
        formed = f;
      }
