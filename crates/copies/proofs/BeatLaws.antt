-- What the proofs of a fresh log and of the beat search: one law for each return, over plain variables.
use Prim.Native.Nat.{ℕ, ◌≤◌}
use mathlib.Core.Path.{◌≡◌, refl}
use mathlib.Core.Bool.{Bool, true, false, not}
use mathlib.Core.List.{List}
use lib.ListN.{length}
use borrow.Author.Rules.{rules}
use borrow.Author.Tests.{eq-eqb, ne_eqb}
use Rattle.octets.specs.Tests.{clash}
use Rattle.types.specs.Refusals.{refused, gives}
use Rattle.types.specs.declared.Kind.{Kind}
use Rattle.types.specs.declared.Log.{Log}
use Rattle.slots.specs.Slots.{is_slot_number}
use Rattle.plain.specs.Entries.{most_entries, log_octets, entries_from, state_in}
use Rattle.plain.specs.Log.{log_after_beat, log_dropped}
use Rattle.plain.specs.Engine.{all_of, state_formed, fresh_log, beside_log, making_log, beaten_log, log_beat}
use Rattle.copies.specs.Copying.{low, SoundLog, beat_refused}
use Rattle.copies.specs.FitLaws.{so, formed_sound, sound_changes}

-- ---- a fresh log
pub made_fresh : (n : ℕ) (k : Kind) (b : Bool) → b ≡ is_slot_number n → b ≡ true → beside_log (gives tt) (fresh_log n k) ≡ making_log n k
made_fresh n k b e t = rw (← e, t)

pub made_none : (n : ℕ) (k : Kind) (b : Bool) → b ≡ is_slot_number n → b ≡ false → beside_log (refused 25) (fresh_log 0 k) ≡ making_log n k
made_none n k b e t = rw (← e, t)

-- ---- a beat
module _ (l : Log) (lent : List ℕ) (limit : ℕ) (b : Bool) (told : b ≡ state_formed (state_in l lent)) where
  pub beat_unfit : not b ≡ true → beaten_log (refused 1) (state_in l lent) ≡ log_beat (state_in l lent) limit
  unfolding log_beat
  beat_unfit e = rw (← told, e)

  pub beat_limit : not b ≡ false → limit ≡ 0 → beaten_log (refused 18) (state_in l lent) ≡ log_beat (state_in l lent) limit
  unfolding log_beat
  beat_limit e z = rw (← told, e, eq-eqb limit 0 z)

  sound : not b ≡ false → SoundLog l.slots l.kind lent l.count
  sound e = formed_sound l lent b told (so b e)

  pub beat_low : not b ≡ false → all_of low (entries_from lent 0 l.count) ≡ true
  beat_low e = (sound_changes l.slots l.kind lent l.count (sound e)).rise

  pub beat_most : not b ≡ false → l.count ≤ most_entries
  beat_most e = (sound e).most

  pub beat_long : not b ≡ false → length lent ≡ log_octets
  beat_long e = (sound e).long

  pub beat_done : (dropped c : ℕ) (new : List ℕ) → not b ≡ false → (limit ≡ 0 → ⊥) → dropped ≡ log_dropped l.slots limit (entries_from lent 0 l.count)
      → length new ≡ length lent → entries_from new 0 c ≡ log_after_beat limit (entries_from lent 0 l.count)
      → beaten_log (gives dropped) (state_in (record { kind = l.kind; slots = l.slots; count = c }) new) ≡ log_beat (state_in l lent) limit
  unfolding log_beat
  beat_done dropped c new e z f n h = rw (← told, e, ne_eqb limit 0 z, f, n, h)

pub not_refused : (n : ℕ) (old new : List ℕ) → beat_refused (gives n) ≡ true → new ≡ old
not_refused n old new e = absurd (clash false e refl)

pub ruleset beat_steps = (
  rules,
  made_fresh,
  made_none,
  beat_unfit,
  beat_limit,
  beat_low,
  beat_most,
  beat_long,
  beat_done,
  not_refused,
)
