-- What the proofs of the beat cite: the laws of its turns, and one law for each return of the call.
use Prim.Native.Nat.{ℕ, ◌≤◌}
use mathlib.Core.Path.{◌≡◌}
use mathlib.Core.Bool.{Bool, true, false, not}
use native.Mathlib.Omega.{arith}
use lib.ListN.{length}
use borrow.Author.Rules.{rules}
use borrow.Author.Tests.{eq-eqb, ne_eqb}
use Rattle.types.specs.declared.Record.{Record}
use Rattle.types.specs.Refusals.{refused, gives}
use Rattle.slots.specs.Slots.{most_slots}
use Rattle.slots.specs.Found.{length_of_map}
use Rattle.slots.specs.Order.{first_whole}
use Rattle.formed.specs.Formed.{record_formed}
use Rattle.beats.specs.Beats.{after_beat, beaten, beat}
use Rattle.beats.specs.Turns.{Beat, beat_starts, dropped_fits, beat_goes_on}
use Rattle.beats.proofs.TurnLaws.{dead_told, slot_dropped, slot_free, slot_older, older_fits}

pub beat_ends : (limit : ℕ) (r s : Record) (dropped i : ℕ) → Beat limit r s dropped i → (b : Bool) → b ≡ record_formed r.count r → not b ≡ false → (limit ≡ 0 → ⊥) → most_slots ≤ i → length r.slots ≡ most_slots → beaten (gives dropped) s ≡ beat r.count r limit
unfolding beat
beat_ends limit r s dropped i b ok t f z l e =
    let end : i ≡ most_slots = omega (arith, b.changed.within) in
    rw (← t, f, ne_eqb limit 0 z, b.changed.kind, b.changed.number, b.changed.slots, b.counted, end, first_whole (after_beat limit) most_slots r.slots e)

module _ (r : Record) (limit : ℕ) (b : Bool) (t : b ≡ record_formed r.count r) where
  pub beat_unformed : not b ≡ true → beaten (refused 1) r ≡ beat r.count r limit
  unfolding beat
  beat_unformed f = rw (← t, f)

  pub beat_limit : not b ≡ false → limit ≡ 0 → beaten (refused 18) r ≡ beat r.count r limit
  unfolding beat
  beat_limit f z = rw (← t, f, eq-eqb limit 0 z)

pub ruleset steps = (
  rules,
  length_of_map,
  dead_told,
  slot_dropped,
  slot_free,
  slot_older,
  older_fits,
  beat_starts,
  dropped_fits,
  beat_goes_on,
  beat_ends,
  beat_unformed,
  beat_limit,
)
