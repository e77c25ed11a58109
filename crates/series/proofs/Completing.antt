-- Laws of one step of taking, for every engine: whether a part that is new completes its series, and so which step is due.
use Rattle.std.specs.Prelude.{ℕ, ◌≡◌, Bool, true, false, List}
use Rattle.std.proofs.Common.{eq-eqb}
use Rattle.types.specs.declared.Slot.{Slot}
use Rattle.slots.specs.Slots.{held_at}
use Rattle.series.specs.Taking.{completes, keeps, finishes}
use Rattle.series.specs.Deciding.{all_with, step_at}

module _ (cells : List ℕ) (total number : ℕ) (octets : List ℕ) (i : ℕ) (x : Slot) where
  module _ (is : x.total ≡ total) where
    module _ (new : held_at x number ≡ false) (b : Bool) (all : b ≡ all_with x.held total number) where
      completed : b ≡ completes x number
      completed = rw (all, is)

      pub new_last : b ≡ true → finishes i ≡ step_at cells total number octets i x
      new_last e = rw (eq-eqb x.total total is, new, ← completed, e)

      pub new_more : b ≡ false → keeps i false x ≡ step_at cells total number octets i x
      new_more e = rw (eq-eqb x.total total is, new, ← completed, e)
