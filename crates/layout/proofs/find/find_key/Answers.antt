-- `find_key` meets its contract: the first number whose slot bears the key is that of the first such slot, and if none does there is none. Assumes nothing.
use mathlib.Core.Path.{◌≡◌}
use mathlib.Core.Bool.{true, false}
use Rattle.std.proofs.lemmas.Iterator.{first_from_Range}
use Rattle.slots.specs.Slots.{bears}
use Rattle.layout.specs.Layout.{state_record}
use Rattle.layout.specs.Laws.{slots_long}
use Rattle.layout.specs.Changes.{state_slot}
use Rattle.layout.proofs.ReadSteps.{found_in, find_steps}
use Rattle.layout.proofs.find.find_key.Goals as goal

pub returns-clause-result_value : goal.returns-clause-result_value
returns-clause-result_value c =
    let s = c.args.state.now in
    let p = bears c.args.key in
    found_in p _ _ (state_record s).slots (slots_long s) c.slots_in.ensures.1 c.slots_in.ensures.0 c.find.result
    (first_from_Range _ _ _ _ (λ i. p (state_slot s i) ≡ true) (λ i. p (state_slot s i) ≡ false) c.find.ensures.ran (λ x q k. search find_steps) (λ x q k. (search find_steps, search find_steps)))
