-- `take_arrival` meets its contract: in each arm the change comes to what is due of the record, and where the arms meet it is made, or the
-- record stays. Assumes nothing.
use Rattle.std.proofs.Common.{◌≡◌, refl}
use Rattle.arrival.specs.Arrivals.{told_arrival}
use Rattle.series.specs.Taking.{told_answer, state, after}
use Rattle.series.specs.Deciding.{changed, taken_where_fit}
use Rattle.series.proofs.TakeSteps.{as_change, moved_so, stayed_so, takes_single, takes_part, part_done, fit_sound, take_steps}
use Rattle.series.proofs.take.take_arrival.Goals.{in-Single, in-Part}
use Rattle.series.proofs.take.take_arrival.Goals as goal

pub take_part-c-requires-clause-room : goal.take_part-c-requires-clause-room
take_part-c-requires-clause-room c = search take_steps

pub take_part-c-requires-clause-whole : goal.take_part-c-requires-clause-whole
take_part-c-requires-clause-whole c = search take_steps

pub returns-then-c : goal.returns-then-c
returns-then-c c =
    let test = c.requires.unfit_value in
    let fit = c.if-unfit.false in
    let sound = fit_sound c.args.state c.args.cells.now c.args.out.now c.args.unfit test fit in
    let done : after (told_answer c.match-brought.c.answer) (changed c.args.state c.match-brought.c) c.match-brought.cells c.match-brought.out
    ≡ taken_where_fit c.args.state.count (state c.args.state c.args.cells.now c.args.out.now) c.args.paged c.args.octets.now (told_arrival c.args.arrival) =
    elim c.match-brought.branch [
      | in-Single w ↦ as_change c.args.state w.cells-is w.out-is w.c-is
          (search (takes_single, test, fit, w.own_octets.ensures, w.take_single-c.ensures.answer_value, w.take_single-c.ensures.out_after, c.in-Ok.is, w.in-Single.is))
      | in-Part w ↦ as_change c.args.state w.cells-is w.out-is w.c-is
          (search (
            takes_part,
            test,
            fit,
            c.in-Ok.is,
            w.in-Part.is,
            w.own_octets-part.ensures,
            part_done _ _ _ _ c.args.cells.now c.args.out.now _ _ _ w.take_part-c.result _ c.args.state _ w.take_part-c.ensures refl w.seat_of-o.ensures.0 w.slot_of-x.ensures sound,
          ))
    ] in
    search (moved_so, done, c.replaced.ensures, c.if-c.true, c.handed_back-then-c.ensures)

pub returns : goal.returns
returns c =
    let test = c.requires.unfit_value in
    let fit = c.if-unfit.false in
    let sound = fit_sound c.args.state c.args.cells.now c.args.out.now c.args.unfit test fit in
    let done : after (told_answer c.match-brought.c.answer) (changed c.args.state c.match-brought.c) c.match-brought.cells c.match-brought.out
    ≡ taken_where_fit c.args.state.count (state c.args.state c.args.cells.now c.args.out.now) c.args.paged c.args.octets.now (told_arrival c.args.arrival) =
    elim c.match-brought.branch [
      | in-Single w ↦ as_change c.args.state w.cells-is w.out-is w.c-is
          (search (takes_single, test, fit, w.own_octets.ensures, w.take_single-c.ensures.answer_value, w.take_single-c.ensures.out_after, c.in-Ok.is, w.in-Single.is))
      | in-Part w ↦ as_change c.args.state w.cells-is w.out-is w.c-is
          (search (
            takes_part,
            test,
            fit,
            c.in-Ok.is,
            w.in-Part.is,
            w.own_octets-part.ensures,
            part_done _ _ _ _ c.args.cells.now c.args.out.now _ _ _ w.take_part-c.result _ c.args.state _ w.take_part-c.ensures refl w.seat_of-o.ensures.0 w.slot_of-x.ensures sound,
          ))
    ] in
    search (stayed_so, done, c.if-c.false, c.handed_back-2.ensures)
