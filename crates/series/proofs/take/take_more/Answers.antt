-- `take_more` meets its contract: each step makes of a record with x in slot i what the rule makes of it. Assumes nothing.
use Rattle.series.proofs.TakeSteps.{more_steps}
use Rattle.series.proofs.take.take_more.Goals as goal

pub returns-in-Ok-Repeats : goal.returns-in-Ok-Repeats
returns-in-Ok-Repeats c = search more_steps

pub returns-in-Ok-Keeps : goal.returns-in-Ok-Keeps
returns-in-Ok-Keeps c = search more_steps

pub returns-in-Ok-Finishes : goal.returns-in-Ok-Finishes
returns-in-Ok-Finishes c = search more_steps
