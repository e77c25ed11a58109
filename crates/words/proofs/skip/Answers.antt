-- The first character that is no blank is where the blanks end. Assumes nothing.
use Rattle.words.proofs.Steps.{steps}
use Rattle.words.proofs.skip.Goals as goal

pub returns-in-Some-clause-line_value : goal.returns-in-Some-clause-line_value
returns-in-Some-clause-line_value c = search steps

pub returns-in-None-clause-line_value : goal.returns-in-None-clause-line_value
returns-in-None-clause-line_value c = search steps
