-- The engine's line is answered, or it is skipped.
use Rattle.run_scenario.proofs.line_step.answer.Goals as goal

pub returns-in-Some-clause-heard : goal.returns-in-Some-clause-heard
returns-in-Some-clause-heard g c = record { numbered = c.number-number.ensures; said = c.in-Some.ensures.answered.0; answers = c.in-Some.ensures.answered.1 }
