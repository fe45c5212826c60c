-- Where a run is after the step of a line.
use Rattle.std.proofs.Common.{◌≡◌, ℕ, List, Option, Result, Ok, Err, OnOk, ap, ◌∙◌}
use Rattle.own_model.specs.World.{World}
use Rattle.line_steps.specs.ResolvedViews.{resolved_view}
use Rattle.line_steps.specs.RunPosition.{RunPosition, arrived, passed}
use Rattle.run_scenario.specs.CallAnswers.{TakesStep, answer_of}
use Rattle.run_scenario.specs.LineSteps.{calls_in, next_position, resolved_at, position_after, position_with}
use Rattle.run_scenario.specs.declared.line_step.LineStep.{LineStep}
use Rattle.run_scenario.proofs.LineLemmas.{answers_in}
use Rattle.run_scenario.proofs.LineStepLemmas.{stands_answered, step_viewed}

-- the position that the step of a line leads to
pub stepped : {E : Type 0} (r : Result Unit E) (only : Option (List ℕ)) (position passes bound next : RunPosition) (line : List ℕ) (old new : World) (step : LineStep) →
    TakesStep only position.number (resolved_at only position line) old new step → passes ≡ passed position →
    bound ≡ position_with passes (resolved_view step.resolved) (answer_of step.answered) → OnOk r (next ≡ arrived bound) → OnOk r (next ≡ next_position only old position line)
stepped (Ok done) only position passes bound next line old new step takes is_passed is_bound arrives =
    let seen = resolved_view step.resolved in
    let answer = answer_of step.answered in
    arrives
    ∙ ap arrived
    (is_bound
    ∙ ap (λ s. position_with s seen answer) is_passed
    ∙ stands_answered only old (passed position) seen answer (answers_in only old position.number (calls_in seen) step.answered (step_viewed takes).heard)
    ∙ ap (position_after only old (passed position)) takes.resolved_is)
stepped (Err fault) only position passes bound next line old new step takes is_passed is_bound arrives = tt
