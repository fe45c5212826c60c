-- Rounds begin or end behind the line, unless a fault came.
use Rattle.std.proofs.Common.{Bool, ap, ◌∙◌}
use Rattle.line_steps.specs.RunPosition.{RunPosition, is_due}
use Rattle.line_steps.specs.ResolvedViews.{resolved_view}
use Rattle.run_scenario.specs.CallAnswers.{answer_of}
use Rattle.run_scenario.proofs.FailLemmas.{fails_crossing, fails_or}
use Rattle.run_scenario.proofs.LineStepLemmas.{arrives, due_behind}
use Rattle.run_scenario.proofs.scenario_state.ScenarioState.take_in.Goals as goal

pub returns-in-Ok-clause-stands : goal.returns-in-Ok-clause-stands
returns-in-Ok-clause-stands g c = arrives c.args.self.now.position _ _ (resolved_view c.args.step.now.resolved) (answer_of c.args.step.now.answered) c.arrive.result c.arrive.ensures.stands c.in-Ok.ensures.stands

pub returns-in-Ok-clause-failing : goal.returns-in-Ok-clause-failing
returns-in-Ok-clause-failing g c =
    fails_crossing c.arrive.result _ _ _ _ c.in-Ok.ensures.failing c.arrive.ensures.fault c.arrive.ensures.takes
    (ap (λ (s : RunPosition). is_due s.number s.ahead) c.in-Ok.ensures.stands ∙ due_behind c.args.self.now.position (resolved_view c.args.step.now.resolved) (answer_of c.args.step.now.answered))

pub returns-in-Err-clause-failing : goal.returns-in-Err-clause-failing
returns-in-Err-clause-failing g c = fails_or Bool c.in-Err.fault _ _ _ c.in-Err.ensures.failing
