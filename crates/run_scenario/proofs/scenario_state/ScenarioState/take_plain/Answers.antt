-- Rounds begin or end behind the line, unless a fault came.
use Rattle.std.proofs.Common.{Bool, false, ap, ◌∙◌}
use Rattle.line_steps.specs.RunPosition.{RunPosition, is_due, passed}
use Rattle.run_scenario.specs.LineSteps.{plain_line}
use Rattle.run_scenario.specs.CallAnswers.{answer_of}
use Rattle.run_scenario.proofs.FailLemmas.{fails_crossing, fails_or}
use Rattle.run_scenario.proofs.LineStepLemmas.{arrives, stands_whole}
use Rattle.run_scenario.proofs.scenario_state.ScenarioState.take_plain.Goals as goal

pub returns-in-Ok-clause-stands : goal.returns-in-Ok-clause-stands
returns-in-Ok-clause-stands g c =
    let position = c.args.self.now.position in
    arrives position _ _ (plain_line c.args.line.now) (answer_of c.args.heard.now) c.arrive.result c.arrive.ensures.stands
    (c.pass-number.ensures.passed ∙ stands_whole (passed position) c.args.line.now (answer_of c.args.heard.now))

pub returns-in-Ok-clause-failing : goal.returns-in-Ok-clause-failing
returns-in-Ok-clause-failing g c =
    fails_crossing c.arrive.result _ false _ _ c.in-Ok.ensures.failing c.arrive.ensures.fault c.arrive.ensures.takes
    (ap (λ (s : RunPosition). is_due s.number s.ahead) c.pass-number.ensures.passed)

pub returns-in-Err-clause-failing : goal.returns-in-Err-clause-failing
returns-in-Err-clause-failing g c = fails_or Bool c.in-Err.fault _ _ _ c.in-Err.ensures.failing
