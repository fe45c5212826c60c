-- A line has its turn, its answer is told, and then it is judged.
use Rattle.std.specs.Option.{option_copied}
use Rattle.line_steps.specs.ResolvedViews.{resolved_view}
use Rattle.run_scenario.proofs.LineLemmas.{plays_as, reports_line, step_judged, step_silent}
use Rattle.run_scenario.proofs.LineStepLemmas.{step_viewed}
use Rattle.run_scenario.specs.LineSteps.{is_meant_line}
use Rattle.run_scenario.specs.RunReports.{scope_of}
use Rattle.view_diagnostics.specs.Diagnostics.{subject_at}
use Rattle.run_scenario.proofs.scenario_runner.ScenarioRunner.run_any_line.Goals as goal

pub returns-in-Ok-clause-plays : goal.returns-in-Ok-clause-plays
returns-in-Ok-clause-plays g c =
    let step = c.take_step-step.result in
    let takes = step_viewed c.take_step-step.ensures in
    plays_as c.take_step-step.ensures.resolved_is (step_judged _ _ (is_meant_line c.args.line.now) (resolved_view step.resolved) step.answered takes.heard c.take_in.result
    (c.in-Ok.ensures.hears (option_copied c.args.self.now.run.now.only) c.args.self.now.state.now.position.number c.args.core.now _ takes.world takes.heard)
    c.in-Ok.ensures.failing c.take_in.ensures.judged c.take_in.ensures.expects c.take_in.ensures.stands c.take_in.ensures.failing)

pub returns-in-Err-clause-plays : goal.returns-in-Err-clause-plays
returns-in-Err-clause-plays g c =
    let step = c.take_step-step.result in
    let takes = step_viewed c.take_step-step.ensures in
    plays_as c.take_step-step.ensures.resolved_is (step_silent _ _ (is_meant_line c.args.line.now) (resolved_view step.resolved) step.answered takes.heard c.in-Err.fault
    (c.in-Err.ensures.hears (option_copied c.args.self.now.run.now.only) c.args.self.now.state.now.position.number c.args.core.now _ takes.world takes.heard)
    c.requires.works.own c.in-Err.ensures.failing)

pub returns-in-Ok-clause-reports : goal.returns-in-Ok-clause-reports
returns-in-Ok-clause-reports g c =
    let self = c.args.self.now in
    reports_line (scope_of (subject_at self.state.now.checker.scenario) self.run.now.list.now) (option_copied self.run.now.only) c.args.core.now self.state.now.position c.args.line.now self.state.now.checker.expected
    (g.E.Sink.contents self.complaints.now) (g.E.Sink.contents c.take_in.new.complaints) c.take_in.result (returns-in-Ok-clause-plays g c).judged c.take_in.ensures.reports
