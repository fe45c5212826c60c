-- A call as it stands is answered, its answer is told, and then it is judged.
use Rattle.std.specs.Option.{option_copied}
use Rattle.run_scenario.specs.LineSteps.{is_meant_line, plain_line}
use Rattle.run_scenario.proofs.LineLemmas.{plays_as, reports_line, step_judged, step_silent}
use Rattle.run_scenario.proofs.LineStepLemmas.{resolved_plain}
use Rattle.run_scenario.specs.RunReports.{scope_of}
use Rattle.view_diagnostics.specs.Diagnostics.{subject_at}
use Rattle.run_scenario.proofs.scenario_runner.ScenarioRunner.run_plain_line.Goals as goal

pub returns-in-Ok-clause-plays : goal.returns-in-Ok-clause-plays
returns-in-Ok-clause-plays g c =
    let heard = c.answer_plain-heard.ensures.heard in
    plays_as (resolved_plain (option_copied c.args.self.now.run.now.only) c.args.self.now.state.now.position c.args.line.now c.requires.short c.requires.own c.requires.bare c.requires.plain)
    (step_judged _ _ (is_meant_line c.args.line.now) (plain_line c.args.line.now) c.answer_plain-heard.result heard c.take_plain.result
    (c.in-Ok.ensures.hears (option_copied c.args.self.now.run.now.only) c.args.self.now.state.now.position.number c.args.core.now _ c.answer_plain-heard.ensures.world heard)
    c.in-Ok.ensures.failing c.take_plain.ensures.judged c.take_plain.ensures.expects c.take_plain.ensures.stands c.take_plain.ensures.failing)

pub returns-in-Err-clause-plays : goal.returns-in-Err-clause-plays
returns-in-Err-clause-plays g c =
    let heard = c.answer_plain-heard.ensures.heard in
    plays_as (resolved_plain (option_copied c.args.self.now.run.now.only) c.args.self.now.state.now.position c.args.line.now c.requires.short c.requires.own c.requires.bare c.requires.plain)
    (step_silent _ _ (is_meant_line c.args.line.now) (plain_line c.args.line.now) c.answer_plain-heard.result heard c.in-Err.fault
    (c.in-Err.ensures.hears (option_copied c.args.self.now.run.now.only) c.args.self.now.state.now.position.number c.args.core.now _ c.answer_plain-heard.ensures.world heard)
    c.requires.works.own c.in-Err.ensures.failing)

pub returns-in-Ok-clause-reports : goal.returns-in-Ok-clause-reports
returns-in-Ok-clause-reports g c =
    let self = c.args.self.now in
    reports_line (scope_of (subject_at self.state.now.checker.scenario) self.run.now.list.now) (option_copied self.run.now.only) c.args.core.now self.state.now.position c.args.line.now self.state.now.checker.expected
    (g.E.Sink.contents self.complaints.now) (g.E.Sink.contents c.take_plain.new.complaints) c.take_plain.result (returns-in-Ok-clause-plays g c).judged c.take_plain.ensures.reports
