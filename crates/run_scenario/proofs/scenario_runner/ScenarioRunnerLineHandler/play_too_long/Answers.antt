-- A line that is too long says nothing.
use Rattle.std.proofs.Common.{None, Ok, Result, sym, ◌∙◌}
use Rattle.std.specs.Option.{option_copied}
use Rattle.run_lines.specs.declared.line_run_fault.LineRunFault.{LineRunFault}
use Rattle.run_lines.proofs.ToldLemmas.{left_none, said_none}
use Rattle.line_steps.specs.ResolvedLines.ResolvedLine.{TooLong}
use Rattle.run_scenario.proofs.LineLemmas.{hears_none, plays_as, reports_line, step_judged}
use Rattle.run_scenario.proofs.PlayLemmas.{runner_line, ready_next}
use Rattle.run_scenario.proofs.ReportLemmas.{judged_long}
use Rattle.run_scenario.proofs.PlayedLemmas.{resolved_long}
use Rattle.run_scenario.specs.LineSteps.{is_meant_line}
use Rattle.run_scenario.specs.RunReports.{scope_of}
use Rattle.view_diagnostics.specs.Diagnostics.{subject_at}
use Rattle.run_scenario.proofs.scenario_runner.ScenarioRunnerLineHandler.play_too_long.Goals as goal

abbrev told : Result (Unit {0}) LineRunFault
told = Ok tt

pub returns-clause-played : goal.returns-clause-played
returns-clause-played g c = λ first start earlier line long led.
    let now = c.args.self.now in
    let only = option_copied now.run.now.only in
    rw c.count.ensures.result (runner_line (λ run. option_copied run.only) (λ run. run.list.now) (λ run. g.W.CallObserver.sees now.observer.now run.list.now) (λ run. g.W.CallObserver.sees now.observer.now run.list.now)
    start earlier line g.W.CallObserver.takes c.take_in-judged.result now.complained c.count.new.complained _ _ _ c.count.ensures.counts (record { name_is = led.0.name_is; run_is = led.0.run_is; subject_is = c.take_in-judged.ensures.subject ∙ led.0.subject_is; tells_is = led.0.tells_is; holds_is = led.0.holds_is }) led.0.run_is led.0.subject_is led.0.tells_is led.1
    (plays_as (sym (resolved_long only now.state.now.position line long)) (step_judged _ _ (is_meant_line line) TooLong None (said_none only) c.take_in-judged.result (hears_none told (sym (left_none only c.args._core.now)) (said_none only)) c.requires.works.writes
    c.take_in-judged.ensures.judged c.take_in-judged.ensures.expects c.take_in-judged.ensures.stands c.take_in-judged.ensures.failing))
    (reports_line (scope_of (subject_at now.state.now.checker.scenario) now.run.now.list.now) only c.args._core.now now.state.now.position line now.state.now.checker.expected (g.E.Sink.contents now.complaints.now) (g.E.Sink.contents c.take_in-judged.new.complaints) c.take_in-judged.result
    (judged_long now.run.now.list.now only c.args._core.now (is_meant_line line) now.state.now.checker.expected c.take_in-judged.result _ (resolved_long only now.state.now.position line long) c.take_in-judged.ensures.judged) c.take_in-judged.ensures.reports))

pub returns-clause-ready : goal.returns-clause-ready
returns-clause-ready g c = λ more ready. rw c.count.ensures.result (ready_next c.take_in-judged.result ready)
