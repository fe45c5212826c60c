-- The lines are played behind the front, and then it is complained of what is left over.
use Rattle.std.proofs.Common.{ℕ, List, IfNone, refl, subst, ap}
use Rattle.std.specs.Io.KnownBytes.{Appends}
use Rattle.std.specs.Option.{option_copied}
use Rattle.run_devices.specs.RunOutput.{Tells}
use Rattle.run_scenario.proofs.PlayLemmas.{closed_counts, closed_on, closed_reports, closed_writing, complaints_work, leads_none, plays_closed, remains, steps_run, world_left}
use Rattle.run_scenario.proofs.WriteLemmas.{front_cut, plays_behind}
use Rattle.run_scenario.proofs.RunReportLemmas.{reports_none}
use Rattle.run_scenario.specs.Reports.{left_over_report}
use Rattle.run_scenario.specs.RunReports.{scope_of}
use Rattle.run_scenario.specs.ScenarioRuns.{tally}
use Rattle.view_diagnostics.specs.Diagnostics.{subject_at}
use Rattle.run_scenario.proofs.running.play.Goals as goal

pub play-played-requires-clause-ready : goal.play-played-requires-clause-ready
play-played-requires-clause-ready g c = c.requires.listed

pub play-played-requires-clause-leads : goal.play-played-requires-clause-leads
play-played-requires-clause-leads g c = (
  record { name_is = refl; run_is = refl; subject_is = refl; tells_is = refl; holds_is = refl },
  leads_none c.args.runner.now.run.now.list.now (option_copied c.args.runner.now.run.now.only) c.args.core.now c.args.runner.now.state.now.position (tally c.args.runner.now.complained c.args.runner.now.state.now.checker.expected) _ _ (reports_none (scope_of (subject_at c.args.runner.now.state.now.checker.scenario) c.args.runner.now.run.now.list.now) (option_copied c.args.runner.now.run.now.only) c.args.core.now c.args.runner.now.state.now.position c.args.runner.now.state.now.checker.expected
      (g.E.Sink.contents c.args.runner.now.complaints.now)) c.requires.sees,
)

pub close-fault-requires : goal.close-fault-requires
close-fault-requires g c = record { works = complaints_work c.play-played.result.fault _ _ c.play-played.ensures.writing }

pub returns-in-Err-clause-plays : goal.returns-in-Err-clause-plays
returns-in-Err-clause-plays g c = λ works.
    front_cut c.args.runner.now.state.now.position 0 c.args.core.now (g.S.Source.remaining c.args.reader.now) (g.S.Source.has_failed c.args.reader.now) c.new-buffers.ensures.gathered c.in-Err.ensures.told

pub returns-clause-plays : goal.returns-clause-plays
returns-clause-plays g c = λ works.
    plays_closed c.play-played.result.fault c.close-fault.result _ _ c.close-fault.ensures.closes
    (closed_counts c.args.runner.now.run.now.list.now (option_copied c.args.runner.now.run.now.only) c.args.core.now (tally c.args.runner.now.complained c.args.runner.now.state.now.checker.expected) c.play-played.new.player.complained _ c.play-played.new.player.state.now.checker.expected c.close-fault.result c.close-fault.ensures.counts)
    (closed_reports (scope_of (subject_at c.args.runner.now.state.now.checker.scenario) c.args.runner.now.run.now.list.now) (option_copied c.args.runner.now.run.now.only) c.args.core.now c.args.runner.now.state.now.position c.args.runner.now.state.now.checker.expected
    c.play-played.new.player.state.now.checker.expected _ (g.E.Sink.contents c.play-played.new.player.complaints.now) (g.E.Sink.contents c.close-fault.new.complaints) c.close-fault.result
    (subst (λ s. IfNone c.close-fault.result (Appends (g.E.Sink.contents c.play-played.new.player.complaints.now) (g.E.Sink.contents c.close-fault.new.complaints) (left_over_report s c.play-played.new.player.state.now.checker.expected)))
    (remains _ _ _ _ _ _ _ _ _ _ _ _ _ c.play-played.ensures.plays).subject_is c.close-fault.ensures.reports))
    (plays_behind
    (subst (λ (gathered : List ℕ). Tells (g.K.Sink.contents c.args.writer.now) gathered (g.K.Sink.contents c.put.new.sink) c.put.new.self c.args.front.now) c.new-buffers.ensures.gathered c.in-Ok.ensures.told)
    (steps_run _ _ _ _ _ _ _ _ _ _ _ _ _ c.play-played.ensures.plays))

pub returns-clause-same_reference : goal.returns-clause-same_reference
returns-clause-same_reference g c = (remains _ _ _ _ _ _ _ _ _ _ _ _ _ c.play-played.ensures.plays).name_is

pub returns-clause-held : goal.returns-clause-held
returns-clause-held g c = (remains _ _ _ _ _ _ _ _ _ _ _ _ _ c.play-played.ensures.plays).holds_is

pub returns-clause-listed : goal.returns-clause-listed
returns-clause-listed g c = ap (λ w. w.entries) (world_left _ _ _ _ _ _ _ _ _ _ _ _ _ c.play-played.ensures.plays)

pub returns-clause-writing : goal.returns-clause-writing
returns-clause-writing g c = closed_writing c.play-played.result.fault c.close-fault.result _ _ _ c.play-played.ensures.writing c.close-fault.ensures.closes

pub returns-clause-reading : goal.returns-clause-reading
returns-clause-reading g c = closed_on _ c.play-played.result.fault c.close-fault.result _ _ c.close-fault.ensures.closes c.play-played.ensures.reading
