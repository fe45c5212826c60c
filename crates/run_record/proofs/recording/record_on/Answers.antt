-- The whole scenario is recorded on the machine of the list.
use Rattle.std.proofs.Common.{ap, ◌∙◌}
use Rattle.run_record.specs.Recorded.{without_last, written_lines}
use Rattle.run_record.specs.Views.{marks_view, recording_in}
use Rattle.run_record.proofs.RecordedLemmas.{first_in, whole_recorded}
use Rattle.run_record.specs.LineErrors.{errors_view}
use Rattle.run_record.proofs.ErrorLemmas.{whole_errors}
use Rattle.run_record.proofs.recording.record_on.Goals as goal

pub returns-clause-recorded : goal.returns-clause-recorded
returns-clause-recorded g c =
    whole_recorded _ c.new-player.result.all c.args.list.now _ c.args.scenario.unfolded.now c.args.scenario.text.now c.args.core.now (recording_in c.args.list.now c.new-player.result.position c.new-player.result.awaits c.args.core.now)
    (marks_view c.new-player.result.marks.marks.items) _ _
    c.new-player.ensures.all
    (first_in c.args.list.now c.new-player.result.position c.new-player.result.awaits c.args.core.now _ c.new-player.ensures.position c.new-player.ensures.awaits)
    (ap (λ m. marks_view m.marks.items) c.new-player.ensures.marks ∙ c.in_ok-marks.ensures)
    c.in_ok-run_scenario_lines.ensures.marks
    (c.in_ok-into_recording.ensures.text
    ∙ ap (λ a. without_last (written_lines a (marks_view c.run_scenario_lines.new.self.marks.marks.items))) c.run_scenario_lines.ensures.all)

pub returns-clause-errors : goal.returns-clause-errors
returns-clause-errors g c =
    whole_errors c.args.list.now _ c.args.scenario.unfolded.now c.args.core.now
    (recording_in c.args.list.now c.new-player.result.position c.new-player.result.awaits c.args.core.now) (errors_view c.new-player.result.errors.items) _ _
    (first_in c.args.list.now c.new-player.result.position c.new-player.result.awaits c.args.core.now _ c.new-player.ensures.position c.new-player.ensures.awaits)
    (ap errors_view c.new-player.ensures.errors)
    c.in_ok-run_scenario_lines.ensures.errors
    (ap (λ errors. errors_view errors.items) c.in_ok-into_recording.ensures.errors)
