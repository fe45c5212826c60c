-- A line has its step, which is recorded, and then the position moves past it.
use Rattle.std.proofs.Common.{◌≡◌, ◌++◌, None}
use Rattle.line_steps.specs.ResolvedViews.{resolved_view}
use Rattle.run_scenario.specs.LineSteps.{calls_in}
use Rattle.run_scenario.proofs.LineLemmas.{answers_in}
use Rattle.run_scenario.proofs.LineStepLemmas.{step_viewed}
use Rattle.run_record.specs.Marked.{all_marked}
use Rattle.run_record.specs.RecordedCalls.{events_in}
use Rattle.run_record.specs.LineErrors.{errors_view, recording_errors_in}
use Rattle.run_record.specs.Views.{marks_view, recording_in}
use Rattle.run_record.proofs.RecordedLemmas.{as_resolved, stepped}
use Rattle.run_record.proofs.recording_run.RecordingRun.run_line.Goals as goal

pub note-requires : goal.note-requires
note-requires g c = record { resolved = c.take_step-step.ensures.resolved_is; parsed = c.take_step-step.ensures.parsed }

pub returns-clause-stage : goal.returns-clause-stage
returns-clause-stage g c =
    let now = c.args.self.now in
    let step = c.take_step-step.result in
    stepped c.move_past.result c.args.list.now now.position _ _ now.awaits _ c.args.line.now c.args.core.now _ step (resolved_view step.resolved) c.take_step-step.ensures
    c.take_step-step.ensures.resolved_is c.note.ensures.position c.in_ok-note.ensures.awaits (c.move_past.ensures None c.args.line.now c.args.core.now _)

pub returns-clause-marks : goal.returns-clause-marks
returns-clause-marks g c =
    let now = c.args.self.now in
    let step = c.take_step-step.result in
    as_resolved c.move_past.result
    (λ line. marks_view c.note.new.self.marks.marks.items ≡ all_marked (events_in now.all (recording_in c.args.list.now now.position now.awaits c.args.core.now) c.args.line.now line) (marks_view now.marks.marks.items))
    c.take_step-step.ensures.resolved_is
    (c.in_ok-note.ensures.marks c.args.core.now (answers_in None c.args.core.now now.position.number (calls_in (resolved_view step.resolved)) step.answered (step_viewed c.take_step-step.ensures).heard))

pub returns-clause-errors : goal.returns-clause-errors
returns-clause-errors g c =
    let now = c.args.self.now in
    let step = c.take_step-step.result in
    as_resolved c.move_past.result
    (λ line. errors_view c.note.new.self.errors.items ≡ errors_view now.errors.items ++ recording_errors_in (recording_in c.args.list.now now.position now.awaits c.args.core.now) c.args.line.now line)
    c.take_step-step.ensures.resolved_is
    (c.in_ok-note.ensures.errors c.args.core.now (answers_in None c.args.core.now now.position.number (calls_in (resolved_view step.resolved)) step.answered (step_viewed c.take_step-step.ensures).heard))
