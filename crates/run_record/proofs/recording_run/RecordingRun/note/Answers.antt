-- The call of a line has the answer of its step.
use Rattle.std.proofs.Common.{◌≡◌, ◌++◌, None, OnOk, subst, sym}
use Rattle.line_steps.specs.ResolvedViews.{resolved_view}
use Rattle.run_lines.specs.Answer.{AnswersLine}
use Rattle.run_scenario.specs.CallAnswers.{AnswersIn, answer_of}
use Rattle.run_scenario.specs.LineSteps.{calls_in}
use Rattle.run_record.specs.LineErrors.{errors_view, recording_errors_in}
use Rattle.run_record.specs.Marked.{all_marked}
use Rattle.run_record.specs.RecordedCalls.{events_in}
use Rattle.run_record.specs.Views.{marks_view, recording_in}
use Rattle.run_record.proofs.RecordedLemmas.{answers_line}
use Rattle.run_record.proofs.recording_run.RecordingRun.note.Goals as goal

pub returns-in-Call-clause-marks : goal.returns-in-Call-clause-marks
returns-in-Call-clause-marks c = λ world answers.
    let now = c.args.self.now in
    let call = c.in-Call.call in
    let answer = answer_of c.args.step.now.answered in
    subst (λ line. OnOk c.note_call.result (marks_view c.note_call.new.self.marks.marks.items ≡ all_marked (events_in now.all (recording_in c.args.list.now now.position now.awaits world) c.args.line.now (resolved_view line)) (marks_view now.marks.marks.items))) (sym c.in-Call.is)
    (c.note_call.ensures.marks world
    (subst (AnswersLine None world call.line.now) (sym c.answer_in.ensures)
    (answers_line world call.line.now answer (subst (λ line. AnswersIn None world (calls_in (resolved_view line)) answer) c.in-Call.is answers))))

pub returns-in-Call-clause-errors : goal.returns-in-Call-clause-errors
returns-in-Call-clause-errors c = λ world answers.
    let now = c.args.self.now in
    let call = c.in-Call.call in
    let answer = answer_of c.args.step.now.answered in
    subst (λ line. OnOk c.note_call.result (errors_view c.note_call.new.self.errors.items ≡ errors_view now.errors.items ++ recording_errors_in (recording_in c.args.list.now now.position now.awaits world) c.args.line.now (resolved_view line))) (sym c.in-Call.is)
    (c.note_call.ensures.errors world
    (subst (AnswersLine None world call.line.now) (sym c.answer_in.ensures)
    (answers_line world call.line.now answer (subst (λ line. AnswersIn None world (calls_in (resolved_view line)) answer) c.in-Call.is answers))))
