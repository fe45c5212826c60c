-- A line more is run, and then no line is left.
use Rattle.std.proofs.Common.{◌++◌, ap, sym, ◌∙◌}
use Rattle.std.specs.Option.{option_copied}
use Rattle.run_record.specs.Marked.{all_marked}
use Rattle.run_record.specs.Pieces.{pieces_in}
use Rattle.run_record.specs.RecordedCalls.{events}
use Rattle.run_record.specs.LineErrors.{errors_view, recording_errors_from}
use Rattle.run_record.specs.Views.{marks_view, recording_in}
use Rattle.run_record.proofs.RecordedLemmas.{one_more}
use Rattle.run_record.proofs.ErrorLemmas.{errors_more}
use Rattle.run_record.proofs.recording_run.RecordingRun.run_scenario_lines.Goals as goal

pub loop-rest-preserved : goal.loop-rest-preserved
loop-rest-preserved g c = record {
  marked =
      one_more _ _ _ _ _ (recording_in c.args.list.now c.loop-rest.self.position c.loop-rest.self.awaits c.loop-rest.core) _ c.in-Some.text.now c.first_piece.result.0.now
      (pieces_in (option_copied c.first_piece.result.1))
      (c.loop-rest.invariant.marked
      ∙ ap (λ rest. all_marked (events c.loop-rest.self.all (recording_in c.args.list.now c.loop-rest.self.position c.loop-rest.self.awaits c.loop-rest.core) (pieces_in (option_copied rest)))
      (marks_view c.loop-rest.self.marks.marks.items)) c.in-Some.is)
      c.first_piece.ensures.pieces c.in_ok-run_line.ensures.marks c.in_ok-run_line.ensures.all c.in_ok-run_line.ensures.stage;
  errors =
      errors_more _ _ _ (recording_in c.args.list.now c.loop-rest.self.position c.loop-rest.self.awaits c.loop-rest.core) _ c.in-Some.text.now c.first_piece.result.0.now
      (pieces_in (option_copied c.first_piece.result.1))
      (ap (λ rest. errors_view c.loop-rest.self.errors.items
      ++ recording_errors_from (recording_in c.args.list.now c.loop-rest.self.position c.loop-rest.self.awaits c.loop-rest.core) (pieces_in (option_copied rest))) (sym c.in-Some.is)
      ∙ c.loop-rest.invariant.errors)
      c.first_piece.ensures.pieces c.in_ok-run_line.ensures.errors c.in_ok-run_line.ensures.stage;
  all = c.in_ok-run_line.ensures.all ∙ c.loop-rest.invariant.all;
  listed = ap (λ s. s.world.entries) c.in_ok-run_line.ensures.stage ∙ c.loop-rest.invariant.listed;
}
