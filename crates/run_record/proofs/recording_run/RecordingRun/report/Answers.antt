-- One error more, if the call isn't understood.
use Rattle.std.proofs.Common.{sym, ◌∙◌}
use Rattle.run_record.proofs.ErrorLemmas.{none_missed, one_missed}
use Rattle.run_record.proofs.recording_run.RecordingRun.report.Goals as goal

pub returns-then-not-is_missed-clause-errors : goal.returns-then-not-is_missed-clause-errors
returns-then-not-is_missed-clause-errors c = none_missed _ _ _ (sym c.is_missed.ensures ∙ c.if-not-is_missed.true)

pub returns-clause-errors : goal.returns-clause-errors
returns-clause-errors c =
    one_missed _ _ c.in_ok-error.error c.args.self.now.position.number _ c.in_ok-push.ensures.items (c.in_ok-error.ensures ∙ c.number-number.ensures)
    (sym c.is_missed.ensures ∙ c.if-not-is_missed.false)
