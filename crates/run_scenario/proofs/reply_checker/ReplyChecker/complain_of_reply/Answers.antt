-- The error is written, unless a write fails.
use Rattle.run_scenario.specs.Complaints.{reply_pieces}
use Rattle.run_scenario.proofs.ReportLemmas.{report_failed, reported}
use Rattle.run_scenario.proofs.reply_checker.ReplyChecker.complain_of_reply.Goals as goal

pub returns-in_err-report_reply-clause-reports : goal.returns-in_err-report_reply-clause-reports
returns-in_err-report_reply-clause-reports g c = report_failed _ _ _ _ _ _ c.from_residual.ensures.1

pub returns-clause-reports : goal.returns-clause-reports
returns-clause-reports g c =
    reported _ _ _ (reply_pieces c.args.answer.outcome c.args.answer.reply.now c.args.expected.now) _ _ c.in_ok-report_reply.ensures.writes
