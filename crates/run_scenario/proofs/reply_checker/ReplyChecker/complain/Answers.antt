-- The error is written, unless a write fails.
use Rattle.run_scenario.proofs.ReportLemmas.{report_failed, reported}
use Rattle.run_scenario.proofs.reply_checker.ReplyChecker.complain.Goals as goal

pub returns-in_err-report-clause-reports : goal.returns-in_err-report-clause-reports
returns-in_err-report-clause-reports g c = report_failed _ _ _ _ _ _ c.from_residual.ensures.1

pub returns-clause-reports : goal.returns-clause-reports
returns-clause-reports g c = reported _ _ _ _ _ _ c.in_ok-report.ensures.writes
