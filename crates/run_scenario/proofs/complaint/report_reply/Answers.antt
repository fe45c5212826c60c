-- The front, the pieces of the message, and the end.
use Rattle.run_scenario.specs.Complaints.{reply_pieces}
use Rattle.run_scenario.proofs.ComplaintLemmas.{diagnostic_written, front_unwritten, pieces_unwritten}
use Rattle.run_scenario.proofs.complaint.report_reply.Goals as goal

pub returns-in_err-begin-clause-writes : goal.returns-in_err-begin-clause-writes
returns-in_err-begin-clause-writes g c = front_unwritten _ _ _ _ (reply_pieces c.args.answer.outcome c.args.answer.reply.now c.args.expected.now) _ _ _ c.new-diagnostics.ensures _ c.from_residual.ensures.1 c.in_err-begin.ensures.output

pub returns-in_err-put_replies-clause-writes : goal.returns-in_err-put_replies-clause-writes
returns-in_err-put_replies-clause-writes g c =
    pieces_unwritten _ _ _ _ (reply_pieces c.args.answer.outcome c.args.answer.reply.now c.args.expected.now) _ _ _ c.new-diagnostics.ensures _ _ c.in_ok-begin.ensures.subject c.in_ok-begin.ensures.output _ c.from_residual-in_err-put_replies.ensures.1 c.in_err-put_replies.ensures.output

pub returns-clause-writes : goal.returns-clause-writes
returns-clause-writes g c =
    diagnostic_written _ _ _ _ (reply_pieces c.args.answer.outcome c.args.answer.reply.now c.args.expected.now) _ _ _ c.new-diagnostics.ensures _ _ c.in_ok-begin.ensures.subject c.in_ok-begin.ensures.output _ _ _ c.in_ok-put_replies.ensures.subject c.in_ok-put_replies.ensures.output c.end.ensures.output c.end.ensures.empty
