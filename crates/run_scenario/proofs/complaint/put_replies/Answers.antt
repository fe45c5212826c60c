-- The expected reply, the one that was found, and the difference, of which a write may fail.
use Rattle.std.proofs.Common.{◌++◌}
use Rattle.run_scenario.specs.Complaints.{difference, difference_pieces, expected_pieces, found_pieces}
use Rattle.run_scenario.proofs.ComplaintLemmas.{pieces_lost, pieces_then}
use Rattle.run_scenario.proofs.complaint.put_replies.Goals as goal

pub returns-in_err-put_reply-clause-output : goal.returns-in_err-put_reply-clause-output
returns-in_err-put_reply-clause-output g c =
    let reply = c.args.answer.reply.now in
    let expected = c.args.expected.now in
    pieces_lost c.args.diagnostics.now (expected_pieces expected) (found_pieces c.args.answer.outcome reply expected ++ difference_pieces (difference reply expected)) _ _ _
    c.from_residual.ensures.1 (rw c.is_data.ensures at c.in_err-put_reply.ensures.output)

pub returns-in_err-put_reply-2-clause-output : goal.returns-in_err-put_reply-2-clause-output
returns-in_err-put_reply-2-clause-output g c =
    let reply = c.args.answer.reply.now in
    let expected = c.args.expected.now in
    pieces_then c.args.diagnostics.now (expected_pieces expected) (found_pieces c.args.answer.outcome reply expected ++ difference_pieces (difference reply expected)) _
    c.put_reply.new.diagnostics _ _ c.in_ok-put_reply.ensures.subject (rw c.is_data.ensures at c.in_ok-put_reply.ensures.output)
    (pieces_lost c.put_reply.new.diagnostics (found_pieces c.args.answer.outcome reply expected) (difference_pieces (difference reply expected)) _ _ _
    c.from_residual-in_err-put_reply-2.ensures.1 (rw c.has_bytes-shows.ensures at c.in_err-put_reply-2.ensures.output))

pub returns-clause-output : goal.returns-clause-output
returns-clause-output g c =
    let reply = c.args.answer.reply.now in
    let expected = c.args.expected.now in
    pieces_then c.args.diagnostics.now (expected_pieces expected) (found_pieces c.args.answer.outcome reply expected ++ difference_pieces (difference reply expected)) _
    c.put_reply.new.diagnostics _ _ c.in_ok-put_reply.ensures.subject (rw c.is_data.ensures at c.in_ok-put_reply.ensures.output)
    (pieces_then c.put_reply.new.diagnostics (found_pieces c.args.answer.outcome reply expected) (difference_pieces (difference reply expected)) _
    c.put_reply-2.new.diagnostics _ _ c.in_ok-put_reply-2.ensures.subject (rw c.has_bytes-shows.ensures at c.in_ok-put_reply-2.ensures.output) c.put_difference.ensures.output)
