-- The words and the reply, and then its bytes.
use Rattle.std.proofs.Common.{[], ◌∷◌, cond, None}
use Rattle.std.specs.Prelude.{codes}
use Rattle.own_model.specs.Text.{hex_bytes}
use Rattle.run_scenario.specs.Complaints.{bracket_pieces, last_token, shown_bytes}
use Rattle.run_scenario.proofs.ComplaintLemmas.{pieces_lost, pieces_then}
use Rattle.run_scenario.proofs.complaint.put_reply.Goals as goal

pub returns-in_err-put_all-clause-output : goal.returns-in_err-put_all-clause-output
returns-in_err-put_all-clause-output g c =
    pieces_lost c.args.diagnostics.now (c.args.words.now ∷ c.args.reply.now ∷ codes "`" ∷ []) (bracket_pieces (cond c.args.has_bytes (shown_bytes (hex_bytes (last_token c.args.reply.now))) None)) _ _ _
    c.from_residual.ensures.1 c.in_err-put_all.ensures.output

pub returns-clause-output : goal.returns-clause-output
returns-clause-output g c =
    pieces_then c.args.diagnostics.now (c.args.words.now ∷ c.args.reply.now ∷ codes "`" ∷ []) (bracket_pieces (cond c.args.has_bytes (shown_bytes (hex_bytes (last_token c.args.reply.now))) None)) _
    c.put_all.new.diagnostics _ _ c.in_ok-put_all.ensures.subject c.in_ok-put_all.ensures.output (rw c.bytes_in.ensures at c.put_bytes.ensures.output)
