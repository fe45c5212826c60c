-- The bytes between their brackets.
use Rattle.std.proofs.Common.{[], ◌∷◌, ◌++◌, map}
use Rattle.std.specs.Prelude.{codes}
use Rattle.own_model.specs.Text.{hex_bytes}
use Rattle.run_scenario.specs.Complaints.{message_character}
use Rattle.run_scenario.proofs.ComplaintLemmas.{pieces_lost, pieces_then}
use Rattle.run_scenario.proofs.complaint.put_bytes.Goals as goal

pub returns-in_err-put_all-clause-output : goal.returns-in_err-put_all-clause-output
returns-in_err-put_all-clause-output g c =
    let text = map message_character (hex_bytes c.in-Some.bytes.hex.now) in
    rw c.in-Some.is (pieces_lost c.args.diagnostics.now (codes " (\"" ∷ []) (text ++ codes "\")" ∷ []) _ _ _ c.from_residual.ensures.1 c.in_err-put_all.ensures.output)

pub returns-in_err-put_in_message-clause-output : goal.returns-in_err-put_in_message-clause-output
returns-in_err-put_in_message-clause-output g c =
    let text = map message_character (hex_bytes c.in-Some.bytes.hex.now) in
    rw c.in-Some.is
    (pieces_then c.args.diagnostics.now (codes " (\"" ∷ []) (text ++ codes "\")" ∷ []) _ c.put_all.new.diagnostics _ _ c.in_ok-put_all.ensures.subject c.in_ok-put_all.ensures.output
    (pieces_lost c.put_all.new.diagnostics text (codes "\")" ∷ []) _ _ _ c.from_residual-in_err-put_in_message.ensures.1 c.in_err-put_in_message.ensures.output))

pub returns-clause-output : goal.returns-clause-output
returns-clause-output g c =
    let text = map message_character (hex_bytes c.in-Some.bytes.hex.now) in
    rw c.in-Some.is
    (pieces_then c.args.diagnostics.now (codes " (\"" ∷ []) (text ++ codes "\")" ∷ []) _ c.put_all.new.diagnostics _ _ c.in_ok-put_all.ensures.subject c.in_ok-put_all.ensures.output
    (pieces_then c.put_all.new.diagnostics text (codes "\")" ∷ []) _ c.put_in_message.new.diagnostics _ _ c.in_ok-put_in_message.ensures.subject c.in_ok-put_in_message.ensures.output c.put_all-2.ensures.output))
