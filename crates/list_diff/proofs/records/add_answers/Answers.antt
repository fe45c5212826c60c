-- The cells are those of the reply, one by one.
use Rattle.std.proofs.Common.{◌≡◌, ◌++◌, ◌∷◌, ◌∙◌, [], ap, ap₂, codes, subst}
use Rattle.std.specs.Prelude.{OnOk}
use Rattle.view_records.specs.Lists.{records_of}
use Rattle.view_records.specs.Records.{Record, number, text}
use Rattle.list_diff.specs.Records.{reason_cell, reply_cell}
use Rattle.list_diff.proofs.records.add_answers.Goals as goal

pub returns : goal.returns
returns c =
    let reply = c.reply_cells.ensures.reply ∙ ap reply_cell c.answer_to.ensures in
    let reason = c.reply_cells.ensures.reason ∙ ap₂ reason_cell c.answer_to.ensures c.requires.now in
    let old_reply = c.reply_cells-2.ensures.reply ∙ ap reply_cell c.answer_to-2.ensures in
    let old_reason = c.reply_cells-2.ensures.reason ∙ ap₂ reason_cell c.answer_to-2.ensures c.requires.was in
    subst (λ (cells : Record). OnOk c.add.result (records_of c.add.new.self ≡ records_of c.args.records.now ++ cells ∷ []))
    (λ i.
    (codes "kind", text (codes "reply")) ∷ (codes "change", text c.args.sign.now) ∷ (codes "line", number (c.number_of.ensures i))
    ∷ (codes "name", text (c.name.ensures i)) ∷ (codes "call", text (c.call.ensures i)) ∷ (codes "reply", reply i)
    ∷ (codes "reason", reason i) ∷ (codes "was_reply", old_reply i) ∷ (codes "was_reason", old_reason i) ∷ [])
    c.add.ensures
