-- The cells are those of the row, one by one.
use Rattle.std.proofs.Common.{◌≡◌, ◌++◌, ◌∷◌, ◌∙◌, [], ap, codes, refl, subst}
use Rattle.std.specs.Prelude.{IfOk}
use Rattle.own_model.specs.Account.{Account}
use Rattle.serde_json.specs.Written.{compact_text}
use Rattle.view_records.specs.JsonTexts.{object_of}
use Rattle.view_records.specs.Records.{Record, if_text, null_if_absent, number, text}
use Rattle.view_runs.specs.JsonRows.{figure_cell}
use Rattle.view_runs.proofs.json_rows.add_row.Goals as goal

pub add_object-requires : goal.add_object-requires
add_object-requires c = refl

pub returns : goal.returns
returns c =
    let row = c.args.row in
    let own = c.account_cells-own.ensures in
    let session = c.account_cells-session.ensures in
    let selector = c.session_parts-account.ensures.selector in
    let account = c.session_parts-account.ensures.account in
    let caps_limit = session.caps_limit ∙ ap (figure_cell (λ (a : Account). a.caps_limit)) account in
    let caps_used = session.caps_used ∙ ap (figure_cell (λ (a : Account). a.caps_used)) account in
    let ram_limit = session.ram_limit ∙ ap (figure_cell (λ (a : Account). a.ram_limit)) account in
    let ram_used = session.ram_used ∙ ap (figure_cell (λ (a : Account). a.ram_used)) account in
    let shown = c.or_null.ensures ∙ ap null_if_absent (c.if_text.ensures ∙ ap if_text c.requires) in
    subst (λ (cells : Record). IfOk c.add_object.result (λ more. more.items ≡ c.args.line.items ++ compact_text (object_of cells)))
    (λ i.
    (codes "call", text row.call.now) ∷ (codes "caps_limit", own.caps_limit i) ∷ (codes "caps_used", own.caps_used i)
    ∷ (codes "component", text row.component.now) ∷ (codes "line", number row.number)
    ∷ (codes "ram_limit", own.ram_limit i) ∷ (codes "ram_used", own.ram_used i) ∷ (codes "reply", text row.reply.now)
    ∷ (codes "session", selector i) ∷ (codes "session_caps_limit", caps_limit i) ∷ (codes "session_caps_used", caps_used i)
    ∷ (codes "session_ram_limit", ram_limit i) ∷ (codes "session_ram_used", ram_used i) ∷ (codes "text", shown i) ∷ [])
    c.add_object.ensures
