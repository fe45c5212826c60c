-- The cells are those of the decision, one by one.
use Rattle.std.proofs.Common.{◌≡◌, ◌++◌, ◌∷◌, ◌∙◌, [], ap, codes, subst}
use Rattle.std.specs.Prelude.{OnOk}
use Rattle.std.specs.Option.{option_map}
use Rattle.own_model.specs.Listed.{ListedEntry}
use Rattle.view_records.specs.Lists.{records_of}
use Rattle.view_records.specs.Records.{Record, if_text, null_if_absent, text}
use Rattle.list_tree.proofs.records.add_decided.Goals as goal

pub returns : goal.returns
returns c =
    let server = c.path_cell.ensures ∙ ap (λ s. null_if_absent (if_text (option_map (λ (entry : ListedEntry). entry.path) s))) c.server_of.ensures in
    let label = c.label_cell.ensures ∙ ap (λ l. null_if_absent (if_text l)) c.label_of.ensures in
    subst (λ (cells : Record). OnOk c.add.result (records_of c.add.new.self ≡ records_of c.args.records.now ++ cells ∷ []))
    (λ i.
    (codes "kind", text (codes "wish")) ∷ (codes "name", text (c.path.ensures.path i)) ∷ (codes "service", text c.args.one.now.service.now)
    ∷ (codes "to", server i) ∷ (codes "by", text (c.requires i)) ∷ (codes "label", label i) ∷ [])
    c.add.ensures
