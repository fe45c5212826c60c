-- The cells are those of the component, one by one.
use Rattle.std.proofs.Common.{◌≡◌, ◌++◌, ◌∷◌, ◌∙◌, [], ap, codes, subst}
use Rattle.std.specs.Prelude.{OnOk}
use Rattle.std.specs.Option.{option_map}
use Rattle.own_model.specs.Amounts.{Amounts}
use Rattle.list_parts.specs.Kinds.{binary_word}
use Rattle.view_records.specs.Lists.{records_of}
use Rattle.view_records.specs.Records.{Record, if_list, if_number, number, text}
use Rattle.list_tree.proofs.records.add_declared.Goals as goal

pub returns : goal.returns
returns c =
    let binary = c.binary_word.ensures ∙ ap binary_word c.binary.ensures in
    let caps = c.from.ensures ∙ c.caps.ensures in
    let reserve_ram = c.reserve_cells.ensures.ram ∙ ap (λ r. if_number (option_map (λ (left : Amounts). left.ram) r)) c.reserve.ensures in
    let reserve_caps = c.reserve_cells.ensures.caps ∙ ap (λ r. if_number (option_map (λ (left : Amounts). left.caps) r)) c.reserve.ensures in
    let kinds = c.if_list.ensures ∙ ap if_list c.requires in
    subst (λ (cells : Record). OnOk c.add.result (records_of c.add.new.self ≡ records_of c.args.records.now ++ cells ∷ []))
    (λ i.
    (codes "kind", text (codes "component")) ∷ (codes "name", text (c.path.ensures.path i)) ∷ (codes "binary", text (binary i))
    ∷ (codes "ram", number (c.ram.ensures i)) ∷ (codes "caps", number (caps i))
    ∷ (codes "reserve_ram", reserve_ram i) ∷ (codes "reserve_caps", reserve_caps i)
    ∷ (codes "keeps_ram", c.keeps_cells.ensures.ram i) ∷ (codes "keeps_caps", c.keeps_cells.ensures.caps i)
    ∷ (codes "provides", c.provided_cell.ensures i) ∷ (codes "kinds", kinds i) ∷ [])
    c.add.ensures
