-- The cells are those of the part, one by one.
use Rattle.std.proofs.Common.{◌≡◌, ◌++◌, ◌∷◌, [], codes, subst}
use Rattle.std.specs.Prelude.{OnOk}
use Rattle.view_records.specs.Lists.{records_of}
use Rattle.view_records.specs.Records.{Record, number, text}
use Rattle.view_coverage.proofs.records.add_part.Goals as goal

pub returns : goal.returns
returns c =
    let name = c.name_cells.ensures in
    subst (λ (cells : Record). OnOk c.add.result (records_of c.add.new.self ≡ records_of c.args.records.now ++ cells ∷ []))
    (λ i.
    (codes "kind", text (c.kind_of_part.ensures i)) ∷ (codes "list", text (c.path_at.ensures i))
    ∷ (codes "scenarios", number (c.times_of.ensures i)) ∷ (codes "rule", name.rule i) ∷ (codes "script", name.script i)
    ∷ (codes "service", name.service i) ∷ [])
    c.add.ensures
