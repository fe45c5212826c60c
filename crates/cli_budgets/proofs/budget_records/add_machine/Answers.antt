-- The cells are those of the sum and of the machine, one by one.
use Rattle.std.proofs.Common.{◌≡◌, ◌++◌, ◌∷◌, [], codes, subst}
use Rattle.std.specs.Prelude.{OnOk}
use Rattle.view_records.specs.Lists.{records_of}
use Rattle.view_records.specs.Records.{Record, text}
use Rattle.cli_budgets.proofs.budget_records.add_machine.Goals as goal

pub returns : goal.returns
returns c =
    let sum = c.budget_cells.ensures in
    let size = c.size_cells.ensures in
    subst (λ (cells : Record). OnOk c.add.result (records_of c.add.new.self ≡ records_of c.args.records.now ++ cells ∷ []))
    (λ i.
    (codes "kind", text (codes "machine")) ∷ (codes "ram", sum.ram i) ∷ (codes "caps", sum.caps i) ∷ (codes "machine_pages", size.pages i)
    ∷ (codes "machine_caps", size.caps i) ∷ [])
    c.add.ensures
