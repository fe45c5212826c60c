-- The cells are those of the component, one by one.
use Rattle.std.proofs.Common.{◌≡◌, ◌++◌, ◌∷◌, [], codes, subst}
use Rattle.std.specs.Prelude.{OnOk}
use Rattle.view_records.specs.Lists.{records_of}
use Rattle.view_records.specs.Records.{Record, number, text}
use Rattle.list_diff.proofs.records.add_need.Goals as goal

pub returns : goal.returns
returns c =
    let change = c.args.change.now in
    subst (λ (cells : Record). OnOk c.add.result (records_of c.add.new.self ≡ records_of c.args.records.now ++ cells ∷ []))
    (λ i.
    (codes "kind", text (codes "need")) ∷ (codes "change", text (codes "~")) ∷ (codes "name", text change.now.name.now)
    ∷ (codes "needs_ram", c.needed.ensures.ram i) ∷ (codes "needs_caps", c.needed.ensures.caps i)
    ∷ (codes "ram", number change.now.has.ram) ∷ (codes "caps", number change.now.has.caps)
    ∷ (codes "was_ram", number change.had.ram) ∷ (codes "was_caps", number change.had.caps) ∷ [])
    c.add.ensures
