-- The cells are those of the breach, one by one.
use Rattle.std.proofs.Common.{◌≡◌, ◌++◌, ◌∷◌, ◌∙◌, [], ap, codes, subst}
use Rattle.std.specs.Prelude.{OnOk}
use Rattle.view_records.specs.Lists.{records_of}
use Rattle.view_records.specs.Records.{Record, number, text}
use Rattle.list_diff.specs.Breaches.{change_at}
use Rattle.list_diff.specs.PlacedBreaches.{BreachAt}
use Rattle.list_diff.proofs.records.add_breach.Goals as goal

pub returns : goal.returns
returns c =
    let line : c.breach.inside.line ≡ (change_at c.args.change.now).breach.place.line =
    ap (λ (b : BreachAt). b.place.line) (c.breach.view_is ∙ c.breach-breach.ensures) in
    let column : c.breach.inside.column ≡ (change_at c.args.change.now).breach.place.column =
    ap (λ (b : BreachAt). b.place.column) (c.breach.view_is ∙ c.breach-breach.ensures) in
    let message = c.as_str.ensures.value ∙ ap (λ (b : BreachAt). b.text) (c.breach.view_is ∙ c.breach-breach.ensures) in
    subst (λ (cells : Record). OnOk c.add.result (records_of c.add.new.self ≡ records_of c.args.records.now ++ cells ∷ []))
    (λ i.
    (codes "kind", text (codes "breach")) ∷ (codes "change", text (c.sign_of.ensures i)) ∷ (codes "line", number (line i))
    ∷ (codes "column", number (column i)) ∷ (codes "text", text (message i)) ∷ [])
    c.add.ensures
