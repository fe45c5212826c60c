-- The cells are those of the pair, one by one.
use Rattle.std.proofs.Common.{◌≡◌, ◌++◌, ◌∷◌, [], codes, subst}
use Rattle.std.specs.Prelude.{OnOk}
use Rattle.view_records.specs.JsonTexts.{list_data}
use Rattle.view_records.specs.Lists.{records_of}
use Rattle.view_records.specs.Records.{Record, list, text}
use Rattle.cli_lists.proofs.reach_documents.add_pair.Goals as goal

pub returns : goal.returns
returns c =
    rw (c.in-Some-Some.is-0, c.in-Some-Some.is-1)
    (subst (λ (cells : Record). OnOk c.add.result (records_of c.add.new.self ≡ records_of c.args.records.now ++ cells ∷ []))
    (λ i.
    (codes "from", text (c.path.ensures.path i)) ∷ (codes "service", text c.args.cell.now.service.now) ∷ (codes "to", text (c.path-2.ensures.path i))
    ∷ (codes "reach", text (c.reach_word.ensures i)) ∷ (codes "label", c.label_of.ensures i)
    ∷ (codes "labels", list (list_data (c.requires i))) ∷ (codes "witness", c.witness_of.ensures i) ∷ [])
    c.add.ensures)
