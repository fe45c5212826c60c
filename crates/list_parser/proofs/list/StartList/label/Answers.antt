-- An entry has the label that the model's entry has.
use Rattle.std.proofs.Common.{◌≡◌, ◌∙◌, get_or, ap, arith}
use Rattle.list_parser.proofs.ListLemmas.{same_entry}
use Rattle.list_parser.proofs.list.StartList.label.Goals as goal

pub returns-clause-listed : goal.returns-clause-listed
returns-clause-listed c =
    let labelled : c.label.result.now ≡ (get_or c.args.self.now.entries c.args.component c.index.result.now).label = grind (arith) in
    labelled ∙ ap (λ entry. entry.label) (same_entry c.args.self.now c.args.component c.index.result.now c.requires)
