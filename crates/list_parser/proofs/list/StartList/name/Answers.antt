-- An entry has the name that the model's entry has.
use Rattle.std.proofs.Common.{◌≡◌, ◌∙◌, get_or, ap, arith}
use Rattle.list_parser.proofs.ListLemmas.{same_entry}
use Rattle.list_parser.proofs.list.StartList.name.Goals as goal

pub returns-clause-listed : goal.returns-clause-listed
returns-clause-listed c =
    let named : c.path.result.now ≡ (get_or c.args.self.now.entries c.args.component c.index.result.now).path = grind (arith) in
    named ∙ ap (λ entry. entry.name) (same_entry c.args.self.now c.args.component c.index.result.now c.requires)
