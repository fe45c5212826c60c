-- An entry has the init that the model's entry has, and that is before it.
use Rattle.std.proofs.Common.{◌≡◌, ◌∙◌, get_or, ap, arith}
use Rattle.list_parser.proofs.DepthLemmas.{home_at}
use Rattle.list_parser.proofs.ListLemmas.{same_entry}
use Rattle.list_parser.proofs.list.StartList.home.Goals as goal

pub returns-clause-listed : goal.returns-clause-listed
returns-clause-listed c =
    let at_home : c.home.result ≡ (get_or c.args.self.now.entries c.args.component c.index.result.now).home = grind (arith) in
    at_home ∙ ap (λ entry. entry.home) (same_entry c.args.self.now c.args.component c.index.result.now c.requires)

pub returns-clause-home : goal.returns-clause-home
returns-clause-home c = grind (arith, home_at c.self.inside.entries.items c.args.component c.index.result.now c.self.invariant.1)
