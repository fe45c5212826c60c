-- A path is found where the model's entries have it.
use Rattle.std.proofs.Common.{◌≡◌, ◌∙◌, arith}
use Rattle.std.specs.List.{position}
use Rattle.std.specs.Str.{bytes_eq}
use Rattle.list_parser.proofs.ListLemmas.{same_place}
use Rattle.list_parser.proofs.list.StartList.find.Goals as goal

pub returns-clause-listed : goal.returns-clause-listed
returns-clause-listed c =
    let found : c.find.result ≡ position (λ entry. bytes_eq entry.path c.args.name.now) c.args.self.now.entries = grind (arith) in
    found ∙ same_place c.args.self.now c.args.name.now
