-- A kind with a name is found exactly if one has it.
use Rattle.std.proofs.Common.{ap, ◌∙◌}
use Rattle.std.specs.List.{list_any}
use Rattle.own_model.specs.ObjectKinds.{is_kind}
use Rattle.list_parser.proofs.KindLemmas.{kind_found}
use Rattle.list_parser.proofs.kinds.has_name_of.Goals as goal

pub returns : goal.returns
returns c = c.has_name.ensures ∙ ap (λ name. list_any (is_kind name) c.args.kinds.now) c.name.ensures.text ∙ kind_found c.args.other.now.name c.args.kinds.now
