-- A name that the machine does not have built in is one that is declared.
use Rattle.std.proofs.Common.{◌||◌, sym, ap, ◌∙◌}
use Rattle.std.specs.List.{list_any}
use Rattle.std.specs.Str.{bytes_eq}
use Rattle.list_parser.proofs.ServiceLemmas.{any_of_names}
use Rattle.list_parser.proofs.list_service.has_name.Goals as goal

pub returns-else-is_built_in : goal.returns-else-is_built_in
returns-else-is_built_in c =
    c.is_declared.ensures
    ∙ sym (any_of_names c.args.name.now c.args.declared.now
    ∙ ap (λ b. b || list_any (bytes_eq c.args.name.now) c.args.declared.now) (sym c.is_built_in.ensures ∙ c.if-is_built_in.false))
