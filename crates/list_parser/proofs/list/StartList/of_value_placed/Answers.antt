-- The services are those of the entries that were read.
use Rattle.std.proofs.Common.{rules, List, subst}
use Rattle.own_model.specs.Listed.{ListedEntry}
use Rattle.list_parser.specs.PathIndex.{AreFirst}
use Rattle.list_parser.specs.Services.{AreServices}
use Rattle.list_parser.proofs.list.StartList.of_value_placed.Goals as goal

pub invariant_of-result : goal.invariant_of-result
invariant_of-result c = (
  search rules,
  c.in_ok-read_list.ensures.grow.homes,
  subst (λ (entries : List ListedEntry). AreFirst c.of.result.firsts entries) c.as_slice-2.ensures.value c.of.ensures,
  subst (λ (entries : List ListedEntry). AreServices c.in_ok-declared_names.field-0.items entries) c.as_slice.ensures.value c.in_ok-declared_names.ensures,
)
