-- The entry is written, and what is so of entries doesn't hang on it.
use Rattle.std.proofs.Common.{List, ap, refl, ◌∙◌}
use Rattle.std.specs.Option.{option_map}
use Rattle.core_calls.specs.Quotas.{reserve_amounts}
use Rattle.own_model.specs.Listed.{ListedEntry}
use Rattle.list_parser.specs.Budgets.{entry_with_reserve, with_reserve}
use Rattle.list_parser.specs.contracts.list.StartList.{the_view}
use Rattle.list_parser.proofs.BudgetLemmas.{written, written_firsts, written_homes, written_services}
use Rattle.list_parser.proofs.list.StartList.set_reserve.Goals as goal

pub invariant_of-self : goal.invariant_of-self
invariant_of-self c =
    let change : ListedEntry → ListedEntry = entry_with_reserve (option_map reserve_amounts c.args.reserve) in
    let is = c.entry.view_is ∙ c.index_mut-entry.ensures.value in (
      c.self.invariant.0,
      written_homes c.self.inside.entries.items c.args.component _ _ is change (λ _. refl) c.self.invariant.1,
      written_firsts c.self.inside.entries.items c.args.component _ _ is change (λ _. refl) c.self.inside.finder.firsts c.self.invariant.2,
      written_services c.self.inside.entries.items c.args.component _ _ is change (λ _. refl) c.self.inside.declared.items c.self.invariant.3,
    )

pub returns : goal.returns
returns c =
    let change : ListedEntry → ListedEntry = entry_with_reserve (option_map reserve_amounts c.args.reserve) in
    ap (λ (es : List ListedEntry). record (the_view c.self.inside) { entries = es })
    (written c.self.inside.entries.items c.args.component _ _ (c.entry.view_is ∙ c.index_mut-entry.ensures.value) change (λ _. refl))
    ∙ ap (λ l. with_reserve l c.args.component (option_map reserve_amounts c.args.reserve)) c.self.view_is
