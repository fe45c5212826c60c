-- A script with the budget of its entry, or another component.
use Rattle.std.proofs.Common.{◌≡◌, get_or, length, Some, refl, sym, subst, ◌∙◌}
use Rattle.std.specs.List.{slice_get}
use Rattle.std.proofs.lemmas.Option.{slice_get_read}
use Rattle.budget_search.proofs.AlikeLemmas.{given_told, is_script, not_script}
use Rattle.budget_search.proofs.script_search.ScriptSearch.of.Goals as goal

pub returns-then-not-is_script-clause-other : goal.returns-then-not-is_script-clause-other
returns-then-not-is_script-clause-other c = λ script.
    let list = c.args.list.now in
    let component = c.args.component in
    let entry = c.index-entries-component.result in
    let there : slice_get list.entries component ≡ Some entry =
    slice_get_read list.entries (length list.entries) component entry refl c.requires
    (subst (λ es. entry ≡ get_or es component entry) c.entries.ensures c.index-entries-component.is) in
    not_script list component entry there (sym c.is_script.ensures ∙ c.if-not-is_script.true) script

pub returns-clause-given : goal.returns-clause-given
returns-clause-given c =
    let list = c.args.list.now in
    let component = c.args.component in
    let entry = c.index-entries-component.result in
    let there : slice_get list.entries component ≡ Some entry =
    slice_get_read list.entries (length list.entries) component entry refl c.requires
    (subst (λ es. entry ≡ get_or es component entry) c.entries.ensures c.index-entries-component.is) in
    given_told list component entry there c.budget_of.result c.budget_of.ensures.ram c.budget_of.ensures.caps

pub returns-clause-script : goal.returns-clause-script
returns-clause-script c =
    let list = c.args.list.now in
    let component = c.args.component in
    let entry = c.index-entries-component.result in
    let there : slice_get list.entries component ≡ Some entry =
    slice_get_read list.entries (length list.entries) component entry refl c.requires
    (subst (λ es. entry ≡ get_or es component entry) c.entries.ensures c.index-entries-component.is) in
    is_script list component entry there (sym c.is_script.ensures ∙ c.if-not-is_script.false)
