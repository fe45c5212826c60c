-- Up to the most that the reserve leaves.
use Rattle.std.proofs.Common.{◌-◌, ap, subst, ◌∙◌}
use Rattle.own_model.specs.Amounts.{Amounts}
use Rattle.budget_search.specs.Alike.{most_in}
use Rattle.budget_search.specs.BudgetIntervals.{AreOrdered, FailsWithin}
use Rattle.budget_search.specs.NoBudgets.{IsUnbooted}
use Rattle.budget_search.proofs.FaultLemmas.{large_within, passed_on}
use Rattle.budget_search.specs.Own.{suffices_with, AreExact}
use Rattle.budget_search.proofs.SafeLemmas.{has_least, has_safe}
use Rattle.budget_search.proofs.script_search.ScriptSearch.own.Goals as goal

pub returns-clause-exact : goal.returns-clause-exact
returns-clause-exact c = λ script.
    let list = c.args.self.now.list.now in
    let component = c.args.self.now.component in
    let ram = c.most_beside-most.ensures.ram ∙ ap (λ (reserve : Amounts). 16777216 - reserve.ram) c.reserve_of-reserve.ensures in
    let caps = c.most_beside-most.ensures.caps ∙ ap (λ (reserve : Amounts). 4096 - reserve.caps) c.reserve_of-reserve.ensures in
    subst (λ n. AreExact list component c.args.steps.now n (most_in list component).ram c.in_ok-found.found.rows.items) caps
    (subst (λ n. AreExact list component c.args.steps.now c.most_beside-most.result.caps n c.in_ok-found.found.rows.items) ram (c.in_ok-found.ensures.exact script))

pub returns-clause-least : goal.returns-clause-least
returns-clause-least c = λ script.
    let list = c.args.self.now.list.now in
    let component = c.args.self.now.component in
    let ram = c.most_beside-most.ensures.ram ∙ ap (λ (reserve : Amounts). 16777216 - reserve.ram) c.reserve_of-reserve.ensures in
    let caps = c.most_beside-most.ensures.caps ∙ ap (λ (reserve : Amounts). 4096 - reserve.caps) c.reserve_of-reserve.ensures in
    has_least (suffices_with list component c.args.steps.now) (most_in list component) c.in_ok-found.found.rows.items
    (subst (λ n. AreOrdered n (most_in list component).ram c.in_ok-found.found.rows.items) caps
    (subst (λ n. AreOrdered c.most_beside-most.result.caps n c.in_ok-found.found.rows.items) ram (c.in_ok-found.ensures.ordered script)))
    (returns-clause-exact c script)

pub returns-clause-safe : goal.returns-clause-safe
returns-clause-safe c = λ script.
    let list = c.args.self.now.list.now in
    let component = c.args.self.now.component in
    let ram = c.most_beside-most.ensures.ram ∙ ap (λ (reserve : Amounts). 16777216 - reserve.ram) c.reserve_of-reserve.ensures in
    let caps = c.most_beside-most.ensures.caps ∙ ap (λ (reserve : Amounts). 4096 - reserve.caps) c.reserve_of-reserve.ensures in
    has_safe (suffices_with list component c.args.steps.now) (most_in list component) c.in_ok-found.found.rows.items
    (subst (λ n. AreOrdered n (most_in list component).ram c.in_ok-found.found.rows.items) caps
    (subst (λ n. AreOrdered c.most_beside-most.result.caps n c.in_ok-found.found.rows.items) ram (c.in_ok-found.ensures.ordered script)))
    (returns-clause-exact c script)

pub returns-in_err-found-clause-fault : goal.returns-in_err-found-clause-fault
returns-in_err-found-clause-fault c =
    let list = c.args.self.now.list.now in
    let component = c.args.self.now.component in
    let ram = c.most_beside-most.ensures.ram ∙ ap (λ (reserve : Amounts). 16777216 - reserve.ram) c.reserve_of-reserve.ensures in
    let caps = c.most_beside-most.ensures.caps ∙ ap (λ (reserve : Amounts). 4096 - reserve.caps) c.reserve_of-reserve.ensures in
    passed_on _ _ c.from_residual.result c.from_residual.ensures.1
    (λ other script.
    large_within list component c.in_err-found.field-0.0 script
    (subst (λ n. FailsWithin (λ below its. IsUnbooted list component (record { ram = below; caps = n }) its) (most_in list component).ram c.in_err-found.field-0.0) caps
    (subst (λ n. FailsWithin (λ below its. IsUnbooted list component (record { ram = below; caps = c.most_beside-most.result.caps }) its) n c.in_err-found.field-0.0) ram
    (c.in_err-found.ensures.fault other script))))
