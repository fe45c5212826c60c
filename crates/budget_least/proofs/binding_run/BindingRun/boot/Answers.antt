-- The machine doesn't boot.
use Rattle.std.proofs.Common.{arith, ◌≡◌, ◌<◌, inl, inr, length, sym, subst, Some}
use Rattle.std.proofs.lemmas.Option.{slice_get_cases}
use Rattle.std.specs.List.{slice_get}
use Rattle.own_model.specs.Listed.{Listed, ListedEntry}
use Rattle.budget_search.proofs.FaultLemmas.{large_here, passed_on, unbooted}
use Rattle.budget_search.specs.Alike.{most_in}
use Rattle.budget_search.specs.NoBudgets.{LacksBudgets}
use Rattle.budget_least.proofs.BoundRunLemmas.{within_most}
use Rattle.budget_least.specs.BoundRuns.{budget_in, written_budget}
use Rattle.budget_least.proofs.binding_run.BindingRun.boot.Goals as goal

pub returns-in_err-core-clause-fault : goal.returns-in_err-core-clause-fault
returns-in_err-core-clause-fault c =
    passed_on _ _ c.from_residual-in_err-core.result c.from_residual-in_err-core.ensures.1
    (λ other.
    let list = c.list.result.now in
    let component = c.args.component in
    let within : component < length list.entries = subst (λ (l : Listed). component < length l.entries) (sym c.list.ensures) c.requires in
    let entry : (entry : ListedEntry) × (slice_get list.entries component ≡ Some entry) =
    elim (slice_get_cases list.entries component).1 [ inl here ↦ (here.0, here.2) | inr past ↦ absurd (omega (arith, within, past.0)) ] in
    let most = within_most (most_in list component) (written_budget c.budgets.result component) in
    subst (λ l. LacksBudgets l c.in_err-core.field-0.0) c.list.ensures
    (large_here list component entry.0 entry.1 (budget_in list c.budgets.result component) c.in_err-core.field-0.0 most.0 most.1
    (unbooted list component (budget_in list c.budgets.result component) c.in_ok-list.list c.in_err-core.field-0.0 c.in_ok-list.ensures.funded c.in_ok-list.ensures.boots
    (c.in_err-core.ensures.fault other))))
