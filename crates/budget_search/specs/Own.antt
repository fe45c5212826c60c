-- The runs of a script's own calls.
use Rattle.std.specs.Prelude.{◌≡◌, ◌≤◌, ℕ, Bool, List, not}
use Rattle.own_model.specs.Amounts.{Amounts}
use Rattle.own_model.specs.Listed.{Listed}
use Rattle.own_model.specs.StartList.Kind.{Script}
use Rattle.budget_theorems.specs.Need.{Need, budgeted}
use Rattle.budget_theorems.specs.Intervals.{needs_to_shortfall}
use Rattle.budget_theorems.specs.Shortfall.{run_is_short}
use Rattle.budget_search.specs.Alike.{own_entry, own_state}
use Rattle.budget_search.specs.BudgetIntervals.{serves}
use Rattle.budget_search.specs.Steps.{calls_of}
use Rattle.budget_search.specs.declared.budget_intervals.BudgetInterval.{BudgetInterval}
use Rattle.budget_search.specs.declared.component_line.ComponentLine.{ComponentLine}

-- the run of a component's lines from a budget is short of quota
abbrev pub is_short_with : Listed → ℕ → List ComponentLine → Amounts → Bool
is_short_with list component steps budget =
    run_is_short (own_entry list component) (calls_of steps) (budgeted budget (own_state list component))

-- and so is not: the budget suffices
abbrev pub suffices_with : Listed → ℕ → List ComponentLine → Amounts → Bool
suffices_with list component steps budget = not (is_short_with list component steps budget)

-- for a script these are the needs of its runs up to their first shortfall, and whether they have one
pub record AreOwnRuns (list : Listed) (component : ℕ) (steps : List ComponentLine) (each : Amounts → List Need) (wanting : Amounts → Bool) : Type 0 where
  pub script : (own_entry list component).kind ≡ Script
  pub needs : each ≡ needs_to_shortfall (own_entry list component) (calls_of steps) (own_state list component)
  pub want : wanting ≡ is_short_with list component steps

-- intervals are exactly the budgets, of at most these bytes and capabilities, under which the run of a component's lines isn't
-- short of quota
abbrev pub AreExact : Listed → ℕ → List ComponentLine → ℕ → ℕ → List BudgetInterval → Type 0
AreExact list component steps caps top rows =
    (budget : Amounts) → budget.caps ≤ caps → budget.ram ≤ top → serves rows budget ≡ suffices_with list component steps budget
