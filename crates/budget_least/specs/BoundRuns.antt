-- The runs that bind the names of a scenario.
use Rattle.std.specs.Prelude.{◌≡◌, ◌&&◌, ℕ, Vec, Bool, true, false, not, List, [], ◌∷◌, is_some, nat_eq, nat_le, if◌then◌else◌, Option, Some, None}
use Rattle.std.specs.List.{slice_get}
use Rattle.std.specs.Option.{option_and_then}
use Rattle.own_model.specs.Amounts.{Amounts}
use Rattle.own_model.specs.Call.{Call}
use Rattle.own_model.specs.Listed.{Listed}
use Rattle.line_names.specs.Filling.{FilledLine}
use Rattle.line_names.specs.Learning.{learnt}
use Rattle.line_steps.specs.RunPosition.{RunPosition}
use Rattle.list_parser.specs.Budgets.{changed_at}
use Rattle.budget_search.specs.Alike.{most_in, IsFunded}
use Rattle.budget_search.specs.AmpleCalls.{after_step, first_client, made_with_enough, Client}
use Rattle.budget_search.specs.BudgetIntervals.{chosen_of}
use Rattle.budget_search.specs.Lines.{set_args}
use Rattle.budget_search.specs.Steps.{with_args}
use Rattle.budget_search.specs.declared.account_budgets.AccountBudgets.{AccountBudgets}
use Rattle.budget_search.specs.declared.budget_intervals.BudgetChoice.{BudgetChoice}
use Rattle.budget_search.specs.declared.component_line.ComponentLine.{ComponentLine}
use Rattle.budget_least.specs.declared.binding_run.BindingBudgets.{BindingBudgets}
use Rattle.budget_least.specs.declared.binding_run.BindingBudgets.TheVariants.{Ample, AsDonated, Chosen}

-- ---- budgets

-- the budget of a component's own account that is written
abbrev pub is_own : ℕ → AccountBudgets → Bool
is_own component account = not (is_some account.session) && nat_eq account.component component

abbrev pub own_budget : BudgetChoice → List AccountBudgets → ℕ → Option Amounts
own_budget choice [] component = None
own_budget choice (account ∷ accounts) component =
    if is_own component account then chosen_of choice account.found.rows.items else own_budget choice accounts component

abbrev pub written_budget : BindingBudgets → ℕ → Option Amounts
written_budget Ample component = None
written_budget AsDonated component = None
written_budget (Chosen choice accounts steps) component = own_budget choice accounts.now component

-- with that budget a component makes its calls, if it isn't more than the most, and otherwise with the most
abbrev pub budget_or : Amounts → Option Amounts → Amounts
budget_or most None = most
budget_or most (Some budget) = if nat_le budget.caps most.caps then (if nat_le budget.ram most.ram then budget else most) else most

abbrev pub budget_in : Listed → BindingBudgets → ℕ → Amounts
budget_in list budgets component = budget_or (most_in list component) (written_budget budgets component)

-- ---- calls

-- the arguments that are set for the line at a place among a component's
abbrev pub args_at : {Z : Type 0} → List (Vec ComponentLine Z) → ℕ → ℕ → Option (List ℕ)
args_at steps component place =
    option_and_then set_args (option_and_then (λ lines. slice_get lines.items place) (slice_get steps component))

-- a call is made with enough for its session; or as it is; or a session opens with the arguments that are set
abbrev pub made_in : BindingBudgets → ℕ → ℕ → Call → Client → Client
made_in Ample component place call client = made_with_enough call client
made_in AsDonated component place call client = after_step call client
made_in (Chosen choice accounts steps) component place call client =
    after_step (with_args (args_at steps.now component place) call) client

-- ---- the run

-- the list, the budgets of the run, whether replies bind names, the position, and the clients of components that have made calls
pub record BoundRun : Type 0 where
  pub list : Listed
  pub budgets : BindingBudgets
  pub binds : Bool
  pub position : RunPosition
  pub clients : List (Option Client)

abbrev pub known_client : ℕ → BoundRun → Option Client
known_client component run = option_and_then (λ known. known) (slice_get run.clients component)

-- a client has made no call, and its machine is the list, on which it has the budget of the run
abbrev pub HasBooted : Listed → BindingBudgets → ℕ → Client → Type 0
HasBooted list budgets component client =
    (machine : Listed)
    × (IsFunded machine list component (budget_in list budgets component) × (client ≡ first_client machine component))

-- a client is the one that a component has, or one that has made no call
abbrev pub IsClientIn : BoundRun → ℕ → Option Client → Client → Type 0
IsClientIn run component (Some known) client = client ≡ known
IsClientIn run component None client = HasBooted run.list run.budgets component client

abbrev pub IsClient : BoundRun → ℕ → Client → Type 0
IsClient run component client = IsClientIn run component (known_client component run) client

-- a component has no client, while that makes a call
abbrev pub without_client : ℕ → BoundRun → BoundRun
without_client component run = record run { clients = changed_at (λ other. None) run.clients component }

-- a client is a component's from now on
abbrev pub with_client : ℕ → Client → List (Option Client) → List (Option Client)
with_client component client clients = changed_at (λ other. Some client) clients component

-- the run after the reply to a call, which binds the names of its line
abbrev pub answered_by : ℕ → FilledLine → Client → BoundRun → BoundRun
answered_by component filled client run = record run {
  position = record run.position { known = learnt run.position.known filled client.text };
  clients = with_client component client run.clients;
}

-- the same, if the reply binds names
abbrev pub kept_by : Bool → ℕ → FilledLine → Client → BoundRun → BoundRun
kept_by true component filled client run = answered_by component filled client run
kept_by false component filled client run = record run { clients = with_client component client run.clients }

-- the call of the line at a place among a component's is made by its client
abbrev pub IsAnswered : ℕ → ℕ → Call → FilledLine → BoundRun → BoundRun → Type 0
IsAnswered component place call filled old new =
    (client : Client)
    × (IsClient old component client
    × (new ≡ answered_by component filled (made_in old.budgets component place call client) old))

-- unless no reply binds names
abbrev pub IsAnsweredIf : Bool → ℕ → ℕ → Call → FilledLine → BoundRun → BoundRun → Type 0
IsAnsweredIf false component place call filled old new = new ≡ old
IsAnsweredIf true component place call filled old new = IsAnswered component place call filled old new
