-- What the lines of a scenario donate for the sessions that they open.
use Rattle.std.specs.Prelude.{◌≡◌, ℕ, ◌==◌, ◌&&◌, Bool, true, false, List, [], ◌∷◌, filter, is_some, max, if◌then◌else◌, Option, Some, None, Vec}
use Rattle.std.specs.List.{AllByRecursion, list_all, slice_get}
use Rattle.std.specs.Option.{option_and_then, option_map, unwrap_or}
use Rattle.own_model.specs.Amounts.{Amounts, no_amounts}
use Rattle.budget_meter.specs.Needs.{amounts_of}
use Rattle.budget_meter.specs.declared.budget.Budget.{Budget}
use Rattle.budget_search.specs.BudgetIntervals.{lowest_of, safe_of}
use Rattle.budget_search.specs.Donations.{donated_text}
use Rattle.budget_search.specs.Lines.{args_to_change, set_args}
use Rattle.budget_search.specs.declared.account_budgets.AccountBudgets.{AccountBudgets}
use Rattle.budget_search.specs.declared.account_budgets.SessionKey.{SessionKey}
use Rattle.budget_search.specs.declared.budget_intervals.BudgetChoice.{BudgetChoice}
use Rattle.budget_search.specs.declared.budget_intervals.BudgetChoice.TheVariants.{Minimum, Safe}
use Rattle.budget_search.specs.declared.component_line.ComponentLine.{ComponentLine}
use Rattle.budget_search.specs.declared.script_search.ScriptSessions.{ScriptSessions}
use Rattle.budget_least.specs.ComponentLines.{AreAllWritten}
use Rattle.budget_least.specs.declared.line_donations.LineDonation.{LineDonation}
use Rattle.budget_least.specs.declared.line_donations.LineDonation.TheVariants.{Unused, Alike, Unlike, Insufficient}
use Rattle.budget_least.specs.declared.line_donations.LineDonations.{LineDonations}
use Rattle.budget_least.specs.declared.report.BudgetReport.{BudgetReport}

-- ---- sessions

-- the accounts of sessions
abbrev pub sessions_in : List AccountBudgets → List AccountBudgets
sessions_in accounts = filter (λ account. is_some account.session) accounts

-- a session is opened by the line of a number
abbrev pub is_at : ℕ → Option SessionKey → Bool
is_at number None = false
is_at number (Some key) = key.line == number

abbrev pub sessions_at : ℕ → List AccountBudgets → List AccountBudgets
sessions_at number accounts = filter (λ account. is_at number account.session) accounts

-- the sessions of a component, if it is a script
abbrev pub sessions_of : Option ScriptSessions → List AccountBudgets
sessions_of None = []
sessions_of (Some found) = found.accounts.items

-- ---- what a line donates

abbrev pub least_of : AccountBudgets → Option Amounts
least_of account = lowest_of account.found.rows.items

abbrev pub safest_of : AccountBudgets → Option Amounts
safest_of account = safe_of account.found.rows.items

-- a session has a minimum and a safe donation
abbrev pub has_both : AccountBudgets → Bool
has_both account = is_some (least_of account) && is_some (safest_of account)

abbrev pub same_amounts : Amounts → Amounts → Bool
same_amounts one other = one.ram == other.ram && one.caps == other.caps

-- two sessions have the same minimum
abbrev pub have_same : AccountBudgets → AccountBudgets → Bool
have_same one other = same_amounts (unwrap_or (least_of one) no_amounts) (unwrap_or (least_of other) no_amounts)

-- the larger RAM and the larger number of capabilities
abbrev pub larger : Amounts → Amounts → Amounts
larger one other = record { ram = max one.ram other.ram; caps = max one.caps other.caps }

-- the largest of the safe donations of sessions: from it on, all donations suffice for each
abbrev pub safe_for : List AccountBudgets → Amounts
safe_for [] = no_amounts
safe_for (account ∷ accounts) = larger (unwrap_or (safest_of account) no_amounts) (safe_for accounts)

abbrev pub is_minimum : BudgetChoice → Bool
is_minimum Minimum = true
is_minimum Safe = false

-- what a line donates for its sessions: the minimum, if that is written and all have the same one, and otherwise what is safe for
-- each. It donates nothing else than before without sessions, or if a session has no minimum or no safe donation
abbrev pub donation_for : BudgetChoice → List AccountBudgets → Option Amounts
donation_for choice [] = None
donation_for choice (account ∷ accounts) =
    if list_all has_both (account ∷ accounts)
    then (if is_minimum choice && list_all (have_same account) accounts then least_of account else Some (safe_for (account ∷ accounts)))
    else None

-- ---- what is kept of a line

abbrev pub as_budget : Amounts → Budget
as_budget amounts = record { ram = amounts.ram; caps = amounts.caps }

-- of a line with these sessions
abbrev pub kept_for : List AccountBudgets → LineDonation
kept_for [] = Unused
kept_for (account ∷ accounts) =
    if list_all has_both (account ∷ accounts)
    then (if list_all (have_same account) accounts
    then Alike (as_budget (unwrap_or (least_of account) no_amounts)) (as_budget (safe_for (account ∷ accounts)))
    else Unlike (as_budget (safe_for (account ∷ accounts))))
    else Insufficient

-- of all lines, by these sessions
abbrev pub HoldsFor : LineDonations → List AccountBudgets → Type 0
HoldsFor donations accounts =
    (number : ℕ) → unwrap_or (slice_get donations.lines.items number) Unused ≡ kept_for (sessions_at number accounts)

-- ---- the lines of a report

-- a line donates what its sessions among these need, if it opens a session and can be written so. Otherwise it is as it is written
pub record IsDonated (choice : BudgetChoice) (sessions : List AccountBudgets) (step : ComponentLine) : Type 0 where
  pub donation : option_map amounts_of step.donation
      ≡ option_and_then (λ args. donation_for choice (sessions_at step.number sessions)) (args_to_change step)
  pub args : set_args step
      ≡ option_and_then (λ args. option_map (λ donation. donated_text donation args) (donation_for choice (sessions_at step.number sessions)))
      (args_to_change step)

abbrev pub AreAllDonated : {Z : Type 0} → BudgetChoice → List AccountBudgets → List (Vec ComponentLine Z) → Type 0
AreAllDonated choice sessions steps = AllByRecursion (λ lines. AllByRecursion (IsDonated choice sessions) lines.items) steps

-- the lines of a report donate what the report's sessions need, unless they donate what the scenario says
abbrev pub HasDonations : Bool → BudgetReport → Type 0
HasDonations true report = AreAllWritten report.scene.steps.items
HasDonations false report = AreAllDonated report.choice (sessions_in report.accounts.items) report.scene.steps.items
