-- What a report says.
use Rattle.std.specs.Prelude.{◌≡◌, List, Option, Some, None}
use Rattle.std.specs.Option.{option_map}
use Rattle.own_model.specs.Amounts.{Amounts}
use Rattle.own_model.specs.Listed.{Listed}
use Rattle.budget_least.specs.InitNeeds.{capped, needed_below}
use Rattle.budget_least.specs.MachineSizes.{HasSmallest}
use Rattle.budget_search.specs.declared.account_budgets.AccountBudgets.{AccountBudgets}
use Rattle.budget_least.specs.declared.machine_size.MachineSize.{MachineSize}
use Rattle.budget_least.specs.declared.report.BudgetReport.{BudgetReport}
use Rattle.budget_least.specs.declared.unmeasured_line.UnmeasuredLine.{UnmeasuredLine}

-- the start list
abbrev pub list_of : BudgetReport → Listed
list_of report = report.list.now

-- the accounts, the sessions of each component before its own
abbrev pub accounts_of : BudgetReport → List AccountBudgets
accounts_of report = report.accounts.items

-- what the machine's init hands out in all, at most the largest number of 64 bits; nothing if no budget suffices for an entry
abbrev pub sum_of : BudgetReport → Option Amounts
sum_of report = option_map capped (needed_below report.choice report.list.now 0 report.accounts.items)

-- the smallest machine on which a list with these budgets boots, if there is one
abbrev pub HasSmallestMachine : Option Amounts → Option MachineSize → Type 0
HasSmallestMachine None machine = machine ≡ None
HasSmallestMachine (Some sum) machine = HasSmallest sum machine

-- the lines that aren't measured
abbrev pub unmeasured_of : BudgetReport → List UnmeasuredLine
unmeasured_of report = report.scene.unmeasured.items
