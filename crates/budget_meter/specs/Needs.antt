-- The needs of tests, of budgets as the program has them, and what a run shows of them.
use Rattle.std.specs.Prelude.{ℕ, ◌^◌, ◌-◌, List, map, max, min}
use Rattle.own_model.specs.Account.{Account}
use Rattle.own_model.specs.Amounts.{Amounts}
use Rattle.budget_theorems.specs.Need.{Need, need_of, cell_by, greatest_choice}
use Rattle.budget_theorems.specs.Test.{Test, test_of}
use Rattle.budget_meter.specs.declared.budget.Budget.{Budget}
use Rattle.budget_meter.specs.declared.meter.Meter.{Meter}

abbrev pub amounts_of : Budget → Amounts
amounts_of budget = record { ram = budget.ram; caps = budget.caps }

-- the need of a test of these amounts on an account, which started with a budget
abbrev pub need_in : Budget → Account → Budget → Need
need_in start account asked = need_of (amounts_of start) account (test_of asked.ram asked.caps)

-- a need as a budget, at most 2^64 - 1 of each
abbrev pub capped : Need → Budget
capped need = record { ram = min need.ram (2 ^ 64 - 1); caps = min need.caps (2 ^ 64 - 1) }

-- ---- what a run shows

-- the begin of the cell, in bytes and in capabilities, and the greatest choice that passed
pub record Shown : Type 0 where
  pub ram : ℕ
  pub caps : ℕ
  pub choice : ℕ

-- by the needs of its tests, from a budget
abbrev pub shown_by : Amounts → List Need → Shown
shown_by budget needs = record {
  ram = (cell_by budget needs).ram_from;
  caps = (cell_by budget needs).caps_from;
  choice = greatest_choice budget needs;
}

-- two parts of a run together
abbrev pub together : Shown → Shown → Shown
together one other = record { ram = max one.ram other.ram; caps = max one.caps other.caps; choice = max one.choice other.choice }

-- these tests of an account, in a run from a budget
abbrev pub shown_of : Amounts → Account → List Test → Shown
shown_of budget account tests = shown_by budget (map (need_of budget account) tests)

-- ---- what a meter has counted

abbrev pub shown_in : Meter → Shown
shown_in meter = record { ram = meter.least.ram; caps = meter.least.caps; choice = meter.choice }
