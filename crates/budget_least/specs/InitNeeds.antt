-- What the entries of an init's list need together.
use Rattle.std.specs.Prelude.{◌≡◌, ◌≤◌, ℕ, suc, ◌&&◌, Bool, true, false, not, List, [], ◌∷◌, ⊤, min, nat_eq, is_some, if◌then◌else◌, Option, Some}
use Rattle.std.specs.List.{slice_get, AllByRecursion}
use Rattle.std.specs.Option.{option_and_then, option_map, option_map_or}
use Rattle.own_model.specs.Amounts.{Amounts, more_of, no_amounts}
use Rattle.own_model.specs.Listed.{Listed}
use Rattle.list_parser.specs.Depth.{is_init}
use Rattle.budget_meter.specs.Needs.{amounts_of}
use Rattle.budget_search.specs.AccountNeeds.{need_rows, IsChanged}
use Rattle.budget_search.specs.BudgetIntervals.{chosen_of}
use Rattle.budget_search.specs.declared.account_budgets.AccountBudgets.{AccountBudgets}
use Rattle.budget_search.specs.declared.budget_intervals.BudgetChoice.{BudgetChoice}

-- an account is that of an entry of an init's list, by the init's number, and not of a session
abbrev pub is_entry_of : Listed → ℕ → AccountBudgets → Bool
is_entry_of list init account =
    option_map_or (λ entry. not (is_some account.session) && nat_eq entry.home init) (slice_get list.entries account.component) false

-- what an account needs: the budget that is written, in addition to its reserve
abbrev pub need_of : BudgetChoice → AccountBudgets → Option Amounts
need_of choice account = option_map (more_of (amounts_of account.reserve)) (chosen_of choice account.found.rows.items)

-- what the entries of an init's list need together, unless no budget suffices for one of them
abbrev pub needed_below : BudgetChoice → Listed → ℕ → List AccountBudgets → Option Amounts
needed_below choice list init [] = Some no_amounts
needed_below choice list init (account ∷ accounts) =
    if is_entry_of list init account
    then option_and_then (λ need. option_map (more_of need) (needed_below choice list init accounts)) (need_of choice account)
    else needed_below choice list init accounts

-- amounts of 64 bits: larger ones are the largest
abbrev pub capped : Amounts → Amounts
capped amounts = record { ram = min amounts.ram 18446744073709551615; caps = min amounts.caps 18446744073709551615 }

-- a sum with what an account needs, if it is that of an entry of an init's list
abbrev pub sum_with : BudgetChoice → Listed → ℕ → Amounts → AccountBudgets → Option Amounts
sum_with choice list init sum account =
    if is_entry_of list init account then option_map (λ need. capped (more_of sum need)) (need_of choice account) else Some sum

-- ---- what the accounts of inits have

abbrev pub AreChanged : ℕ → Option Amounts → List AccountBudgets → List AccountBudgets → Type 0
AreChanged component need [] [] = ⊤
AreChanged component need [] (new ∷ news) = ⊥
AreChanged component need (old ∷ olds) [] = ⊥
AreChanged component need (old ∷ olds) (new ∷ news) = IsChanged component need old new × AreChanged component need olds news

-- the component at a place starts others
abbrev pub is_init_at : Listed → ℕ → Bool
is_init_at list place = option_map_or is_init (slice_get list.entries place) false

-- if an account is that of an init, it has exactly what the init's list needs
abbrev pub HasNeed : BudgetChoice → Listed → List AccountBudgets → AccountBudgets → Type 0
HasNeed choice list accounts account =
    is_init_at list account.component ≡ true →
    account.found.rows.items ≡ need_rows (option_map capped (needed_below choice list (suc account.component) accounts))

-- the inits from a place on have what their lists need
abbrev pub AreNeededFrom : ℕ → BudgetChoice → Listed → List AccountBudgets → Type 0
AreNeededFrom place choice list accounts = AllByRecursion (λ account. place ≤ account.component → HasNeed choice list accounts account) accounts

-- and so have all inits
abbrev pub AreNeeded : BudgetChoice → Listed → List AccountBudgets → Type 0
AreNeeded choice list accounts = AllByRecursion (λ account. HasNeed choice list accounts account) accounts
