-- Theorems on budgets, as statements.
use Rattle.std.specs.Prelude.{◌≡◌, ◌<◌, ◌≤◌, ◌||◌, true, nat_lt, List}
use Rattle.std.specs.List.{AllByRecursion}
use Rattle.own_model.specs.Amounts.{Amounts, no_amounts}
use Rattle.own_model.specs.Call.{Call}
use Rattle.own_model.specs.OwnState.{OwnState}
use Rattle.own_model.specs.OwnStep.{own_run}
use Rattle.own_model.specs.StartList.{Entry}
use Rattle.budget_theorems.specs.Need.{HasRam, IsBelow, IsIn, ComesOutAlike, budgeted, needs, cell, greatest_choice}
use Rattle.budget_theorems.specs.Shortfall.{answers, run_is_short}

-- a budget is in the cell of another exactly where each test along the other's run comes out alike
abbrev pub CellsAreExact : Type 0
CellsAreExact =
    (entry : Entry) (calls : List Call) (s : OwnState) (one other : Amounts) →
    (IsIn (cell entry calls one s) other → AllByRecursion (ComesOutAlike one other) (needs entry one calls (budgeted one s)))
    × (AllByRecursion (ComesOutAlike one other) (needs entry one calls (budgeted one s)) → IsIn (cell entry calls one s) other)

-- a budget is in its own cell
abbrev pub IsInItsOwn : Type 0
IsInItsOwn = (entry : Entry) (calls : List Call) (s : OwnState) (budget : Amounts) → IsIn (cell entry calls budget s) budget

-- two budgets in a cell give the same answers, except the limits that are printed, and the same own state, except the limits
abbrev pub SameAnswersInACell : Type 0
SameAnswersInACell =
    (entry : Entry) (calls : List Call) (s : OwnState) (one other : Amounts) → IsIn (cell entry calls one s) other →
    (answers entry calls (budgeted other s) ≡ answers entry calls (budgeted one s))
    × (budgeted no_amounts (own_run entry calls (budgeted other s)) ≡ budgeted no_amounts (own_run entry calls (budgeted one s)))

-- a budget with RAM of a run's cell, and with capabilities below all that the run was refused, is in want where the run
-- is, and where its capabilities are fewer than were ever needed, and nowhere else
abbrev pub ShortfallInACell : Type 0
ShortfallInACell =
    (entry : Entry) (calls : List Call) (s : OwnState) (one other : Amounts) → IsBelow other.caps (cell entry calls one s).caps_below →
    HasRam (cell entry calls one s) other.ram →
    run_is_short entry calls (budgeted other s)
    ≡ (run_is_short entry calls (budgeted one s) || nat_lt other.caps (cell entry calls one s).caps_from)

-- and each such budget below the run's cell, from the maximum need of a choice on that passed in it, is short of quota
abbrev pub ShortfallBelowACell : Type 0
ShortfallBelowACell =
    (entry : Entry) (calls : List Call) (s : OwnState) (one other : Amounts) → IsBelow other.caps (cell entry calls one s).caps_below →
    other.ram < (cell entry calls one s).ram_from → greatest_choice one (needs entry one calls (budgeted one s)) ≤ other.ram →
    run_is_short entry calls (budgeted other s) ≡ true
