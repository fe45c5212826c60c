-- Which start budgets pass a test, and which pass and fail the same tests along a run.
use Rattle.std.specs.Prelude.{◌≡◌, ℕ, ◌+◌, ◌-◌, ◌<◌, ◌≤◌, ◌&&◌, Bool, true, not, List, [], ◌∷◌, ◌++◌, map, nat_le, min, max, if◌then◌else◌, Option, Some, None}
use Rattle.own_model.specs.Account.{Account}
use Rattle.own_model.specs.Amounts.{Amounts}
use Rattle.own_model.specs.Call.{Call}
use Rattle.own_model.specs.OwnState.{OwnState}
use Rattle.own_model.specs.OwnStep.{own_step}
use Rattle.own_model.specs.StartList.{Entry}
use Rattle.budget_theorems.specs.Test.{Test, tests}

-- an account with other limits
abbrev pub limited : Amounts → Account → Account
limited limits a = record a { ram_limit = limits.ram; caps_limit = limits.caps }

-- a component with a budget: that is what its account's limits are
abbrev pub budgeted : Amounts → OwnState → OwnState
budgeted budget s = record s { account = limited budget s.account }

-- the least start budget that passes a test, of bytes and of capabilities: what is used, plus what is asked, less what
-- the limit is above the start budget
pub record Need : Type 0 where
  pub ram : ℕ
  pub caps : ℕ
  pub choice : Bool

abbrev pub need_of : Amounts → Account → Test → Need
need_of budget a test = record {
  ram = a.ram_used + test.ram + budget.ram - a.ram_limit;
  caps = a.caps_used + test.caps + budget.caps - a.caps_limit;
  choice = test.choice;
}

-- the needs of the tests along a run, which began with a budget
abbrev pub needs : Entry → Amounts → List Call → OwnState → List Need
needs entry budget [] s = []
needs entry budget (call ∷ calls) s =
    map (need_of budget s.account) (tests entry call s) ++ needs entry budget calls (own_step entry call s).next

-- ---- cells

-- a rectangle of budgets: from a number of bytes on and below another, if there is one, and so of capabilities
pub record Cell : Type 0 where
  pub ram_from : ℕ
  pub ram_below : Option ℕ
  pub caps_from : ℕ
  pub caps_below : Option ℕ

-- the minimum of a number and another, if there is one
abbrev pub lesser : ℕ → Option ℕ → Option ℕ
lesser n None = Some n
lesser n (Some other) = Some (min n other)

-- a budget covers the bytes of a need, and then its capabilities
abbrev pub covers_ram : Amounts → Need → Bool
covers_ram budget need = nat_le need.ram budget.ram

abbrev pub covers_caps : Amounts → Need → Bool
covers_caps budget need = nat_le need.caps budget.caps

-- a cell without the budgets under which a test comes out otherwise than under this one. A test whose bytes fail bounds
-- no capabilities
abbrev pub narrowed : Amounts → Need → Cell → Cell
narrowed budget need cell = record {
  ram_from = if covers_ram budget need then max need.ram cell.ram_from else cell.ram_from;
  ram_below = if covers_ram budget need then cell.ram_below else lesser need.ram cell.ram_below;
  caps_from = if covers_ram budget need && covers_caps budget need then max need.caps cell.caps_from else cell.caps_from;
  caps_below = if covers_ram budget need && not (covers_caps budget need) then lesser need.caps cell.caps_below else cell.caps_below;
}

-- the cell of a budget by needs: from the maximum that passed, and below the least that failed
abbrev pub cell_by : Amounts → List Need → Cell
cell_by budget [] = record { ram_from = 0; ram_below = None; caps_from = 0; caps_below = None }
cell_by budget (need ∷ rest) = narrowed budget need (cell_by budget rest)

-- the cell of a budget along calls
abbrev pub cell : Entry → List Call → Amounts → OwnState → Cell
cell entry calls budget s = cell_by budget (needs entry budget calls (budgeted budget s))

-- a number is below another, if there is one
abbrev pub IsBelow : ℕ → Option ℕ → Type 0
IsBelow n None = Unit {0}
IsBelow n (Some end) = n < end

-- so much RAM, or so many capabilities, are within a cell's bounds
pub record HasRam (cell : Cell) (ram : ℕ) : Type 0 where
  pub enough : cell.ram_from ≤ ram
  pub below : IsBelow ram cell.ram_below

pub record HasCaps (cell : Cell) (caps : ℕ) : Type 0 where
  pub enough : cell.caps_from ≤ caps
  pub below : IsBelow caps cell.caps_below

-- a budget is in a cell
pub record IsIn (cell : Cell) (budget : Amounts) : Type 0 where
  pub ram : HasRam cell budget.ram
  pub caps : HasCaps cell budget.caps

-- a test comes out alike under two budgets: bytes pass or fail, and where they pass capabilities do
pub record ComesOutAlike (one other : Amounts) (need : Need) : Type 0 where
  pub ram : covers_ram one need ≡ covers_ram other need
  pub caps : covers_ram one need ≡ true → covers_caps one need ≡ covers_caps other need

-- the maximum need of a choice whose bytes passed, or 0
abbrev pub greatest_choice : Amounts → List Need → ℕ
greatest_choice budget [] = 0
greatest_choice budget (need ∷ rest) =
    if need.choice && covers_ram budget need then max need.ram (greatest_choice budget rest) else greatest_choice budget rest
