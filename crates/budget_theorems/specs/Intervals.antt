-- All sufficient budgets, from a few runs.
use Rattle.std.specs.Prelude.{◌≡◌, ℕ, zero, suc, ◌-◌, ◌≤◌, ◌&&◌, Bool, not, List, [], ◌∷◌, nat_le, nat_eq, if◌then◌else◌}
use Rattle.std.specs.List.{list_any}
use Rattle.own_model.specs.Amounts.{Amounts}
use Rattle.own_model.specs.Call.{Call}
use Rattle.own_model.specs.OwnState.{OwnState}
use Rattle.own_model.specs.OwnStep.{own_step}
use Rattle.own_model.specs.Session.{Session}
use Rattle.own_model.specs.StartList.{Entry}
use Rattle.budget_theorems.specs.Need.{Need, cell_by, greatest_choice, budgeted, needs}
use Rattle.budget_theorems.specs.Request.{donating}
use Rattle.budget_theorems.specs.RequestTheorems.{Reaches, session_needs, session_is_short}
use Rattle.budget_theorems.specs.Shortfall.{wants, run_is_short}

-- an interval of budgets: RAM from a number of bytes up to another, and capabilities from a number on
pub record IntervalOfBudgets : Type 0 where
  pub ram_from : ℕ
  pub ram_to : ℕ
  pub caps_from : ℕ

abbrev pub covers : Amounts → IntervalOfBudgets → Bool
covers budget stretch = nat_le stretch.ram_from budget.ram && nat_le budget.ram stretch.ram_to && nat_le stretch.caps_from budget.caps

-- some interval covers a budget
abbrev pub is_covered : List IntervalOfBudgets → Amounts → Bool
is_covered stretches budget = list_any (covers budget) stretches

-- the interval of a run whose budget suffices: what is left of its cell up to its own budget
abbrev pub interval_of : Bool → Amounts → List Need → List IntervalOfBudgets → List IntervalOfBudgets
interval_of wanting budget needs rest =
    if wanting then rest
    else record { ram_from = (cell_by budget needs).ram_from; ram_to = budget.ram; caps_from = (cell_by budget needs).caps_from } ∷ rest

-- the intervals of all budgets of so many capabilities and up to so many bytes, from the maximum on, by what each run
-- needs and whether it is in want: after a run the next one has a byte less than the greatest need of a choice that
-- passed in it. At most so many runs are made
abbrev pub stretches : (Amounts → List Need) → (Amounts → Bool) → ℕ → ℕ → ℕ → List IntervalOfBudgets
stretches each want caps zero top = []
stretches each want caps (suc runs) top =
    let budget : Amounts = record { ram = top; caps = caps } in
    let choice = greatest_choice budget (each budget) in
    interval_of (want budget) budget (each budget) (if nat_eq choice 0 then [] else stretches each want caps runs (choice - 1))

-- of a component's own account, and of what was donated for a session
abbrev pub account_intervals : Entry → List Call → OwnState → ℕ → ℕ → List IntervalOfBudgets
account_intervals entry calls s caps top =
    stretches (λ budget. needs entry budget calls (budgeted budget s)) (λ budget. run_is_short entry calls (budgeted budget s)) caps (suc top) top

abbrev pub session_stretches : List Reaches → Session → ℕ → ℕ → List IntervalOfBudgets
session_stretches all session caps top =
    stretches (λ donation. session_needs donation all (donating donation session)) (λ donation. session_is_short all (donating donation session))
    caps (suc top) top

-- a budget of no more bytes and capabilities than these is covered exactly if the run from it has no shortfall
abbrev pub AccountIntervalsAreExact : Type 0
AccountIntervalsAreExact =
    (entry : Entry) (calls : List Call) (s : OwnState) (caps top : ℕ) (budget : Amounts) → budget.caps ≤ caps → budget.ram ≤ top →
    is_covered (account_intervals entry calls s caps top) budget ≡ not (run_is_short entry calls (budgeted budget s))

abbrev pub SessionStretchesAreExact : Type 0
SessionStretchesAreExact =
    (all : List Reaches) (session : Session) (caps top : ℕ) (donation : Amounts) → donation.caps ≤ caps → donation.ram ≤ top →
    is_covered (session_stretches all session caps top) donation ≡ not (session_is_short all (donating donation session))

-- ---- runs that end with the first shortfall

-- calls up to the first that is short of quota
abbrev pub up_to_shortfall : Entry → List Call → OwnState → List Call
up_to_shortfall entry [] s = []
up_to_shortfall entry (call ∷ calls) s =
    call ∷ (if wants call (own_step entry call s).reply then [] else up_to_shortfall entry calls (own_step entry call s).next)

-- the needs of a run from a budget up to its first shortfall
abbrev pub needs_to_shortfall : Entry → List Call → OwnState → Amounts → List Need
needs_to_shortfall entry calls s budget = needs entry budget (up_to_shortfall entry calls (budgeted budget s)) (budgeted budget s)

-- the intervals of such runs
abbrev pub ending_intervals : Entry → List Call → OwnState → ℕ → ℕ → List IntervalOfBudgets
ending_intervals entry calls s caps top =
    stretches (needs_to_shortfall entry calls s) (λ budget. run_is_short entry calls (budgeted budget s)) caps (suc top) top

-- cover the same budgets
abbrev pub EndingIntervalsAreExact : Type 0
EndingIntervalsAreExact =
    (entry : Entry) (calls : List Call) (s : OwnState) (caps top : ℕ) (budget : Amounts) → budget.caps ≤ caps → budget.ram ≤ top →
    is_covered (ending_intervals entry calls s caps top) budget ≡ not (run_is_short entry calls (budgeted budget s))
