-- Runs of a component's calls up to the first shortfall, as a meter observes them.
use Rattle.std.specs.Prelude.{◌≡◌, Bool, List, ◌++◌}
use Rattle.own_model.specs.Amounts.{Amounts}
use Rattle.own_model.specs.Call.{Call}
use Rattle.own_model.specs.OwnState.{OwnState}
use Rattle.own_model.specs.OwnStep.{own_run}
use Rattle.own_model.specs.StartList.{Entry}
use Rattle.budget_theorems.specs.Need.{budgeted}
use Rattle.budget_theorems.specs.Intervals.{needs_to_shortfall, up_to_shortfall}
use Rattle.budget_theorems.specs.Shortfall.{run_is_short}
use Rattle.budget_meter.specs.Metered.{HasObserved}
use Rattle.budget_meter.specs.Needs.{amounts_of, shown_by, shown_in}
use Rattle.budget_meter.specs.declared.account.AccountMeter.{AccountMeter}
use Rattle.budget_meter.specs.declared.meter.Meter.{Meter}

-- these calls are left of a run from a budget, from this state on, and none that the meter observed had a shortfall
pub record IsLeft (entry : Entry) (calls rest : List Call) (budget : Amounts) (s now : OwnState) (meter : AccountMeter) : Type 0 where
  pub heard : List Call
  pub has : HasObserved entry heard budget s meter
  pub here : own_run entry heard (budgeted budget s) ≡ now
  pub part : up_to_shortfall entry calls (budgeted budget s) ≡ heard ++ up_to_shortfall entry rest now
  pub want : run_is_short entry calls (budgeted budget s) ≡ run_is_short entry rest now

-- a run of calls from a budget, up to its first shortfall: whether it has one, the begin of its cell, and the greatest
-- choice
pub record Shows (entry : Entry) (calls : List Call) (s : OwnState) (budget : Amounts) (wanting : Bool) (meter : Meter) : Type 0 where
  pub start : amounts_of meter.start ≡ budget
  pub shown : shown_in meter ≡ shown_by budget (needs_to_shortfall entry calls s budget)
  pub want : wanting ≡ run_is_short entry calls (budgeted budget s)
