-- The state of a meter of a component whose calls it observes.
use Rattle.std.specs.Prelude.{◌≡◌, ℕ, Bool, true, false, List}
use Rattle.own_model.specs.Amounts.{Amounts}
use Rattle.own_model.specs.Call.{Call}
use Rattle.own_model.specs.OwnState.{OwnState}
use Rattle.own_model.specs.OwnStep.{Outcome, own_run}
use Rattle.own_model.specs.Reply.{reply_text}
use Rattle.own_model.specs.StartList.{Entry, Kind}
use Rattle.own_model.specs.StartList.Kind.{Script, Server, Init}
use Rattle.core_calls.specs.Quotas.{quotas_account}
use Rattle.core_calls.specs.declared.quotas.Quotas.{Quotas}
use Rattle.budget_theorems.specs.Need.{budgeted, needs}
use Rattle.budget_meter.specs.Needs.{amounts_of, shown_by, shown_in}
use Rattle.budget_meter.specs.declared.account.AccountMeter.{AccountMeter}

abbrev pub is_script : Kind → Bool
is_script Script = true
is_script Server = false
is_script Init = false

-- the account of a component that has not exited, and how far its heap grows
pub record Stands (meter : AccountMeter) (s : OwnState) : Type 0 where
  pub account : quotas_account meter.account ≡ s.account
  pub growth : meter.pages ≡ s.heap.shape.growth

-- whether the component's calls are answered, and if so the state of its account
pub record Knows (meter : AccountMeter) (entry : Entry) (s : OwnState) : Type 0 where
  pub script : meter.is_script ≡ is_script entry.kind
  pub gone : meter.is_gone ≡ s.gone
  pub stands : s.gone ≡ false → Stands meter s

-- an outcome has this reply and left this account
pub record HasReply (reply : List ℕ) (left : Quotas) (o : Outcome) : Type 0 where
  pub told : reply ≡ reply_text o.reply
  pub leaves : quotas_account left ≡ o.next.account

-- the meter has observed these calls, from a budget and a state on: it states the begin of the budget's cell and the
-- greatest choice
pub record HasObserved (entry : Entry) (calls : List Call) (budget : Amounts) (s : OwnState) (meter : AccountMeter) : Type 0 where
  pub start : amounts_of meter.meter.start ≡ budget
  pub shown : shown_in meter.meter ≡ shown_by budget (needs entry budget calls (budgeted budget s))
  pub knows : Knows meter entry (own_run entry calls (budgeted budget s))
