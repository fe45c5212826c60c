-- How far the run of a component's own calls is.
use Rattle.std.specs.Prelude.{◌≡◌, ◌<◌, ℕ, false, List, ◌++◌, length}
use Rattle.own_model.specs.Amounts.{Amounts}
use Rattle.own_model.specs.Call.{Call}
use Rattle.own_model.specs.OwnState.{OwnState}
use Rattle.own_model.specs.StartList.{StartList, entries_of, start_states}
use Rattle.own_model.specs.StartList.Kind.{Script}
use Rattle.own_model.specs.Transcript.{entry_at, state_at}
use Rattle.own_model.specs.World.{World}
use Rattle.budget_theorems.specs.Need.{budgeted}
use Rattle.budget_meter.specs.Run.{IsLeft}
use Rattle.budget_meter.specs.declared.account.AccountMeter.{AccountMeter}
use Rattle.budget_search.specs.RunLines.{RunLines, preceded}
use Rattle.budget_search.specs.declared.trial.SkippedLine.{SkippedLine}

-- a component of a list is a script that begins with a budget, and in this state except for that: it is there, and its heap has
-- nothing
pub record Begins (list : StartList) (component : ℕ) (budget : Amounts) (s : OwnState) : Type 0 where
  pub script : (entry_at (entries_of list) component).kind ≡ Script
  pub state : state_at (start_states list) component ≡ budgeted budget s
  pub here : s.gone ≡ false
  pub growth : s.heap.shape.growth ≡ 4

-- of the calls of a script of a world these are left, and none that its meter observed was short of quota
pub record HasLeft (world : World) (component : ℕ) (meter : AccountMeter) (calls rest : List Call) (budget : Amounts) (s : OwnState) : Type 0 where
  pub script : (entry_at world.entries component).kind ≡ Script
  pub there : component < length world.states
  pub left : IsLeft (entry_at world.entries component) calls rest budget s (state_at world.states component) meter

-- no call that the meter of a script of a world observed was short of quota, whatever calls are left. The rest of the run shows its
-- lines after those that were left out so far: together they are those of the whole run
pub record HasLinesLeft (world : World) (component : ℕ) (meter : AccountMeter) (so_far : List SkippedLine) (rest : OwnState → RunLines) (whole : RunLines) : Type 0 where
  pub heard : List Call
  pub budget : Amounts
  pub s : OwnState
  pub left : (more : List Call) → HasLeft world component meter (heard ++ more) more budget s
  pub whole_is : preceded so_far (rest (state_at world.states component)) ≡ whole
