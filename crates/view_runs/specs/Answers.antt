-- The calls of a scenario with their replies.
use Rattle.std.specs.Prelude.{◌≡◌, ℕ, Bool, List, [], ◌∷◌, ◌++◌, Option, None, IfNone}
use Rattle.own_model.specs.Reply.{reply_text}
use Rattle.own_model.specs.Transcript.{heard}
use Rattle.own_model.specs.World.{World, world_running}
use Rattle.run_exchanges.specs.Exchange.{Exchange}
use Rattle.run_lines.specs.Answer.{answered_name, answered_reply}
use Rattle.run_devices.specs.Lines.{AreReadable}
use Rattle.run_lines.specs.LineRuns.{EndsFor}
use Rattle.run_scenario.specs.RunCalls.{calls_answered}
use Rattle.run_scenario.specs.ScenarioRuns.{most_lines}
use Rattle.view_runs.specs.Tracing.{call_text}
use Rattle.run_scenario.specs.LineSteps.{LineStep}
use Rattle.run_scenario.specs.declared.scenario_end.ScenarioEnd.{ScenarioEnd}

-- a call and its reply in a world
abbrev pub exchange_in : World → List ℕ → Exchange
exchange_in before call =
    let what = heard before.entries call in
    record { name = answered_name before what; line = call; call = call_text call; reply = reply_text (answered_reply before what) }

-- those of calls one after the other, after earlier ones
abbrev pub exchanges_after : World → List (List ℕ) → List (List ℕ) → List Exchange
exchanges_after start earlier [] = []
exchanges_after start earlier (call ∷ calls) =
    exchange_in (world_running start earlier) call ∷ exchanges_after start (earlier ++ call ∷ []) calls

abbrev pub exchanges : World → List (List ℕ) → List Exchange
exchanges start calls = exchanges_after start [] calls

-- a scenario was run, from its first line on, to its end or to a fault that has a cause, and these are its calls
pub record IsAnsweredFrom (steps : List (List ℕ) → List LineStep) (start : World) (ending : ScenarioEnd) (found : List Exchange)
    (input rest : Option (List ℕ)) (failed : Bool) : Type 0 where
  pub given : List (List ℕ)
  pub readable : AreReadable given
  pub ends : EndsFor most_lines ending.fault given input rest failed
  pub are : IfNone ending.fault (found ≡ exchanges start (calls_answered None (steps given)))
