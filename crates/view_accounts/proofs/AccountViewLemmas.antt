-- A run whose accounts are observed writes nothing.
use Rattle.std.proofs.Common.{ℕ, List, [], Bool, true, Option, None}
use Rattle.own_model.specs.Listed.{Listed}
use Rattle.own_model.specs.World.{World}
use Rattle.line_steps.specs.RunPosition.{RunPosition}
use Rattle.run_scenario.specs.Judging.{Awaited}
use Rattle.run_scenario.specs.LineSteps.{steps_of}
use Rattle.run_scenario.specs.ScenarioRuns.{CountsErrors, RunsAll, tally}
use Rattle.run_scenario.specs.Writes.{IsRunFrom, start_at}
use Rattle.run_scenario.specs.declared.scenario_end.ScenarioEnd.{ScenarioEnd}
use Rattle.run_scenario.proofs.WriteLemmas.{closes_alone, played_from, silent_steps}

pub accounts_played : {list : Listed} {first : RunPosition} {seen reports : List (List ℕ) → Type 0} {start last : World} {awaited : Awaited} {input rest w w' : Option (List ℕ)} {failed : Bool} (ending : ScenarioEnd) →
    RunsAll (λ _ _ _. []) true seen (CountsErrors list None start (tally 0 awaited) ending.complaints) reports None first ending.fault ending.lines start last [] input rest failed w w' →
    IsRunFrom (start_at list None start first awaited) (λ _. []) (λ _. []) true reports ending input rest failed w w'
accounts_played {first = first} {start = start} {w' = w'} ending plays =
    played_from ending ending plays (silent_steps None [] (steps_of None start first plays.given)) (closes_alone ending w')
