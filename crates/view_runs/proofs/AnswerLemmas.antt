-- Calls with their replies, one after another.
use Rattle.std.proofs.Common.{◌≡◌, ℕ, List, [], ◌∷◌, ◌++◌, Bool, true, Option, None, IfNone, sym, ◌∙◌, ap, subst, append_assoc, append-nil}
use Rattle.own_model.specs.Listed.{Listed}
use Rattle.own_model.specs.World.{World, world_running}
use Rattle.run_exchanges.specs.Exchange.{Exchange}
use Rattle.run_lines.specs.Machine.{world_of}
use Rattle.run_lines.specs.declared.line_answer.LineAnswer.{LineAnswer}
use Rattle.view_runs.specs.Answers.{IsAnsweredFrom, exchange_in, exchanges, exchanges_after}
use Rattle.run_scenario.specs.Judging.{Awaited}
use Rattle.run_scenario.specs.RunCalls.{calls_answered}
use Rattle.run_scenario.specs.ScenarioRuns.{CountsErrors, RunsAll, tally}
use Rattle.view_runs.specs.Tracing.{call_text}
use Rattle.run_scenario.specs.LineSteps.{LineStep, steps_of}
use Rattle.run_scenario.specs.Observation.{IsAnsweredAfter}
use Rattle.run_scenario.specs.Writes.{IsRunFrom, start_at, steps_on}
use Rattle.run_scenario.specs.declared.scenario_end.ScenarioEnd.{ScenarioEnd}
use Rattle.line_steps.specs.RunPosition.{RunPosition}
use Rattle.run_scenario.proofs.WriteLemmas.{closes_alone, played_from, silent_steps}

exchanges_more : (start : World) (earlier calls : List (List ℕ)) (call : List ℕ) →
    exchanges_after start earlier (calls ++ call ∷ []) ≡ exchanges_after start earlier calls ++ exchange_in (world_running start (earlier ++ calls)) call ∷ []
exchanges_more start earlier [] call = ap (λ e. exchange_in (world_running start e) call ∷ []) (sym (append-nil earlier))
exchanges_more start earlier (first ∷ calls) call =
    ap (λ es. exchange_in (world_running start earlier) first ∷ es)
    (exchanges_more start (earlier ++ first ∷ []) calls call
    ∙ ap (λ e. exchanges_after start (earlier ++ first ∷ []) calls ++ exchange_in (world_running start e) call ∷ []) (append_assoc earlier (first ∷ []) calls))

-- a call more was observed
pub sees_more : {start : World} {earlier : List (List ℕ)} {call : List ℕ} {core : World} {answer : LineAnswer} → IsAnsweredAfter start earlier call core answer → (kept : List Exchange) {more : List Exchange} {exchange : Exchange} →
    kept ≡ exchanges start earlier → exchange ≡ record { name = answer.name.now; line = call; call = call_text call; reply = answer.reply.now } → more ≡ kept ++ exchange ∷ [] → more ≡ exchanges start (earlier ++ call ∷ [])
sees_more {start} {earlier} {call} {core} {answer} told kept sees is more_is =
    more_is
    ∙ (λ i. sees i ++ is i ∷ [])
    ∙ (λ i. exchanges start earlier ++ record { name = told.answers.name i; line = call; call = call_text call; reply = told.answers.reply i } ∷ [])
    ∙ sym (exchanges_more start [] earlier call)

-- what a play observed
pub answered_from : {first : RunPosition} {start last : World} {kept found : List Exchange} {front : List ℕ} {input rest w w' : Option (List ℕ)} {failed : Bool} {tells : List (List ℕ) → ℕ → List ℕ → List ℕ} {counts : List LineStep → Type 0} {reports : List (List ℕ) → Type 0} (ending : ScenarioEnd) → found ≡ kept →
    RunsAll tells true (λ calls. kept ≡ exchanges start calls) counts reports None first ending.fault ending.lines start last front input rest failed w w' →
    IsAnsweredFrom (steps_of None start first) start ending found input rest failed
answered_from {first = first} {start = start} ending is plays = record {
  given = plays.given;
  readable = plays.readable;
  ends = plays.ends;
  are = subst (λ exchanged. IfNone ending.fault (exchanged ≡ exchanges start (calls_answered None (steps_of None start first plays.given)))) (sym is) plays.sees;
}

-- and it wrote nothing
pub silent_played : {list : Listed} {first : RunPosition} {seen reports : List (List ℕ) → Type 0} {start last : World} {awaited : Awaited} {input rest w w' : Option (List ℕ)} {failed : Bool} (ending : ScenarioEnd) →
    RunsAll (λ _ _ _. []) true seen (CountsErrors list None start (tally 0 awaited) ending.complaints) reports None first ending.fault ending.lines start last [] input rest failed w w' →
    IsRunFrom (start_at list None start first awaited) (λ _. []) (λ _. []) true reports ending input rest failed w w'
silent_played {first = first} {start = start} {w' = w'} ending plays =
    played_from ending ending plays (silent_steps None [] (steps_of None start first plays.given)) (closes_alone ending w')

-- on the machine of a list
pub answered_on : (listed : Listed) (first : RunPosition) (ending : ScenarioEnd) {start : World} {begun : RunPosition} {kept : List Exchange} {input rest : Option (List ℕ)} {failed : Bool} →
    start ≡ world_of listed → begun ≡ first → IsAnsweredFrom (steps_of None start begun) start ending kept input rest failed →
    IsAnsweredFrom (steps_on None first listed) (world_of listed) ending kept input rest failed
answered_on listed first ending {start = start} {kept = kept} {input = input} {rest = rest} {failed = failed} starts begins answered =
    subst (λ world. IsAnsweredFrom (steps_of None world first) world ending kept input rest failed) starts
    (subst (λ position. IsAnsweredFrom (steps_of None start position) start ending kept input rest failed) begins answered)
