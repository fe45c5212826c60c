-- The answer to a line's call, and the text that is written for it.
use Rattle.std.specs.Prelude.{◌≡◌, ℕ, List, [], ◌∷◌, ◌++◌, IfSome, OnOk, Option, Some, None, Result}
use Rattle.std.specs.Option.{option_map}
use Rattle.own_model.specs.LinesOfName.{said_by}
use Rattle.own_model.specs.Transcript.{heard}
use Rattle.own_model.specs.World.{World}
use Rattle.line_grammar.specs.Read.{IsReadAs}
use Rattle.run_lines.specs.Answer.{IsAnswer}
use Rattle.run_lines.specs.Answered.{after_all}
use Rattle.run_devices.specs.RunOutput.{OutputsUnless}
use Rattle.run_lines.specs.declared.line_answer.LineAnswer.{LineAnswer}
use Rattle.run_lines.specs.declared.line_run_fault.LineRunFault.{LineRunFault}
use Rattle.line_steps.specs.ResolvedLines.{ResolvedLine}
use Rattle.line_steps.specs.ResolvedViews.{HasParsedCall, resolved_view}
use Rattle.run_scenario.specs.RunCalls.{text_of_calls}
use Rattle.run_scenario.specs.LineSteps.{calls_in}
use Rattle.run_scenario.specs.Observation.{Watches}
use Rattle.run_scenario.specs.declared.line_step.LineStep.{LineStep}
use Rattle.run_scenario.specs.declared.call_observer.ObservedCall.{ObservedCall}

-- the one of these calls that is answered has this answer in this world
pub record IsAnsweredAs (only : Option (List ℕ)) (world : World) (number : ℕ) (calls : List (List ℕ)) (it : ObservedCall) : Type 0 where
  pub numbered : it.number ≡ number
  pub said : said_by only calls ≡ it.line.now ∷ []
  pub answers : IsAnswer world (heard world.entries it.line.now) it.answer

-- or none is answered
abbrev pub IsAnsweredCall : Option (List ℕ) → World → ℕ → List (List ℕ) → Option ObservedCall → Type 0
IsAnsweredCall only world number calls (Some it) = IsAnsweredAs only world number calls it
IsAnsweredCall only world number calls None = said_by only calls ≡ []

-- the one of these calls that is answered has this answer in this world, or none is answered
abbrev pub AnswersIn : Option (List ℕ) → World → List (List ℕ) → Option LineAnswer → Type 0
AnswersIn only world calls (Some answer) =
    (call : List ℕ) × (said_by only calls ≡ call ∷ []) × IsAnswer world (heard world.entries call) answer
AnswersIn only world calls None = said_by only calls ≡ []

-- the answer to a call
abbrev pub answer_of : Option ObservedCall → Option LineAnswer
answer_of o = option_map (λ it. it.answer) o

-- a line of this number had its step: what it is after substitution, the world after its call, and the answer, if there is one
pub record TakesStep (only : Option (List ℕ)) (number : ℕ) (resolved : ResolvedLine) (old new : World) (step : LineStep) : Type 0 where
  pub resolved_is : resolved_view step.resolved ≡ resolved
  pub parsed : HasParsedCall step.resolved
  pub world : new ≡ after_all only old (calls_in resolved)
  pub heard : IsAnsweredCall only old number (calls_in resolved) step.answered
  pub read : IfSome step.answered (λ it. IsReadAs it.line.now it.call)

-- the calls of a line of this number led from one world to the next, all or those of one name; after earlier calls that were
-- observed they are written, and are observed too, unless there is a fault
pub record ReportsCalls {T : Type 0} (only : Option (List ℕ)) (tells : World → List (List ℕ) → ℕ → List ℕ → List ℕ)
    (seen now_seen : World → List (List ℕ) → Type 0) (number : ℕ) (calls : List (List ℕ)) (old new : World)
    (result : Result T LineRunFault) (written : Option (List ℕ)) (gathered : List ℕ) (now_written : Option (List ℕ))
    (now_gathered : List ℕ) : Type 0 where
  pub world : new ≡ after_all only old calls
  pub told : (start : World) (earlier : List (List ℕ)) → Watches seen start earlier old →
      OutputsUnless result written gathered now_written now_gathered (text_of_calls (tells start) earlier number (said_by only calls))
  pub sees : (start : World) (earlier : List (List ℕ)) → Watches seen start earlier old →
      OnOk result (Watches now_seen start (earlier ++ said_by only calls) new)
