-- The calls of a scenario in the friendly form, and the text that is written for them.
use Rattle.std.specs.Prelude.{ℕ, List, [], ◌∷◌, ◌++◌, None, Option}
use Rattle.std.specs.List.{flat_map}
use Rattle.own_model.specs.LinesOfName.{said_by}
use Rattle.own_model.specs.World.{World, world_running}
use Rattle.run_lines.specs.Answered.{output_of_lines}
use Rattle.run_scenario.specs.LineSteps.{LineStep, calls_in}

-- the engine's lines of a scenario's lines, by their steps
abbrev pub calls_of_steps : List LineStep → List (List ℕ)
calls_of_steps steps = flat_map (λ step. calls_in step.resolved) steps

-- those that are answered: all, or a name's alone
abbrev pub calls_answered : Option (List ℕ) → List LineStep → List (List ℕ)
calls_answered only steps = said_by only (calls_of_steps steps)

-- the text for calls in one line of a scenario, by the text for each: by the calls that were answered before it, the line's
-- number, and the engine's line
abbrev pub text_of_calls : (List (List ℕ) → ℕ → List ℕ → List ℕ) → List (List ℕ) → ℕ → List (List ℕ) → List ℕ
text_of_calls tells earlier number [] = []
text_of_calls tells earlier number (call ∷ calls) =
    tells earlier number call ++ text_of_calls tells (earlier ++ call ∷ []) number calls

-- the text for the lines of a scenario by their steps, for all or for those of one name
abbrev pub text_of_steps : (List (List ℕ) → ℕ → List ℕ → List ℕ) → Option (List ℕ) → List (List ℕ) → List LineStep → List ℕ
text_of_steps tells only earlier [] = []
text_of_steps tells only earlier (step ∷ steps) =
    text_of_calls tells earlier step.number (said_by only (calls_in step.resolved))
    ++ text_of_steps tells only (earlier ++ said_by only (calls_in step.resolved)) steps

-- the text that the engine writes for a call after others from a start
abbrev pub engine_text : World → List (List ℕ) → ℕ → List ℕ → List ℕ
engine_text start earlier number call = output_of_lines None (world_running start earlier) (call ∷ [])
