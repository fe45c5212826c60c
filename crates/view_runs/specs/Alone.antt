-- The replies to one component in the whole run, and alone.
use Rattle.std.specs.Prelude.{◌≡◌, ℕ, ◌<◌, ◌^◌, ◌==◌, true, List, [], ◌∷◌, ◌++◌, length, map, codes, decimal, if◌then◌else◌, Option, Some, None, IfSome}
use Rattle.std.specs.Option.{option_map_or}
use Rattle.own_model.specs.Listed.{Listed}
use Rattle.own_model.specs.LinesOfName.{is_line_of, joined, pieces, pieces_for, said_by}
use Rattle.own_model.specs.Reply.{printed}
use Rattle.own_model.specs.World.{World, world_running}
use Rattle.run_lines.specs.Answered.{after_all, output_of_lines}
use Rattle.run_scenario.specs.RunCalls.{calls_answered, calls_of_steps, text_of_steps}
use Rattle.run_lines.specs.Machine.{world_of}
use Rattle.run_scenario.specs.Texts.{in_brackets, line_text}
use Rattle.run_scenario.specs.LineSteps.{LineStep}
use Rattle.run_scenario.specs.Judging.{errors_of}
use Rattle.run_scenario.specs.Writes.{AreAll, RunStart, steps_from, transcript_of}

-- the text that the engine writes for a call in a world
abbrev pub told_in : World → List ℕ → List ℕ
told_in world call = output_of_lines None world (call ∷ [])

-- a call in a line of this number as the log prints bytes, after it the text of its bytes, its text in one world, and its text in
-- another
abbrev pub told_in_both : World → World → ℕ → List ℕ → List ℕ
told_in_both whole alone number call =
    (decimal number ++ codes ": " ++ map printed call ++ option_map_or in_brackets (line_text call) [] ++ 10 ∷ [])
    ++ (codes "  whole: " ++ told_in whole call)
    ++ (codes "  alone: " ++ told_in alone call)

-- for a call of a name: its text after all calls before it, and its text after the name's alone
abbrev pub alone_call_text : List ℕ → World → List (List ℕ) → ℕ → List ℕ → List ℕ
alone_call_text name start earlier number call =
    if is_line_of name call
    then told_in_both (world_running start earlier) (after_all (Some name) start earlier) number call
    else []

-- these calls of a name were answered alone, each as in the whole run
pub record SeesAlone (name : List ℕ) (core : World) (lines : ℕ) (difference : Option ℕ) (start : World) (earlier : List (List ℕ)) : Type 0 where
  pub leads : core ≡ after_all (Some name) start earlier
  pub counted : length (said_by (Some name) earlier) < 2 ^ 64 → lines ≡ length (said_by (Some name) earlier)
  pub alike : difference ≡ None

-- the words between a number of lines and the name
abbrev pub words_for : ℕ → List ℕ
words_for lines = if lines == 1 then codes " line of " else codes " lines of "

-- how many lines of the name there were, if any
abbrev pub alone_sum : List ℕ → ℕ → List ℕ
alone_sum name lines =
    if lines == 0 then name ++ codes ": no line of the scenario" ++ 10 ∷ []
    else decimal lines ++ words_for lines ++ name ++ codes ": the same alone as in the whole run" ++ 10 ∷ []

abbrev pub alone_behind : List ℕ → List LineStep → List ℕ
alone_behind name steps = alone_sum name (length (calls_answered (Some name) steps))

-- lines that are all of the input, if that is known: their errors by their steps, and how many calls of a name they make
pub record CountsAlone (name : List ℕ) (start : RunStart) (input : Option (List ℕ)) (errors count : ℕ) : Type 0 where
  pub given : List (List ℕ)
  pub all : IfSome input (AreAll given)
  pub complained : errors ≡ errors_of start.list start.only start.world start.awaited (steps_from start given)
  pub counted : count ≡ length (calls_answered (Some name) (steps_from start given))

abbrev pub alone_text : List ℕ → Listed → List LineStep → List ℕ
alone_text name listed steps = text_of_steps (alone_call_text name (world_of listed)) None [] steps

-- the text for a name's calls in the whole run, put together
abbrev pub whole_column : List ℕ → World → List LineStep → List ℕ
whole_column name start steps = joined (pieces_for name (pieces start.entries start.states [] (calls_of_steps steps)))

-- and alone
abbrev pub alone_column : List ℕ → World → List LineStep → List ℕ
alone_column name start steps = transcript_of (Some name) start steps

-- the text for a name in the whole run is its text alone, call by call and in all
pub record AreAlike (name : List ℕ) : Type 0 where
  pub calls : (start : World) (earlier : List (List ℕ)) (call : List ℕ) → is_line_of name call ≡ true →
      told_in (world_running start earlier) call ≡ told_in (after_all (Some name) start earlier) call
  pub columns : (start : World) (steps : List LineStep) → whole_column name start steps ≡ alone_column name start steps
