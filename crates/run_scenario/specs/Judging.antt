-- The expectation of an answer, and whether the answer differs.
use Rattle.std.specs.Prelude.{ℕ, ◌+◌, ◌&&◌, ◌||◌, Bool, true, false, not, is_some, List, [], ◌∷◌, ◌++◌, Option, Some, None}
use Rattle.std.specs.Int.{from_bool}
use Rattle.std.specs.List.{flat_map}
use Rattle.std.specs.Option.{option_map}
use Rattle.std.specs.Str.{bytes_eq}
use Rattle.own_model.specs.LinesOfName.{said_by}
use Rattle.own_model.specs.Listed.{Listed}
use Rattle.own_model.specs.Reply.{log_text}
use Rattle.own_model.specs.Transcript.{heard}
use Rattle.own_model.specs.World.{World}
use Rattle.line_friendly.specs.Expected.{can_pass, meets}
use Rattle.run_lines.specs.Answer.{finished_lines}
use Rattle.run_lines.specs.Answered.{after_all}
use Rattle.line_steps.specs.ResolvedLines.{ResolvedLine}
use Rattle.line_steps.specs.ResolvedLines.ResolvedLine.{TooLong, Skipped, BadName, Misplaced, Log, Call, BadLine}
use Rattle.run_scenario.specs.LineSteps.{LineStep, calls_in, reply_in}
use Rattle.run_scenario.specs.UnknownNames.{names_unknown}
use Rattle.run_scenario.specs.declared.call_observer.ObservedCall.{ObservedCall}

-- the log lines that the next call is expected to finish, each as it is printed, and the number of the scenario's line with the
-- first of them
pub record Awaited : Type 0 where
  pub lines : List ℕ
  pub first : Option ℕ

-- none
abbrev pub nothing_awaited : Awaited
nothing_awaited = record { lines = []; first = None }

-- the number of the scenario's line with the first of them, once one more is expected in this line
abbrev pub first_of : Option ℕ → ℕ → ℕ
first_of None number = number
first_of (Some first) number = first

-- one more, which is in this line of the scenario
abbrev pub awaited_more : Awaited → ℕ → List ℕ → Awaited
awaited_more awaited number text = record {
  lines = (awaited.lines ++ text) ++ 10 ∷ [];
  first = Some (first_of awaited.first number);
}

-- the reply to a call, the log lines that the call finishes, each as it is printed, and whether the call has an unknown name
pub record AnswerText : Type 0 where
  pub reply : List ℕ
  pub lines : List ℕ
  pub is_unknown : Bool

abbrev pub answer_text : Listed → ObservedCall → AnswerText
answer_text list it =
    record { reply = it.answer.reply.now; lines = it.answer.lines.now; is_unknown = names_unknown list it.line.now }

abbrev pub text_in : Listed → Option ObservedCall → Option AnswerText
text_in list heard = option_map (answer_text list) heard

-- an answer differs from what is expected: its reply doesn't match, or it has other log lines. Without an expected reply, it differs
-- if log lines are expected
abbrev pub differs : Option (List ℕ) → List ℕ → List ℕ → Awaited → Bool
differs None reply lines awaited = is_some awaited.first
differs (Some expected) reply lines awaited = not (meets reply expected) || not (bytes_eq lines awaited.lines)

-- a line has an error if it can't pass with its reply or its call has an unknown name, and it isn't meant, or if its answer differs.
-- A skipped call has none
abbrev pub is_other : Bool → Option (List ℕ) → Option AnswerText → Awaited → Bool
is_other meant expected None awaited = false
is_other meant expected (Some answer) awaited =
    not ((can_pass expected answer.reply && not answer.is_unknown) || meant)
    || differs expected answer.reply answer.lines awaited

-- ---- of a line, by what it is after substitution

-- the expectation after the line of this number: after a call, also one that is skipped, no log line is expected any more
abbrev pub awaited_after : ℕ → ResolvedLine → Awaited → Awaited
awaited_after number Skipped awaited = nothing_awaited
awaited_after number (Log text) awaited = awaited_more awaited number text
awaited_after number (Call filled line reply) awaited = nothing_awaited
awaited_after number resolved awaited = awaited

-- a line has an error that is too long, can't be filled or can't be parsed, and so have a directive that can't be followed and a
-- call whose answer differs from its expectation
abbrev pub is_complained : Bool → ResolvedLine → Option AnswerText → Awaited → Bool
is_complained meant TooLong answer awaited = true
is_complained meant (BadName fault) answer awaited = true
is_complained meant (Misplaced column why) answer awaited = true
is_complained meant (Call filled line reply) answer awaited = is_other meant reply answer awaited
is_complained meant (BadLine fault) answer awaited = true
is_complained meant resolved answer awaited = false

-- ---- of lines in a world

-- the answer in this world to the call that is answered, of which there is one at most
abbrev pub answer_to : Listed → World → List (List ℕ) → Option AnswerText
answer_to list world [] = None
answer_to list world (call ∷ calls) = Some (record {
  reply = reply_in world call;
  lines = flat_map log_text (finished_lines world (heard world.entries call));
  is_unknown = names_unknown list call;
})

-- a line that is meant, or isn't, has an error by the answer to its call in this world: all calls are answered, or those of one name
abbrev pub has_error : Listed → Option (List ℕ) → World → Bool → ResolvedLine → Awaited → Bool
has_error list only world meant resolved awaited =
    is_complained meant resolved (answer_to list world (said_by only (calls_in resolved))) awaited

-- how many lines have an error, by their steps from this world and this expectation on
abbrev pub errors_in : Listed → Option (List ℕ) → World → Awaited → List LineStep → ℕ
errors_in list only world awaited [] = 0
errors_in list only world awaited (step ∷ steps) =
    from_bool (has_error list only world step.meant step.resolved awaited)
    + errors_in list only (after_all only world (calls_in step.resolved)) (awaited_after step.number step.resolved awaited) steps

-- the expectation after these steps
abbrev pub awaited_behind : Awaited → List LineStep → Awaited
awaited_behind awaited [] = awaited
awaited_behind awaited (step ∷ steps) = awaited_behind (awaited_after step.number step.resolved awaited) steps

-- the number of errors of a scenario by the steps of its lines: one for each line that has an error, and one more if a log line is
-- expected and no call follows it
abbrev pub errors_of : Listed → Option (List ℕ) → World → Awaited → List LineStep → ℕ
errors_of list only world awaited steps =
    errors_in list only world awaited steps + from_bool (is_some (awaited_behind awaited steps).first)
