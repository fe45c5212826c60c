-- What a line is when its turn comes, by how it was filled.
use Rattle.std.proofs.Common.{◌≡◌, ℕ, ◌+◌, ◌-◌, ◌≤◌, ◌==◌, ◌||◌, Bool, true, false, cond, List, [], ◌∷◌, length, nat_le, slice_index, is_none, take, Option, Some, None, Result, Ok, Err, OnOk, refl, sym, ◌∙◌, ap, subst}
use Rattle.own_model.specs.LinesOfName.{said_by}
use Rattle.own_model.specs.Listed.{Listed}
use Rattle.own_model.specs.Transcript.{longest_line}
use Rattle.own_model.specs.World.{World}
use Rattle.line_friendly.specs.Friendly.{FriendlyLine, end_of, said_of, trimmed_line}
use Rattle.line_friendly.specs.Friendly.FriendlyLine.{Nothing as NoContent, Log as LogContent, Call as CallContent}
use Rattle.line_friendly.specs.Theorems.{IsBare, IsPlain}
use Rattle.line_friendly.proofs.PlainLemmas.{plain_lines_pass}
use Rattle.line_friendly.specs.declared.fault.FriendlyFault.{FriendlyFault}
use Rattle.line_friendly.specs.Words.{next_word}
use Rattle.run_lines.specs.Answered.{after_all}
use Rattle.run_lines.specs.declared.line_answer.LineAnswer.{LineAnswer}
use Rattle.run_lines.proofs.ToldLemmas.{left_none, said_none}
use Rattle.line_names.specs.Directives.{directive_by, directive_of}
use Rattle.line_names.specs.Filling.{FilledLine, BoundName, body_of, filled, filled_parts, front_length, source_column, source_from, whole}
use Rattle.line_names.specs.NameTable.{NameTable}
use Rattle.line_names.specs.Learning.{learnt, learnt_of}
use Rattle.line_names.specs.RoundMarks.{RoundMark}
use Rattle.line_friendly.specs.Expected.{meets}
use Rattle.line_steps.specs.ResolvedLines.{ResolvedLine, is_skipped, resolved_by, resolved_content, resolved_filled}
use Rattle.line_steps.specs.ResolvedLines.ResolvedLine.{TooLong, Skipped, BadName, Follow, Misplaced, Nothing, Log, Call, BadLine}
use Rattle.line_steps.specs.ResolvedViews.{resolved_view}
use Rattle.run_scenario.specs.CallAnswers.{AnswersIn, IsAnsweredCall, TakesStep}
use Rattle.run_scenario.specs.Judging.{AnswerText, answer_to, text_in}
use Rattle.run_scenario.specs.LineSteps.{AreBare, Arrives, bare_content, bare_line, calls_in, is_meant_line, learnt_by, learnt_from, left_behind, next_position, plain_line, resolved_at, position_after, position_with, steps_from_line, steps_of}
use Rattle.line_steps.specs.RunPosition.{RunPosition, arrived, arrived_at, crosses, is_due, number_after, passed}
use Rattle.run_scenario.specs.UnknownNames.{names_unknown}
use Rattle.run_scenario.specs.declared.call_observer.ObservedCall.{ObservedCall}
use Rattle.run_scenario.specs.declared.line_step.LineStep.{LineStep}
use Rattle.run_scenario.proofs.PlayedLemmas.{resolved_own}

-- ---- how it has its turn

module _ {only : Option (List ℕ)} {number : ℕ} where
  -- what a line is may be told in other words
  pub step_as : {resolved here : ResolvedLine} {old new : World} {step : LineStep} → resolved ≡ here → TakesStep only number resolved old new step → TakesStep only number here old new step
  step_as {old = old} {new = new} {step = step} is takes = subst (λ d. TakesStep only number d old new step) is takes

  -- by the turn itself
  pub step_viewed : {resolved : ResolvedLine} {old new : World} {step : LineStep} → TakesStep only number resolved old new step → TakesStep only number (resolved_view step.resolved) old new step
  step_viewed takes = step_as (sym takes.resolved_is) takes

-- nothing is answered where there is no call
pub answers_none : (only : Option (List ℕ)) (world : World) (number : ℕ) (calls : List (List ℕ)) → calls ≡ [] → (world ≡ after_all only world calls) × IsAnsweredCall only world number calls None
answers_none only world number calls none = (
  sym (ap (after_all only world) none ∙ left_none only world),
  ap (said_by only) none ∙ said_none only,
)

-- ---- what names stand for then

-- a line without names to be bound binds none
same_known : (meets : Bool) (known : NameTable) → cond meets known known ≡ known
same_known true known = refl
same_known false known = refl

learnt_none : (known : NameTable) (f : FilledLine) (reply : List ℕ) → f.holes ≡ [] → learnt known f reply ≡ known
learnt_none known f reply none =
    ap (λ (holes : List BoundName). cond (meets reply f.expected) (learnt_of known reply f.expected holes) known) none ∙ same_known (meets reply f.expected) known

module _ (only : Option (List ℕ)) (world : World) where
  -- so its text is known
  pub answered_text : (list : Listed) (number : ℕ) (calls : List (List ℕ)) (o : Option ObservedCall) → IsAnsweredCall only world number calls o → text_in list o ≡ answer_to list world (said_by only calls)
  answered_text list number calls None none = sym (ap (answer_to list world) none)
  answered_text list number calls (Some it) is =
      (λ i. Some (text (is.answers.reply i) (is.answers.lines i))) ∙ sym (ap (answer_to list world) is.said)
    where
      text : List ℕ → List ℕ → AnswerText
      text reply lines = record { reply = reply; lines = lines; is_unknown = names_unknown list it.line.now }

  -- a call that is answered binds what its answer binds
  learns_answer : (known : NameTable) (f : FilledLine) (calls : List (List ℕ)) (answer : Option LineAnswer) → AnswersIn only world calls answer → learnt_by known f answer ≡ learnt_from world known f (said_by only calls)
  learns_answer known f calls None none = sym (ap (learnt_from world known f) none)
  learns_answer known f calls (Some answer) answers = ap (learnt known f) answers.2.reply ∙ sym (ap (learnt_from world known f) answers.1)

  -- so the play stands by the answer where it stands by the world
  pub stands_answered : (position : RunPosition) (resolved : ResolvedLine) (answer : Option LineAnswer) → AnswersIn only world (calls_in resolved) answer → position_with position resolved answer ≡ position_after only world position resolved
  stands_answered position TooLong answer answers = refl
  stands_answered position Skipped answer answers = refl
  stands_answered position (BadName fault) answer answers = refl
  stands_answered position (Follow directive) answer answers = refl
  stands_answered position (Misplaced column why) answer answers = refl
  stands_answered position Nothing answer answers = refl
  stands_answered position (Log text) answer answers = refl
  stands_answered position (Call f line reply) answer answers = ap (λ known. record position { known = known }) (learns_answer position.known f (line ∷ []) answer answers)
  stands_answered position (BadLine fault) answer answers = refl

  -- its number is passed, and no mark is
  next_number : (position : RunPosition) (resolved : ResolvedLine) → (position_after only world (passed position) resolved).number ≡ number_after position.number
  next_number position TooLong = refl
  next_number position Skipped = refl
  next_number position (BadName fault) = refl
  next_number position (Follow directive) = refl
  next_number position (Misplaced column why) = refl
  next_number position Nothing = refl
  next_number position (Log text) = refl
  next_number position (Call f line reply) = refl
  next_number position (BadLine fault) = refl

  same_ahead : (position : RunPosition) (resolved : ResolvedLine) → (position_after only world (passed position) resolved).ahead ≡ position.ahead
  same_ahead position TooLong = refl
  same_ahead position Skipped = refl
  same_ahead position (BadName fault) = refl
  same_ahead position (Follow directive) = refl
  same_ahead position (Misplaced column why) = refl
  same_ahead position Nothing = refl
  same_ahead position (Log text) = refl
  same_ahead position (Call f line reply) = refl
  same_ahead position (BadLine fault) = refl

-- whether marks are due behind a line is known before it
pub due_behind : (position : RunPosition) (resolved : ResolvedLine) (answer : Option LineAnswer) → is_due (position_with (passed position) resolved answer).number (position_with (passed position) resolved answer).ahead ≡ crosses position
due_behind position TooLong answer = refl
due_behind position Skipped answer = refl
due_behind position (BadName fault) answer = refl
due_behind position (Follow directive) answer = refl
due_behind position (Misplaced column why) answer = refl
due_behind position Nothing answer = refl
due_behind position (Log text) answer = refl
due_behind position (Call f line reply) answer = refl
due_behind position (BadLine fault) answer = refl

-- rounds begin or end behind the line
pub arrives : {T E : Type 0} (position mid next : RunPosition) (resolved : ResolvedLine) (answer : Option LineAnswer) (r : Result T E) → OnOk r (next ≡ arrived mid) → mid ≡ position_with (passed position) resolved answer →
    OnOk r (Arrives position resolved answer next)
arrives position mid next resolved answer (Ok done) leads is = record { is = leads ∙ ap arrived is }
arrives position mid next resolved answer (Err fault) leads is = tt

-- ---- bare lines

bare_filled : (known : NameTable) (line : List ℕ) → IsBare line → filled known line ≡ Ok (whole line)
bare_filled known line bare =
    ap (λ (o : Option ℕ). cond (is_none o || (slice_index (trimmed_line line) 0 == 33 || slice_index (trimmed_line line) 0 == 35)) (Ok (whole line)) (filled_parts known (front_length line) (body_of line))) bare.nameless

bare_says : (line : List ℕ) → IsBare line → directive_of line ≡ None
bare_says line bare =
    ap (λ b. cond b (Some (directive_by (next_word (trimmed_line (take (end_of line) line))).word (next_word (trimmed_line (take (end_of line) line))).rest)) None) bare.says

-- the columns of a bare line are those before substitution
bare_column : (known : NameTable) (line : List ℕ) (column : ℕ) → IsBare line → source_column known line column ≡ column
bare_column known line column bare =
    ap (λ (o : Option ℕ). cond (is_none o || (slice_index (trimmed_line line) 0 == 33 || slice_index (trimmed_line line) 0 == 35)) column (1 + source_from known 0 (column - 1) (body_of line))) bare.nameless

bare_said : (known : NameTable) (line : List ℕ) (said : Result FriendlyLine FriendlyFault) → IsBare line → resolved_content known line (whole line) said ≡ bare_content line said
bare_said known line (Ok NoContent) bare = refl
bare_said known line (Ok (LogContent text)) bare = refl
bare_said known line (Ok (CallContent call reply)) bare = refl
bare_said known line (Err fault) bare = ap (λ column. BadLine (record fault { column = column })) (bare_column known line fault.column bare)

bare_resolved : (known : NameTable) (line : List ℕ) → IsBare line → resolved_by known line (filled known line) ≡ resolved_content known line (whole line) (said_of line)
bare_resolved known line bare = ap (resolved_by known line) (bare_filled known line bare) ∙ ap (resolved_filled known line (whole line)) (bare_says line bare)

is_bare : (only : Option (List ℕ)) (position : RunPosition) (line : List ℕ) → IsBare line → resolved_at only position line ≡ bare_line only line
is_bare only position line bare =
    ap (λ resolved. cond (nat_le (length line) longest_line) (cond (is_skipped only line) Skipped resolved) TooLong) (bare_resolved position.known line bare ∙ bare_said position.known line (said_of line) bare)

pub resolved_plain : (only : Option (List ℕ)) (position : RunPosition) (line : List ℕ) → length line ≤ longest_line → is_skipped only line ≡ false → IsBare line → IsPlain line → plain_line line ≡ resolved_at only position line
resolved_plain only position line short own bare plain =
    sym (resolved_own only position line short own ∙ bare_resolved position.known line bare ∙ ap (resolved_content position.known line (whole line)) (plain_lines_pass line plain))

-- no reply binds a name of it
pub stands_whole : (position : RunPosition) (line : List ℕ) (answer : Option LineAnswer) → position ≡ record position { known = learnt_by position.known (whole line) answer }
stands_whole position line None = refl
stands_whole position line (Some answer) = sym (ap (λ known. record position { known = known }) (learnt_none position.known (whole line) answer.reply.now refl))

-- no mark is due where there is none
arrives_nowhere : (position : RunPosition) → position.ahead ≡ [] → arrived position ≡ position
arrives_nowhere position none =
    ap (arrived_at position.number position.known) none ∙ ap (λ (marks : List RoundMark). record { number = position.number; known = position.known; ahead = marks }) (sym none)

pub bare_steps : (only : Option (List ℕ)) (world : World) (position : RunPosition) (lines : List (List ℕ)) → position.ahead ≡ [] → AreBare lines → steps_of only world position lines ≡ steps_from_line only position.number lines
bare_steps only world position [] none bare = refl
bare_steps only world position (line ∷ lines) none bare =
    let is = is_bare only position line bare.0 in
    let left = left_behind only world position line in
    let after = position_after only world (passed position) (resolved_at only position line) in
    let next = next_position only world position line in
    let still : after.ahead ≡ [] = same_ahead only world position (resolved_at only position line) ∙ none in
    let stays : next ≡ after = arrives_nowhere after still in
    let number : next.number ≡ number_after position.number = ap (λ (s : RunPosition). s.number) stays ∙ next_number only world position (resolved_at only position line) in
    let rest = bare_steps only left next lines (ap (λ (s : RunPosition). s.ahead) stays ∙ still) bare.1 ∙ ap (λ n. steps_from_line only n lines) number in
    let crosses_none : crosses position ≡ false = ap (is_due (number_after position.number)) none in
    λ i. record { number = position.number; meant = is_meant_line line; resolved = is i; crosses = crosses_none i } ∷ rest i
