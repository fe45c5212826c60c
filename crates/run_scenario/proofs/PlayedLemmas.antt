-- Turns, one after others: the calls that are answered, and what is told of them.
use Rattle.std.proofs.Common.{◌≡◌, ℕ, ◌<◌, ◌≤◌, true, false, cond, List, [], ◌∷◌, ◌++◌, length, Option, None, arith, refl, sym, ◌∙◌, ap, append_assoc, append-nil}
use Rattle.std.proofs.lemmas.Grind.{flat_map-append}
use Rattle.own_model.specs.LinesOfName.{said_by}
use Rattle.own_model.specs.Transcript.{longest_line}
use Rattle.own_model.specs.World.{World, world_running}
use Rattle.own_model.proofs.RunningLemmas.{Tracks-none, transcript_after-running}
use Rattle.run_lines.specs.Answered.{after_all, output_of_lines}
use Rattle.run_lines.proofs.ToldLemmas.{left_by_both, left_none, said_by-append, said_none, running_transcript-append, world_running-append}
use Rattle.run_scenario.specs.RunCalls.{calls_answered, calls_of_steps, engine_text, text_of_calls, text_of_steps}
use Rattle.run_scenario.specs.LineSteps.{LineStep, call_of, calls_in, resolved_at, left_behind, next_position, position_behind, step_of, steps_of}
use Rattle.line_steps.specs.ResolvedLines.{is_skipped, resolved_by}
use Rattle.line_steps.specs.ResolvedLines.ResolvedLine.{TooLong, Skipped}
use Rattle.line_names.specs.Filling.{filled}
use Rattle.run_scenario.specs.Writes.{transcript_of}
use Rattle.line_steps.specs.RunPosition.{RunPosition}
use Rattle.run_scenario.proofs.SaidLemmas.{is_long, is_short}

-- what a line is that isn't too long, and isn't skipped
pub resolved_own : (only : Option (List ℕ)) (position : RunPosition) (line : List ℕ) → length line ≤ longest_line → is_skipped only line ≡ false → resolved_at only position line ≡ resolved_by position.known line (filled position.known line)
resolved_own only position line short own =
    ap (λ b. cond b (cond (is_skipped only line) Skipped (resolved_by position.known line (filled position.known line))) TooLong) (is_short (length line) short)
    ∙ ap (λ b. cond b Skipped (resolved_by position.known line (filled position.known line))) own

-- one that is skipped
pub resolved_skipped : (only : Option (List ℕ)) (position : RunPosition) (line : List ℕ) → length line ≤ longest_line → is_skipped only line ≡ true → Skipped ≡ resolved_at only position line
resolved_skipped only position line short skipped =
    sym (ap (λ b. cond b (cond (is_skipped only line) Skipped (resolved_by position.known line (filled position.known line))) TooLong) (is_short (length line) short)
    ∙ ap (λ b. cond b Skipped (resolved_by position.known line (filled position.known line))) skipped)

-- and one that is too long
pub resolved_long : (only : Option (List ℕ)) (position : RunPosition) (line : List ℕ) → longest_line < length line → resolved_at only position line ≡ TooLong
resolved_long only position line long =
    ap (λ b. cond b (cond (is_skipped only line) Skipped (resolved_by position.known line (filled position.known line))) TooLong) (is_long (length line) long)

-- there is a turn for each line
pub steps_length : (only : Option (List ℕ)) (world : World) (position : RunPosition) (lines : List (List ℕ)) → length (steps_of only world position lines) ≡ length lines
steps_length only world position [] = refl
steps_length only world position (line ∷ lines) = omega (arith, steps_length only (left_behind only world position line) (next_position only world position line) lines)

-- the calls of turns, and then of others
pub calls_of_steps-append : (xs ys : List LineStep) → calls_of_steps (xs ++ ys) ≡ calls_of_steps xs ++ calls_of_steps ys
calls_of_steps-append xs ys = flat_map-append (λ step. calls_in step.resolved) xs ys

-- of one
pub calls_of_steps-one : (step : LineStep) → calls_of_steps (step ∷ []) ≡ calls_in step.resolved
calls_of_steps-one step = append-nil (calls_in step.resolved)

-- what is told of a call that is answered
pub told_of_one : (tells : List (List ℕ) → ℕ → List ℕ → List ℕ) (earlier : List (List ℕ)) (number : ℕ) (call : List ℕ) (calls : List (List ℕ)) → calls ≡ call ∷ [] →
    tells earlier number call ≡ text_of_calls tells earlier number calls
told_of_one tells earlier number call calls is = rw is (sym (append-nil (tells earlier number call)))

module _ (only : Option (List ℕ)) where
  -- the calls that are answered of turns, and then of others
  pub answered-append : (earlier : List (List ℕ)) (xs ys : List LineStep) → (earlier ++ calls_answered only xs) ++ calls_answered only ys ≡ earlier ++ calls_answered only (xs ++ ys)
  answered-append earlier xs ys =
      append_assoc earlier (calls_answered only xs) (calls_answered only ys)
      ∙ ap (λ calls. earlier ++ calls) (sym (ap (said_by only) (calls_of_steps-append xs ys) ∙ said_by-append only (calls_of_steps xs) (calls_of_steps ys)))

  -- of one
  pub answered-one : (step : LineStep) → calls_answered only (step ∷ []) ≡ said_by only (calls_in step.resolved)
  answered-one step = ap (said_by only) (calls_of_steps-one step)

  -- the world that both leave
  left_by_turns : (world mid last : World) (xs ys : List LineStep) → mid ≡ after_all only world (calls_of_steps xs) → last ≡ after_all only mid (calls_of_steps ys) →
      last ≡ after_all only world (calls_of_steps (xs ++ ys))
  left_by_turns world mid last xs ys first then =
      left_by_both only world mid last (calls_of_steps xs) (calls_of_steps ys) first then ∙ ap (after_all only world) (sym (calls_of_steps-append xs ys))

  -- ---- the turns of lines, and then of others

  left_on : (world : World) (position : RunPosition) (x : List ℕ) (steps : List LineStep) →
      after_all only (left_behind only world position x) (calls_of_steps steps) ≡ after_all only world (calls_of_steps (step_of only position x ∷ steps))
  left_on world position x steps = left_by_both only world (left_behind only world position x) _ (call_of only position x) (calls_of_steps steps) refl refl

  steps_of-append : (world : World) (position : RunPosition) (xs ys : List (List ℕ)) →
      steps_of only world position (xs ++ ys)
      ≡ steps_of only world position xs ++ steps_of only (after_all only world (calls_of_steps (steps_of only world position xs))) (position_behind only world position xs) ys
  steps_of-append world position [] ys = ap (λ w. steps_of only w position ys) (sym (left_none only world))
  steps_of-append world position (x ∷ xs) ys =
      let left = left_behind only world position x in
      let next = next_position only world position x in
      ap (λ steps. step_of only position x ∷ steps)
      (steps_of-append left next xs ys
      ∙ ap (λ w. steps_of only left next xs ++ steps_of only w (position_behind only left next xs) ys) (left_on world position x (steps_of only left next xs)))

  position_behind-append : (world : World) (position : RunPosition) (xs ys : List (List ℕ)) →
      position_behind only world position (xs ++ ys) ≡ position_behind only (after_all only world (calls_of_steps (steps_of only world position xs))) (position_behind only world position xs) ys
  position_behind-append world position [] ys = ap (λ w. position_behind only w position ys) (sym (left_none only world))
  position_behind-append world position (x ∷ xs) ys =
      let left = left_behind only world position x in
      let next = next_position only world position x in
      position_behind-append left next xs ys
      ∙ ap (λ w. position_behind only w (position_behind only left next xs) ys) (left_on world position x (steps_of only left next xs))

  module _ (world mid : World) (position next : RunPosition) (xs ys : List (List ℕ)) (left : mid ≡ after_all only world (calls_of_steps (steps_of only world position xs)))
      (stands : next ≡ position_behind only world position xs) where
    pub more_steps : steps_of only world position xs ++ steps_of only mid next ys ≡ steps_of only world position (xs ++ ys)
    more_steps = (λ i. steps_of only world position xs ++ steps_of only (left i) (stands i) ys) ∙ sym (steps_of-append world position xs ys)

    pub position_more : position_behind only mid next ys ≡ position_behind only world position (xs ++ ys)
    position_more = (λ i. position_behind only (left i) (stands i) ys) ∙ sym (position_behind-append world position xs ys)

    pub left_more : (last : World) → last ≡ after_all only mid (calls_of_steps (steps_of only mid next ys)) → last ≡ after_all only world (calls_of_steps (steps_of only world position (xs ++ ys)))
    left_more last then =
        left_by_turns world mid last (steps_of only world position xs) (steps_of only mid next ys) left then ∙ ap (λ steps. after_all only world (calls_of_steps steps)) more_steps

    pub answered_more : (earlier : List (List ℕ)) →
        (earlier ++ calls_answered only (steps_of only world position xs)) ++ calls_answered only (steps_of only mid next ys) ≡ earlier ++ calls_answered only (steps_of only world position (xs ++ ys))
    answered_more earlier =
        answered-append earlier (steps_of only world position xs) (steps_of only mid next ys) ∙ ap (λ steps. earlier ++ calls_answered only steps) more_steps

  module _ (tells : List (List ℕ) → ℕ → List ℕ → List ℕ) where
    -- what is told of both
    text_of_steps-append : (earlier : List (List ℕ)) (xs ys : List LineStep) →
        text_of_steps tells only earlier (xs ++ ys) ≡ text_of_steps tells only earlier xs ++ text_of_steps tells only (earlier ++ calls_answered only xs) ys
    text_of_steps-append earlier [] ys =
        let none : earlier ++ calls_answered only [] ≡ earlier = ap (λ calls. earlier ++ calls) (said_none only) ∙ append-nil earlier in
        rw none refl
    text_of_steps-append earlier (x ∷ xs) ys =
        let next = earlier ++ said_by only (calls_in x.resolved) in
        let told = text_of_calls tells earlier x.number (said_by only (calls_in x.resolved)) in
        let calls : next ++ calls_answered only xs ≡ earlier ++ calls_answered only (x ∷ xs) =
        ap (λ c. (earlier ++ c) ++ calls_answered only xs) (sym (answered-one x)) ∙ answered-append earlier (x ∷ []) xs in
        ap (λ text. told ++ text) (text_of_steps-append next xs ys)
        ∙ sym (append_assoc told (text_of_steps tells only next xs) (text_of_steps tells only (next ++ calls_answered only xs) ys))
        ∙ ap (λ c. text_of_steps tells only earlier (x ∷ xs) ++ text_of_steps tells only c ys) calls

    pub told_more : (world mid : World) (position next : RunPosition) (earlier xs ys : List (List ℕ)) → mid ≡ after_all only world (calls_of_steps (steps_of only world position xs)) →
        next ≡ position_behind only world position xs →
        text_of_steps tells only earlier (steps_of only world position xs) ++ text_of_steps tells only (earlier ++ calls_answered only (steps_of only world position xs)) (steps_of only mid next ys)
        ≡ text_of_steps tells only earlier (steps_of only world position (xs ++ ys))
    told_more world mid position next earlier xs ys left stands =
        sym (text_of_steps-append earlier (steps_of only world position xs) (steps_of only mid next ys))
        ∙ ap (text_of_steps tells only earlier) (more_steps world mid position next xs ys left stands)

    -- of one
    pub text_of_steps-one : (earlier : List (List ℕ)) (step : LineStep) →
        text_of_calls tells earlier step.number (said_by only (calls_in step.resolved)) ≡ text_of_steps tells only earlier (step ∷ [])
    text_of_steps-one earlier step = sym (append-nil (text_of_calls tells earlier step.number (said_by only (calls_in step.resolved))))

-- ---- the engine's transcript

told_calls_as_engine : (start : World) (earlier : List (List ℕ)) (number : ℕ) (calls : List (List ℕ)) →
    text_of_calls (engine_text start) earlier number calls ≡ output_of_lines None (world_running start earlier) calls
told_calls_as_engine start earlier number [] = refl
told_calls_as_engine start earlier number (call ∷ calls) =
    let told = output_of_lines None (world_running start earlier) (call ∷ []) in
    ap (λ text. told ++ text) (told_calls_as_engine start (earlier ++ call ∷ []) number calls)
    ∙ ap (λ world. told ++ output_of_lines None world calls) (sym (world_running-append start earlier (call ∷ [])))
    ∙ sym (running_transcript-append (world_running start earlier) (call ∷ []) calls)

-- is what is told of all turns' calls
steps_told_as_engine : (only : Option (List ℕ)) (start : World) (earlier : List (List ℕ)) (steps : List LineStep) →
    text_of_steps (engine_text start) only earlier steps ≡ output_of_lines None (world_running start earlier) (calls_answered only steps)
steps_told_as_engine only start earlier [] = sym (ap (output_of_lines None (world_running start earlier)) (said_none only))
steps_told_as_engine only start earlier (step ∷ steps) =
    let here = said_by only (calls_in step.resolved) in
    let world = world_running start earlier in
    ap (λ text. text ++ text_of_steps (engine_text start) only (earlier ++ here) steps) (told_calls_as_engine start earlier step.number here)
    ∙ ap (λ text. output_of_lines None world here ++ text) (steps_told_as_engine only start (earlier ++ here) steps)
    ∙ ap (λ w. output_of_lines None world here ++ output_of_lines None w (calls_answered only steps)) (sym (world_running-append start earlier here))
    ∙ sym (running_transcript-append world here (calls_answered only steps))
    ∙ ap (output_of_lines None world) (sym (said_by-append only (calls_in step.resolved) (calls_of_steps steps)))

-- which is the transcript of the calls
pub told_as_engine : (only : Option (List ℕ)) (start : World) (steps : List LineStep) → text_of_steps (engine_text start) only [] steps ≡ transcript_of only start steps
told_as_engine only start steps =
    steps_told_as_engine only start [] steps
    ∙ sym (transcript_after-running start.entries start.states start.states [] (calls_answered only steps) (Tracks-none start.entries start.states))
